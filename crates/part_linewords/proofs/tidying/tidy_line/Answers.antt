-- All words behind the uses that the line holds are cleared (`tidy_put`).
use Rattle.std.proofs.Common.{arith}
use Rattle.part_linewords.proofs.Lines.{tidy_put}
use Rattle.part_linewords.proofs.tidying.tidy_line.Goals as goal

pub returns : goal.returns
returns c = tidy_put c.args.w.now _ c.args.at (omega arith) (omega arith) c.clear_uses.ensures
