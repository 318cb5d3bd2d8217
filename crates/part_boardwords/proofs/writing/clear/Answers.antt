-- `fill` writes 0 to each place of the part.
use Rattle.std.proofs.Common.{arith}
use Rattle.base_lists.proofs.Parts.{part_filled}
use Rattle.part_boardwords.proofs.writing.clear.Goals as goal

pub returns : goal.returns
returns c = part_filled 0 _ _ _ _ _ c.fill.ensures.after (omega arith) (omega arith)
