-- The words of the use are copied to its place.
use Rattle.std.proofs.Common.{arith}
use Rattle.part_boardwords.specs.Codec.{use_words}
use Rattle.part_boardwords.proofs.Overwritten.{overwritten_put}
use Rattle.part_boardwords.proofs.writing.write_use.Goals as goal

pub returns : goal.returns
returns c = overwritten_put _ _ _ (use_words c.args.u) _ c.copy_from_slice.ensures.after (omega arith) (omega arith)
