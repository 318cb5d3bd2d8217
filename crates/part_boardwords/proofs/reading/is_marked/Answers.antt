-- The definition itself.
use Rattle.std.proofs.Common.{refl}
use Rattle.part_boardwords.specs.Words.{is_marked}
use Rattle.part_boardwords.proofs.reading.is_marked.Goals as goal

pub returns : goal.returns
unfolding is_marked
returns c = refl
