-- The definition itself: the count, and then the uses.
use Rattle.std.proofs.Common.{◌∙◌}
use borrow.Author.Tests.{le-leb, lt-leb}
use Rattle.part_sound.specs.Sound.{sized_line}
use Rattle.part_sound.proofs.Flags.{fails, passes}
use Rattle.part_sound.proofs.lining.is_line_sized.Goals as goal

pub returns-then-w-at : goal.returns-then-w-at
unfolding sized_line
returns-then-w-at c = passes (le-leb _ _ c.if-w-at.true) c.are_uses_sized.ensures

pub returns-else-w-at : goal.returns-else-w-at
unfolding sized_line
returns-else-w-at c = let many = lt-leb _ _ c.if-w-at.false in many ∙ fails _ many
