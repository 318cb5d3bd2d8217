-- The first cells as a list that was built.
use Rattle.std.proofs.Common.{◌∙◌}
use Rattle.base_lists.proofs.Parts.{first_built}
use Rattle.part_gaps.proofs.copying.first_cells.Goals as goal

pub returns-clause-first : goal.returns-clause-first
returns-clause-first g c = c.copy_from_slice.ensures.after ∙ first_built _ _ c.requires
