-- Sixteen places filled.
use Rattle.std.proofs.Common.{◌∙◌, replicate, arith}
use Rattle.base_lists.proofs.Parts.{front_filled}
use Rattle.part_gaptest.proofs.Ways.{lift_row}
use Rattle.part_gaptest.specs.Test.{top}
use Rattle.part_gaptest.proofs.triangle.lift_row.Goals as goal

pub returns : goal.returns
returns c = front_filled _ (replicate 32 top) _ 16 c.fill.ensures.after (omega arith) ∙ lift_row
