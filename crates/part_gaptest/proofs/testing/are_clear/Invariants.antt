-- The cells joined are 0 exactly where those before the one at hand are.
use Rattle.std.proofs.Common.{◌≡◌}
use lib.Dec.{eqb}
use Rattle.part_gaptest.specs.Test.{clear}
use Rattle.part_gaptest.proofs.testing.are_clear.Given as goal

abbrev pub invariant-loop-cell : goal.invariant-loop-cell
invariant-loop-cell l = eqb l.all 0 ≡ clear l.cells 0 l.cell-index
