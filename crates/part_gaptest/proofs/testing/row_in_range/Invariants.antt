-- The first j cells are in range as far as ok says.
use Rattle.std.proofs.Common.{◌≡◌}
use lib.Dec.{leb}
use Rattle.base_lists.specs.Loops.{all_below}
use Rattle.part_gaps.specs.Cells.{cell}
use Rattle.part_gaptest.specs.Test.{limit}
use Rattle.part_gaptest.proofs.testing.row_in_range.Given as goal

abbrev pub invariant-loop-j : goal.invariant-loop-j
invariant-loop-j l = l.ok ≡ all_below (λ k. leb (cell l.t l.i k) (limit l.n k)) l.j
