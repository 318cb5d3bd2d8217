-- The ways by the points before j hold.
use Rattle.std.proofs.Common.{◌≡◌, ◌≤◌, ◌-◌, true}
use Rattle.base_lists.specs.Loops.{all_below}
use Rattle.part_gaptest.specs.Test.{way_holds}
use Rattle.part_gaptest.proofs.triangle.row_holds.Given as goal

abbrev pub invariant-loop-j : goal.invariant-loop-j
invariant-loop-j l = record {
  within : l.j ≤ l.n;
  told : all_below (way_holds l.t l.n l.i) l.j ≡ true;
}

abbrev pub decreases-loop-j : goal.decreases-loop-j
decreases-loop-j l = l.n - l.j
