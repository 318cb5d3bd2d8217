-- The differences joined so far have the top bit exactly where the cells before k hold, as far as they are live.
use Rattle.std.proofs.Common.{◌≡◌, ◌<◌}
use mathlib.Core.Bool.{◌||◌}
use lib.Dec.{leb}
use Rattle.base_lists.specs.Loops.{all_below}
use Rattle.part_gaptest.specs.Test.{holds, top}
use Rattle.part_gaptest.proofs.triangle.few_way_holds.Given as goal

abbrev pub invariant-loop-k : goal.invariant-loop-k
invariant-loop-k l = record {
  small : l.all < 4294967296;
  told : leb top l.all ≡ all_below (λ m. leb l.n m || holds l.t l.i l.j m) l.k;
}
