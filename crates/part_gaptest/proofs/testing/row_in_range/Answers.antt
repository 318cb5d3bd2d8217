-- One cell more.
use Rattle.std.proofs.Common.{ℕ, ap}
use mathlib.Core.Bool.{Bool}
use lib.Dec.{leb}
use Rattle.base_lists.proofs.AllBelow.{all_below_none, all_below_next}
use Rattle.part_gaps.specs.Cells.{cell}
use Rattle.part_gaptest.specs.Test.{limit}
use Rattle.part_gaptest.proofs.testing.row_in_range.Goals as goal

pub loop-j-init : goal.loop-j-init
loop-j-init c = all_below_none _

pub loop-j-preserved : goal.loop-j-preserved
loop-j-preserved c =
    let A = c.args in
    let L = c.loop-j in
    let f : ℕ → Bool = λ k. leb (cell A.t.now A.i k) (limit A.n k) in
    all_below_next f L.j L.ok _ L.invariant (ap (leb (cell A.t.now A.i L.j)) c.limit.ensures)
