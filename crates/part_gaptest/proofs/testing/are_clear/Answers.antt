-- One cell more.
use Rattle.std.proofs.Common.{ℕ, ◌+◌, ◌∙◌, get_or, ap, arith}
use mathlib.Core.Bool.{Bool}
use lib.Dec.{eqb}
use Rattle.base_lists.proofs.AllBelow.{all_below_none, all_below_next}
use Rattle.part_gaptest.proofs.Test.{none_joined}
use Rattle.part_gaptest.proofs.testing.are_clear.Goals as goal

pub loop-cell-init : goal.loop-cell-init
loop-cell-init c = all_below_none _

pub loop-cell-preserved : goal.loop-cell-preserved
loop-cell-preserved c =
    let L = c.loop-cell in
    let cells = c.args.cells.now in
    let f : ℕ → Bool = λ k. eqb (get_or cells (0 + k) 0) 0 in
    none_joined L.all (get_or cells L.cell-index 0)
    ∙ all_below_next f L.cell-index _ _ L.invariant (ap (λ (k : ℕ). eqb (get_or cells k 0) 0) {x = L.cell-index} {y = 0 + L.cell-index} (omega arith))
