-- The gap to the origin, whose place is not written, makes the gap to the new point.
use Rattle.std.proofs.Common.{ℕ, ◌≡◌, ◌+◌, ◌*◌, ◌∙◌, List, ap, get_or, arith}
use Rattle.spec_plain.specs.Limits.{side}
use Rattle.base_lists.proofs.Rewritten.{rewritten_none, ahead}
use Rattle.base_lists.specs.Loops.{rewritten}
use Rattle.part_gaps.specs.Cells.{cell, hung_cell}
use Rattle.part_gaps.proofs.Grown.{column_next}
use Rattle.part_gaps.proofs.Overlaid.{origin_column}
use Rattle.part_gaps.proofs.growing.hang_column.Goals as goal

to_origin : (t₀ t : List ℕ) (n most i : ℕ) → t ≡ rewritten (hung_cell t₀ n most) t₀ 0 (i * side) → get_or t (i * side) 0 ≡ cell t₀ i 0
to_origin t₀ t n most i is = ahead _ t₀ t 0 (i * side) is (i * side) (omega arith) ∙ origin_column t₀ i

pub loop-i-init : goal.loop-i-init
loop-i-init c = rewritten_none _ _ 0 _ (omega arith)

pub overflow_add-t : goal.overflow_add-t
overflow_add-t c =
    let A = c.args in
    let L = c.loop-i in
    omega (arith, to_origin A.t.now L.t A.n A.most L.i L.invariant, c.requires.by_index L.i (omega arith))

pub loop-i-preserved : goal.loop-i-preserved
loop-i-preserved c =
    let A = c.args in
    let L = c.loop-i in
    column_next A.t.now A.n A.most (omega arith) (omega arith) L.t L.i _ (omega arith) L.invariant (omega arith)
    (ap (λ (x : ℕ). x + A.most) (to_origin A.t.now L.t A.n A.most L.i L.invariant))
