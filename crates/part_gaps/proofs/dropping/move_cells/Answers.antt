-- The cells to read are still as they were.
use Rattle.std.proofs.Common.{ℕ, ◌≡◌, ◌+◌, ◌-◌, ◌∙◌, ap, get_or, arith}
use Rattle.base_lists.proofs.Rewritten.{rewritten_none, store, ahead}
use Rattle.part_gaps.proofs.dropping.move_cells.Goals as goal

pub loop-k-init : goal.loop-k-init
loop-k-init c = rewritten_none _ _ _ _ (omega arith)

pub loop-k-preserved : goal.loop-k-preserved
loop-k-preserved c =
    let A = c.args in
    let L = c.loop-k in
    let f : ℕ → ℕ = λ i. get_or A.t.now (A.from + (i - A.to)) 0 in
    let at = A.to + L.k in
    let same : A.from + L.k ≡ A.from + (at - A.to) = omega arith in
    store f A.t.now L.t A.to at L.invariant _ _ (omega arith) (omega arith) (omega arith)
    (ahead f A.t.now L.t A.to at L.invariant (A.from + L.k) (omega arith) ∙ ap (λ (i : ℕ). get_or A.t.now i 0) same)
