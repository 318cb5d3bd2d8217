-- The column, the row, which is moved from the first one, and the diagonal.
use Rattle.std.proofs.Common.{ℕ, ◌+◌, ◌*◌, ◌∙◌, ap, get_or, arith}
use Rattle.spec_plain.specs.Limits.{side}
use Rattle.base_lists.proofs.Parts.{cells_moved}
use Rattle.base_lists.proofs.Rewritten.{rewritten_same}
use Rattle.part_gaps.proofs.Grown.{hung_overlaid}
use Rattle.part_gaps.proofs.growing.hang.Goals as goal

pub returns : goal.returns
returns c =
    let A = c.args in
    let m = c.hang_column.new.t in
    let to = A.n * side in
    hung_overlaid A.t.now A.n A.most (omega arith) (omega arith) m c.copy_within.new.self (omega arith) c.hang_column.ensures (omega arith)
    (c.copy_within.ensures.after ∙ cells_moved m 0 to _ (to + A.n) (omega arith) (omega arith) (omega arith)
    ∙ rewritten_same _ _ m to (to + A.n) (λ k lo hi. ap (λ (i : ℕ). get_or m i 0) (omega arith)))
