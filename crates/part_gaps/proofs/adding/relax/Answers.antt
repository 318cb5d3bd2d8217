-- A turn reads a cell that no turn has written yet, and relaxes it.
use Rattle.std.proofs.Common.{◌≡◌, ◌+◌, ◌*◌, ◌%◌, ◌∙◌, arith}
use Rattle.spec_plain.specs.Limits.{side}
use Rattle.base_lists.proofs.Rewritten.{rewritten_none, store, ahead}
use Rattle.part_gaps.specs.Cells.{relaxed}
use Rattle.part_gaps.proofs.adding.relax.Goals as goal

pub loop-b-init : goal.loop-b-init
loop-b-init c = rewritten_none _ _ _ _ (omega arith)

pub loop-b-preserved : goal.loop-b-preserved
loop-b-preserved c =
    let A = c.args in
    let L = c.loop-b in
    let f = relaxed A.t.now A.row.now A.via A.cut in
    let from = A.a * side in
    let at = from + L.b in
    let column : at % side ≡ L.b = omega arith in
    store f A.t.now L.t from at L.invariant c.min.result _ (omega arith) (omega arith) (omega arith)
    (c.min.ensures ∙ rw (ahead f A.t.now L.t from at L.invariant at (omega arith), column))
