-- One point more.
use Rattle.std.proofs.Common.{◌+◌, ◌∙◌, arith}
use Rattle.spec_stn.specs.Table.{bias}
use Rattle.part_gaps.proofs.Grown.{grown_none, grown_next, grown_column}
use Rattle.part_gaps.proofs.growing.grow.Goals as goal

pub loop-k-init : goal.loop-k-init
loop-k-init c = let A = c.args in grown_none A.t.now A.n A.most (omega arith) (omega arith)

pub hang-requires-clause-by_index : goal.hang-requires-clause-by_index
hang-requires-clause-by_index c =
    let A = c.args in
    let L = c.loop-k in
    λ i h.
    rw L.invariant (grown_column A.t.now A.n L.k A.most (omega arith) (omega arith) (bias + bias) (omega arith) c.requires.by_index i h)

pub loop-k-preserved : goal.loop-k-preserved
loop-k-preserved c =
    let A = c.args in
    let L = c.loop-k in
    c.hang.ensures ∙ grown_next A.t.now L.t A.n L.k A.most (omega arith) (omega arith) (omega arith) L.invariant
