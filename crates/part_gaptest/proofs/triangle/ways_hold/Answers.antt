-- One cell more.
use Rattle.std.proofs.Common.{◌≡◌, ◌∙◌, arith}
use Rattle.base_lists.proofs.AllBelow.{all_below_none, all_below_both}
use Rattle.part_gaptest.proofs.Ways.{ways_turn}
use Rattle.part_gaptest.specs.Test.{holds}
use Rattle.part_gaptest.proofs.triangle.ways_hold.Goals as goal

pub loop-k-init : goal.loop-k-init
loop-k-init c = record { small = omega arith; told = all_below_none _ }

pub lifted-requires : goal.lifted-requires
lifted-requires c =
    let A = c.args in
    let k = c.loop-k.k in
    let at = c.requires.bounded in
    (at A.i A.a (omega arith) (omega arith), at A.a k (omega arith) (omega arith), at A.i k (omega arith) (omega arith))

pub lifted-requires-in-loop-k : goal.lifted-requires-in-loop-k
lifted-requires-in-loop-k c =
    let A = c.args in
    let k = c.loop-k.k in
    let at = c.requires.bounded in
    (at A.i A.b (omega arith) (omega arith), at A.b k (omega arith) (omega arith), at A.i k (omega arith) (omega arith))

pub loop-k-preserved : goal.loop-k-preserved
loop-k-preserved c =
    let A = c.args in
    let L = c.loop-k in
    let at = c.requires.bounded in
    let turn =
    ways_turn A.t.now A.i A.a A.b L.k L.all _ _ (at A.i A.a (omega arith) (omega arith)) (at A.i A.b (omega arith) (omega arith))
    (at A.a L.k (omega arith) (omega arith)) (at A.b L.k (omega arith) (omega arith)) (at A.i L.k (omega arith) (omega arith)) L.invariant.small
    L.invariant.told c.lifted.ensures c.lifted-in-loop-k.ensures in
    record { small = turn.0; told = turn.1 }

pub returns : goal.returns
returns c =
    let A = c.args in
    let e : c.loop-k.k ≡ A.n = omega arith in
    rw e at c.loop-k.invariant.told ∙ all_below_both (holds A.t.now A.i A.a) (holds A.t.now A.i A.b) A.n
