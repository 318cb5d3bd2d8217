-- One place more.
use Rattle.std.proofs.Common.{ℕ, ◌≡◌, ◌+◌, ◌-◌, ◌∙◌, ap, arith}
use Rattle.base_lists.proofs.AllBelow.{all_below_none, all_below_live}
use Rattle.part_gaps.specs.Cells.{cell}
use Rattle.part_gaptest.proofs.Test.{in_range_row, in_range_bounded}
use Rattle.part_gaptest.proofs.Ways.{few_fits, few_turn, lift_at}
use Rattle.part_gaptest.specs.Test.{holds}
use Rattle.part_gaptest.proofs.triangle.few_way_holds.Goals as goal

pub loop-k-init : goal.loop-k-init
loop-k-init c = record { small = omega arith; told = all_below_none _ }

pub lifted_by-all-requires : goal.lifted_by-all-requires
lifted_by-all-requires c =
    let A = c.args in
    let k = c.loop-k.k in
    let p = c.requires.n_value in
    let row = in_range_row A.t.now A.n (omega arith) p.0 in
    let fits = few_fits A.n k 0 _ _ (omega arith) (row A.i k (omega arith) (omega arith)) (row A.j k (omega arith) (omega arith)) in
    let e = lift_at A.lifts.now A.n k p.1 (omega arith) (omega arith) in
    (in_range_bounded A.t.now A.n (omega arith) p.0 A.i A.j (omega arith) (omega arith), fits.1, omega (arith, e), omega (arith, e))

pub loop-k-preserved : goal.loop-k-preserved
loop-k-preserved c =
    let A = c.args in
    let L = c.loop-k in
    let p = c.requires.n_value in
    let row = in_range_row A.t.now A.n (omega arith) p.0 in
    let e = lift_at A.lifts.now A.n L.k p.1 (omega arith) (omega arith) in
    let first = in_range_bounded A.t.now A.n (omega arith) p.0 A.i A.j (omega arith) (omega arith) in
    let new = c.lifted_by-all.ensures ∙ ap (λ (z : ℕ). cell A.t.now A.i A.j + (z - cell A.t.now A.i L.k) + cell A.t.now A.j L.k) e in
    let turn =
    few_turn A.t.now A.n A.i A.j L.k L.all _ (omega arith) first (row A.i L.k (omega arith) (omega arith)) (row A.j L.k (omega arith) (omega arith))
    L.invariant.small L.invariant.told new in
    record { small = turn.0; told = turn.1 }

pub returns : goal.returns
returns c =
    let A = c.args in
    let e : c.loop-k.k ≡ 16 = omega arith in
    rw e at c.loop-k.invariant.told ∙ all_below_live (holds A.t.now A.i A.j) A.n 16 (omega arith)
