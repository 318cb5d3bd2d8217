-- One way more, and one that fails.
use Rattle.std.proofs.Common.{◌≡◌, sym, ◌∙◌, arith}
use Rattle.base_lists.proofs.AllBelow.{all_below_none, all_below_passes, all_below_fails}
use Rattle.part_gaptest.proofs.triangle.few_row_holds.Goals as goal

pub loop-j-init : goal.loop-j-init
loop-j-init c = sym (all_below_none _)

pub returns-then-not-few_way_holds : goal.returns-then-not-few_way_holds
returns-then-not-few_way_holds c =
    all_below_fails _ _ c.loop-j.j (omega arith) (sym c.few_way_holds.ensures ∙ c.if-not-few_way_holds.true)

pub loop-j-preserved : goal.loop-j-preserved
loop-j-preserved c = all_below_passes _ c.loop-j.j c.loop-j.invariant (sym c.few_way_holds.ensures ∙ c.if-not-few_way_holds.false)

pub returns : goal.returns
returns c =
    let e : c.loop-j.j ≡ c.args.n = omega arith in
    sym (rw e at c.loop-j.invariant)
