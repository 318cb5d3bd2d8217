-- At place 0 there is no use before; else it is the one at place - 1.
use Rattle.std.proofs.Common.{◌-◌, [], ◌∷◌, sym, ◌∙◌, ap, subst, arith}
use Rattle.spec_plain.specs.Plain.{in_order, used_from}
use Rattle.spec_plain.specs.declared.Use.{Use}
use Rattle.spec_plain.specs.declared.Rule.{Rule}
use Rattle.part_lines.specs.Asked.{Short}
use Rattle.part_lines.proofs.RuleLaws.{before_none, before_at}
use Rattle.part_drafts.specs.Moment.{line_at}
use Rattle.part_drafts.proofs.Moments.{then_short}
use Rattle.part_drafts.proofs.placing.rule_before.Goals as goal

pub returns-then-place-eq0 : goal.returns-then-place-eq0
returns-then-place-eq0 c = before_none _ _ _ _ c.if-place-eq0.true

pub in_order-requires : goal.in_order-requires
in_order-requires c =
    let m = c.args.moment in
    subst Short (sym c.use_in-before.ensures)
    (then_short m.first m.w.now m.earlier.list.now c.args.allocation.resource m.lined m.earlier.read (c.args.allocation.place - 1))

pub returns : goal.returns
returns c =
    let m = c.args.moment in
    let p = c.args.allocation in
    let u = used_from m.first p in
    ap (λ (r : Rule). r ∷ [])
    (c.in_order.ensures ∙ ap (in_order m.settings _) c.used_from.ensures ∙ ap (λ (b : Use). in_order m.settings b u) c.use_in-before.ensures)
    ∙ before_at m.settings (line_at m p.resource) p.place (p.place - 1) u (omega arith)
