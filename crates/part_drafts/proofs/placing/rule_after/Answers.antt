-- Behind the last use there is none; else it is the one at the place.
use Rattle.std.proofs.Common.{[], ◌∷◌, sym, ◌∙◌, ap, subst, arith}
use Rattle.spec_plain.specs.Plain.{in_order, used_from}
use Rattle.spec_plain.specs.declared.Use.{Use}
use Rattle.spec_plain.specs.declared.Rule.{Rule}
use Rattle.part_allocations.proofs.Read.{used_short}
use Rattle.part_lines.specs.Asked.{Short}
use Rattle.part_lines.proofs.RuleLaws.{after_none, after_at}
use Rattle.part_drafts.specs.Moment.{line_at}
use Rattle.part_drafts.proofs.placing.rule_after.Goals as goal

pub returns-then-number-place : goal.returns-then-number-place
returns-then-number-place c = after_none _ _ _ _ (omega arith)

pub in_order-requires : goal.in_order-requires
in_order-requires c = subst Short (sym c.used_from.ensures) (used_short c.args.moment.first c.args.allocation c.requires.0)

pub returns : goal.returns
returns c =
    let m = c.args.moment in
    let p = c.args.allocation in
    let u = used_from m.first p in
    ap (λ (r : Rule). r ∷ [])
    (c.in_order.ensures ∙ ap (λ (b : Use). in_order m.settings b c.use_in-after.result) c.used_from.ensures ∙ ap (in_order m.settings u) c.use_in-after.ensures)
    ∙ after_at m.settings (line_at m p.resource) p.place u (omega arith)
