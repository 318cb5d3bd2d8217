-- The first width that fits. Assumes nothing.
use Rattle.std.proofs.Common.{ℕ, Option, ◌≡◌, ◌∙◌, ap, subst, sym, rules, tests}
use Rattle.std.specs.Option.{unwrap_or}
use Rattle.std.proofs.lemmas.Iterator.Adapters.{option_map_id}
use Rattle.std.proofs.lemmas.Iterator.{YieldsList-from_slice}
use Rattle.std.proofs.lemmas.Iterator.Consumers.{YieldsList-from_copied}
use Rattle.std.proofs.lemmas.Iterator.Search.{find_from_yields_List}
use Rattle.log_chart.specs.Chart.{fits, width_of, widths}
use Rattle.log_chart.proofs.ChartLaws.{IsWidth, first_found, width_small}
use Rattle.log_chart.proofs.scale.width_of.Goals as goal

pub returns : goal.returns
returns c =
    let l = c.args.left in
    let r = c.args.right in
    let found =
    find_from_yields_List (λ w. fits l r w) _ _ c.find.result c.find.ensures.ran
    (YieldsList-from_copied (YieldsList-from_slice widths cc)) (λ x b q k. search (rules, tests)) in
    let is : c.unwrap_or.result ≡ width_of l r =
    c.unwrap_or.ensures ∙ ap (λ (o : Option ℕ). unwrap_or o 2000000) (sym (option_map_id c.find.result) ∙ found) ∙ first_found l r widths in
    let small : IsWidth c.unwrap_or.result = subst IsWidth (sym is) (width_small l r) in
    (is, small.0, small.1)
