-- The rule (b) alone, and then the rules (c).
use Rattle.std.proofs.Common.{◌≡◌, List, [], ◌∷◌, ◌++◌, ◌∙◌, ap, arith}
use Rattle.spec_plain.specs.Plain.{not_before, durations}
use Rattle.spec_plain.specs.declared.Rule.{Rule}
use Rattle.part_lines.specs.ArrayLists.{rules_from}
use Rattle.part_lines.proofs.RuleLaws.{Room_of, rules_back}
use Rattle.part_drafts.proofs.drafting.begin_rules.Goals as goal
use Rattle.part_drafts.proofs.drafting.begin_rules.Goals.{After-push}

first : (c : After-push) → c.push.new.self ≡ rules_from (not_before c.args.first c.args.earliest ∷ [])
first c =
    c.push.ensures ∙ ap (λ (l : List Rule). rules_from (l ++ (c.not_before.result ∷ []))) (rules_back c.new-rules.result [] c.new-rules.ensures (omega arith))
    ∙ ap (λ (r : Rule). rules_from (r ∷ [])) c.not_before.ensures

pub push-requires : goal.push-requires
push-requires c = Room_of c.new-rules.result [] 1 c.new-rules.ensures (omega arith)

pub add_durations-requires : goal.add_durations-requires
add_durations-requires c = (
  Room_of c.push.new.self (not_before c.args.first c.args.earliest ∷ []) 16 (first (goal.at.add_durations-requires c).After-push) (omega arith),
  c.requires.0,
  c.requires.1,
)

pub returns : goal.returns
returns c =
    c.add_durations.ensures
    ∙ ap (λ (l : List Rule). rules_from (l ++ durations c.args.first c.args.steps.now))
    (rules_back c.push.new.self (not_before c.args.first c.args.earliest ∷ []) (first (goal.at.returns c).After-push) (omega arith))
