-- The rules with the uses before and after it come behind the others.
use Rattle.std.proofs.Common.{◌≡◌, ℕ, ◌+◌, List, [], ◌++◌, ap, sym, ◌∙◌, append_assoc, option_to_list, length, arith}
use Rattle.spec_plain.specs.declared.Rule.{Rule}
use Rattle.spec_plain.specs.Plain.{Placed, placed, used_from, rule_before, rule_after}
use Rattle.part_lines.specs.ArrayLists.{rules_of, answered}
use Rattle.part_lines.specs.Asked.{Room}
use Rattle.part_lines.specs.Placing.{lines_with}
use Rattle.part_lines.proofs.RuleLaws.{extended, Room_less}
use Rattle.part_drafts.specs.Moment.{line_at, lines_at}
use Rattle.part_drafts.proofs.PlaceLaws.{placed_on}
use Rattle.part_drafts.proofs.placing.place_one.Goals as goal
use Rattle.part_drafts.proofs.placing.place_one.Goals.{After-extend, After-extend-2}

one : (n : ℕ) (c : After-extend) → Room (2 + n) c.args.rules.now
    → Room (1 + n) c.extend.new.self × (rules_of c.extend.new.self ≡ rules_of c.args.rules.now ++ option_to_list c.rule_before-before.result)
one n c room = extended _ _ (Room_less room (1 + (1 + n)) (omega arith)) c.extend.ensures

both : (n : ℕ) (c : After-extend-2) → Room (1 + n) c.extend.new.self
    → Room n c.extend-2.new.self × (rules_of c.extend-2.new.self ≡ rules_of c.extend.new.self ++ option_to_list c.rule_after-after.result)
both n c room = extended _ _ room c.extend-2.ensures

pub extend-requires-2 : goal.extend-requires-2
extend-requires-2 c = (one 0 (goal.at.extend-requires-2 c).After-extend c.requires.1).0

pub returns-clause-answer : goal.returns-clause-answer
unfolding answered placed
returns-clause-answer c =
    let m = c.args.moment in
    let p = c.args.allocation in
    let a = one 0 (goal.at.returns-clause-answer c).After-extend c.requires.1 in
    let b = both 0 (goal.at.returns-clause-answer c).After-extend-2 a.0 in
    let before : List Rule = rule_before m.settings (line_at m p.resource) p.place (used_from m.first p) in
    let after : List Rule = rule_after m.settings (line_at m p.resource) p.place (used_from m.first p) in
    let rules : rules_of c.extend-2.new.self ≡ rules_of c.args.rules.now ++ (before ++ after) =
    cc (a.1, b.1, append_assoc (rules_of c.args.rules.now) before after) in
    ap (Placed.done (lines_with m.first (lines_at m) p)) rules
    ∙ sym (placed_on m.settings m.first (length m.earlier.list.now) p [] (lines_at m) (rules_of c.args.rules.now) (omega arith) (omega arith))

pub returns-clause-room : goal.returns-clause-room
returns-clause-room c n room =
    (both n (goal.at.returns-clause-room c).After-extend-2 (one n (goal.at.returns-clause-room c).After-extend room).0).0
