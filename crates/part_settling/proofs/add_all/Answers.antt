-- The rule of a turn is the first of those that are left.
use Rattle.std.proofs.Common.{◌≡◌, ◌+◌, ◌∷◌, drop, sym, ◌∙◌, get_or}
use lib.ListN.{drop_of_length-le}
use Rattle.part_lines.specs.ArrayLists.{no_rule}
use Rattle.part_settling.proofs.Adding.{next_left, ends, stops, agree, goes_on}
use Rattle.part_settling.proofs.add_all.Goals as goal
use Rattle.part_settling.proofs.add_all.Goals.{In-loop-rule}

next_at :
    (c : In-loop-rule)
    → drop c.loop-rule.rule-index c.args.rules.now
    ≡ get_or c.args.rules.now c.loop-rule.rule-index no_rule ∷ drop (c.loop-rule.rule-index + 1) c.args.rules.now
next_at c = next_left c.args.rules.now c.loop-rule.rule-index no_rule c.loop-rule-test.true

pub returns-then-not-is_consistent-clause-tried : goal.returns-then-not-is_consistent-clause-tried
returns-then-not-is_consistent-clause-tried c =
    stops c.loop-rule.invariant _ _ (next_at (goal.at.returns-then-not-is_consistent-clause-tried c).In-loop-rule) _
    (sym c.is_consistent.ensures ∙ c.if-not-is_consistent.true)

pub add_new-requires-clause-closed : goal.add_new-requires-clause-closed
add_new-requires-clause-closed c =
    let s = c.loop-rule.invariant in (
      s.closed,
      agree s _ _ (next_at (goal.at.add_new-requires-clause-closed c).In-loop-rule) (sym c.is_consistent.ensures ∙ c.if-not-is_consistent.false),
    )

pub loop-rule-preserved : goal.loop-rule-preserved
loop-rule-preserved c =
    goes_on c.loop-rule.invariant _ _ (next_at (goal.at.loop-rule-preserved c).In-loop-rule) c.requires.t_len.1 _
    (sym c.is_consistent.ensures ∙ c.if-not-is_consistent.false) c.add_new.ensures

pub returns-clause-tried : goal.returns-clause-tried
returns-clause-tried c = ends c.loop-rule.invariant (drop_of_length-le c.args.rules.now c.loop-rule-test.false)
