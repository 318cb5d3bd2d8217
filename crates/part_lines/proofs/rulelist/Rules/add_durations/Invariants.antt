-- The loop goes down the list of steps: the rules so far and those of the steps that are left are all that is wanted (`Growing`), and two places
-- are used up by each step.
use Rattle.std.proofs.Common.{◌++◌, ◌+◌, ◌-◌, ◌*◌, drop}
use Rattle.spec_plain.specs.Limits.{most_steps}
use Rattle.spec_plain.specs.Plain.{durations}
use Rattle.part_lines.specs.ArrayLists.{rules_of}
use Rattle.part_lines.proofs.RuleLaws.{Growing}
use Rattle.part_lines.proofs.rulelist.Rules.add_durations.Given as goal

abbrev pub invariant-loop-k : goal.invariant-loop-k
invariant-loop-k l = Growing (rules_of l.initial.self ++ durations l.x l.steps) l.self (durations (l.x + l.k) (drop l.k l.steps))
    (2 * most_steps - (l.k + l.k))
