-- Each of the two rules comes behind the others, if there is one.
use Rattle.std.proofs.Common.{◌≡◌, ◌++◌, append_assoc, option_to_list}
use Rattle.part_lines.specs.ArrayLists.{rules_of}
use Rattle.part_lines.specs.Asked.{Room}
use Rattle.part_lines.proofs.RuleLaws.{extended}
use Rattle.part_jobwords.proofs.words.JobWords.add_last_rules.Goals as goal
use Rattle.part_jobwords.proofs.words.JobWords.add_last_rules.Goals.{After-extend}

first : (c : After-extend) → Room 1 c.extend.new.self × (rules_of c.extend.new.self ≡ rules_of c.args.rules.now ++ option_to_list c.batch_rule-by_batch.result)
first c = extended _ _ c.requires c.extend.ensures

pub extend-requires-2 : goal.extend-requires-2
extend-requires-2 c = (first (goal.at.extend-requires-2 c).After-extend).0

pub returns : goal.returns
returns c =
    let one = first (goal.at.returns c).After-extend in
    cc (one.1, append_assoc (rules_of c.args.rules.now) (option_to_list c.batch_rule-by_batch.result) (option_to_list c.due_rule-by_due.result))
