-- 0 in every place is the empty list.
use Rattle.std.proofs.Common.{List, ap}
use Rattle.spec_plain.specs.declared.Rule.{Rule}
use Rattle.part_lines.specs.declared.rulelist.Rules.{Rules}
use Rattle.part_lines.specs.ArrayLists.{no_rule, most_rules}
use Rattle.part_lines.proofs.Padded.{padded_none}
use Rattle.part_lines.proofs.rulelist.Rules.new.Goals as goal

pub returns : goal.returns
returns c =
    let held : List Rule → Rules = λ l. record { count = 0; rules = l } in
    ap held (padded_none most_rules no_rule)
