-- `read_record` meets its contract, test by test.
use Rattle.std.proofs.Common.{◌∙◌, sym}
use Rattle.read_plant.proofs.Reading.{read_head, read_past, read_bad, read_wrong_end, read_good}
use Rattle.read_plant.proofs.read_record.Goals as goal

pub returns-then-is_bad_head : goal.returns-then-is_bad_head
returns-then-is_bad_head c = read_head _ _ _ _ _ c.requires.3 (sym c.is_bad_head.ensures ∙ c.if-is_bad_head.true)

pub returns-then-t-end : goal.returns-then-t-end
returns-then-t-end c = read_past _ _ _ _ _ c.requires.3 _ c.count_at-n.ensures.0 c.if-t-end.true

pub returns-then-is_bad_action : goal.returns-then-is_bad_action
returns-then-is_bad_action c =
    read_bad _ _ _ _ _ c.requires.3 _ c.count_at-n.ensures.0 (sym c.is_bad_head.ensures ∙ c.if-is_bad_head.false) c.if-t-end.false c.requires.4
    _ c.cause_of_bad.ensures (sym c.is_bad_action.ensures ∙ c.if-is_bad_action.true)

pub returns-then-not-ends : goal.returns-then-not-ends
returns-then-not-ends c =
    read_wrong_end _ _ _ _ _ c.requires.3 _ c.count_at-n.ensures.0 (sym c.is_bad_head.ensures ∙ c.if-is_bad_head.false) c.if-t-end.false c.requires.4
    _ c.cause_of_end.ensures (sym c.is_bad_action.ensures ∙ c.if-is_bad_action.false) c.if-not-ends.true

pub returns : goal.returns
returns c =
    read_good _ _ _ _ _ c.requires.3 _ c.count_at-n.ensures.0 (sym c.is_bad_head.ensures ∙ c.if-is_bad_head.false) c.if-t-end.false c.requires.4
    (sym c.is_bad_action.ensures ∙ c.if-is_bad_action.false) c.if-not-ends.false
