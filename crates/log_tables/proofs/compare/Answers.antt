-- Both are sound, or the first that isn't is the answer.
use Rattle.std.proofs.Common.{◌∙◌, sym}
use Rattle.log_tables.proofs.Answers.{first_unsound, second_unsound, lent_sound, lent_compared}
use Rattle.log_tables.proofs.compare.Goals as goal

pub returns-then-not-is_sound : goal.returns-then-not-is_sound
returns-then-not-is_sound c = first_unsound _ _ (sym c.is_sound.ensures ∙ c.if-not-is_sound.true)

pub returns-then-not-is_sound-2 : goal.returns-then-not-is_sound-2
returns-then-not-is_sound-2 c =
    second_unsound _ _ (sym c.is_sound.ensures ∙ c.if-not-is_sound.false) (sym c.is_sound-2.ensures ∙ c.if-not-is_sound-2.true)

pub compare_sound-requires-clause-a_len : goal.compare_sound-requires-clause-a_len
compare_sound-requires-clause-a_len c = lent_sound _ (sym c.is_sound.ensures ∙ c.if-not-is_sound.false)

pub compare_sound-requires-clause-b_len : goal.compare_sound-requires-clause-b_len
compare_sound-requires-clause-b_len c = lent_sound _ (sym c.is_sound-2.ensures ∙ c.if-not-is_sound-2.false)

pub returns : goal.returns
returns c =
    c.compare_sound.ensures
    ∙ lent_compared _ _ (sym c.is_sound.ensures ∙ c.if-not-is_sound.false) (sym c.is_sound-2.ensures ∙ c.if-not-is_sound-2.false)
