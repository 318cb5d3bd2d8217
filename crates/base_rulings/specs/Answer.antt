-- Document 01's numbers and values ("a ruling is accepted, or refused with a cause").
--   has_value n    document 01's number n has a value: an action, a step, a fact or an allocation
--   cause n v     the cause that document 01 numbers n, with the value v that goes with that number; `plain n` where it has none
--   refused n v   the refusal with that cause; `refuse n` where the number has no value
--   answer r      the number and the values of a ruling, as document 01 writes them: 0 for accepted;  cause_answer c: of a cause
--   number_of r    the number alone; `is_valued r`, `value_of r`: whether it has a value, and which (0 where none)
-- Every definition of a ruling says its refusals by these, so which number has which value is said here alone; that `answer` gives back
-- number and value is the law `answer_refused` (proofs/RulingLaws).
use Rattle.std.specs.Prelude.{ℕ, List, [], ◌∷◌, Bool, cond, ◌||◌, length, get_or, eqb, ltb}
use Rattle.base_rulings.specs.declared.Cause.{Cause}
use Rattle.base_rulings.specs.declared.Cause.TheVariants.{Plain, Action, Step, Fact, Allocation}
use Rattle.base_rulings.specs.declared.Ruling.{Ruling}
use Rattle.base_rulings.specs.declared.Ruling.TheVariants.{Accepted, Refused}

-- "a number, with the action for 3 and 4, the step (0 first) for 8, 11 and 12, the lowest lacking fact for 13,
-- the allocation (0 first in the offer) for 15 and 16"
abbrev pub cause : ℕ → ℕ → Cause
cause n v =
    cond (eqb n 3 || eqb n 4) (Action n v)
    (cond (eqb n 8 || (eqb n 11 || eqb n 12)) (Step n v)
    (cond (eqb n 13) (Fact n v)
    (cond (eqb n 15 || eqb n 16) (Allocation n v)
    (Plain n))))

abbrev pub plain : ℕ → Cause
plain n = cause n 0

abbrev pub refused : ℕ → ℕ → Ruling
refused n v = Refused (cause n v)

abbrev pub refuse : ℕ → Ruling
refuse n = Refused (plain n)

abbrev pub cause_answer : Cause → List ℕ
cause_answer (Plain n) = n ∷ []
cause_answer (Action n a) = n ∷ a ∷ []
cause_answer (Step n k) = n ∷ k ∷ []
cause_answer (Fact n f) = n ∷ f ∷ []
cause_answer (Allocation n a) = n ∷ a ∷ []

abbrev pub answer : Ruling → List ℕ
answer Accepted = 0 ∷ []
answer (Refused c) = cause_answer c

abbrev pub has_value : ℕ → Bool
has_value n = (eqb n 3 || eqb n 4) || ((eqb n 8 || (eqb n 11 || eqb n 12)) || (eqb n 13 || (eqb n 15 || eqb n 16)))

abbrev pub number_of : Ruling → ℕ
number_of r = get_or (answer r) 0 0

abbrev pub is_valued : Ruling → Bool
is_valued r = ltb 1 (length (answer r))

abbrev pub value_of : Ruling → ℕ
value_of r = get_or (answer r) 1 0
