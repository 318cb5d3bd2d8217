-- What the parts of the writer's code are held to.
--   lent_records w n     the records of the first n actions, one after the other
--   FewEach w n         of the first n actions none has more than four allocations
--   action_ends x a start   what reading action a finds: where its record ends, if it starts at `start`, or the cause
--   records_end w n      the first of 3 and 4 of the first n actions, or where their records end, by ends_if;  lent_end w: the first of 2, 3 and 4
use Rattle.std.specs.Prelude.{ℕ, ◌+◌, ◌*◌, ◌/◌, ◌%◌, ◌≤◌, ◌<◌, cond, not, List, map, ltb, eqb, length, get_or, Result, Ok, Err}
use Rattle.base_lists.specs.Loops.{build}
use Rattle.base_rulings.specs.declared.Cause.{Cause}
use Rattle.base_rulings.specs.declared.Ruling.{Ruling}
use Rattle.base_rulings.specs.declared.Ruling.TheVariants.{Accepted, Refused}
use Rattle.base_rulings.specs.Answer.{cause, plain}
use Rattle.base_rulings.specs.Order.{first_refusal}
use Rattle.write_plant.specs.Written.{ActionFields, record_of, joined, bad_fields, action_ruling, actions_ruling}
use Rattle.write_plant.specs.Lent.{action_words, action_in, actions_lent}

abbrev pub lent_records : List ℕ → ℕ → List ℕ
lent_records w n = joined (map record_of (build (action_in w) n))

abbrev pub FewEach : List ℕ → ℕ → Type 0
FewEach w n = (a : ℕ) → a < n → get_or w (action_words * a + 6) 0 ≤ 4

unfoldable pub action_ends : ActionFields → ℕ → ℕ → Result ℕ Cause
action_ends x a start =
    cond (ltb 4 (length x.allocations)) (Err (cause 3 a))
    (cond (bad_fields x) (Err (cause 4 a))
    (Ok (start + 28 + 12 * length x.allocations)))

-- where the records end whose ruling is r
abbrev pub ends_if : Ruling → ℕ → Result ℕ Cause
ends_if Accepted end = Ok end
ends_if (Refused c) end = Err c

unfoldable pub records_end : List ℕ → ℕ → Result ℕ Cause
records_end w n = ends_if (first_refusal (action_ruling (build (action_in w) n)) n) (length (lent_records w n))

unfoldable pub lent_end : List ℕ → Result ℕ Cause
lent_end w =
    cond (not (eqb (length w % action_words) 0)) (Err (plain 2))
    (ends_if (actions_ruling (actions_lent w)) (length (lent_records w (length w / action_words))))
