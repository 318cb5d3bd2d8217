-- The order of checks ("Each call makes the checks that concern it in this order").
--   and_then r next     r's refusal, or what comes next
--   first_refusal f n   the first refusal of f 0, .., f (n - 1), or accepted
--   refusal_of x        the ruling on what was read, as one record: its cause, or accepted where it has none
--   passed_as r         what was ruled, as an answer that `?` takes apart
--   if_accepted r x y   x where r is accepted, else y
use Rattle.std.specs.Prelude.{ℕ, zero, suc, ⊤, Result, Ok, Err}
use Rattle.base_rulings.specs.declared.Cause.{Cause}
use Rattle.base_rulings.specs.declared.Ruling.{Ruling}
use Rattle.base_rulings.specs.declared.Ruling.TheVariants.{Accepted, Refused}

abbrev pub and_then : Ruling → Ruling → Ruling
and_then Accepted next = next
and_then (Refused c) next = Refused c

unfoldable pub first_refusal : (ℕ → Ruling) → ℕ → Ruling
first_refusal f zero = Accepted
first_refusal f (suc n) = and_then (first_refusal f n) (f n)

abbrev pub refusal_of : {A : Type 0} → Result A Cause → Ruling
refusal_of (Ok e) = Accepted
refusal_of (Err c) = Refused c

abbrev pub passed_as : Ruling → Result ⊤ Cause
passed_as Accepted = Ok tt
passed_as (Refused c) = Err c

abbrev pub if_accepted : {A : Type 0} → Ruling → A → A → A
if_accepted Accepted x y = x
if_accepted (Refused c) x y = y
