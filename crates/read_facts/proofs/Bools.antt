-- Laws of Booleans that the proofs on masks use. Assumes nothing.
--   clash, not_so                          no Boolean is both; what is not true is false
--   or_left, or_right, or_cases, and_not   what a test made of two says of them
use mathlib.Core.Path.{◌≡◌, refl, sym, ◌∙◌}
use mathlib.Core.Bool.{Bool, true, false, true≢false, false≢true, not, ◌&&◌, ◌||◌}

-- no Boolean is both
pub clash : {A : Type 0} {x : Bool} → x ≡ true → x ≡ false → A
clash p q = absurd (true≢false (sym p ∙ q))

pub or_left : (x y : Bool) → x ≡ true → (x || y) ≡ true
or_left x y p = rw p

pub or_right : (x y : Bool) → y ≡ true → (x || y) ≡ true
or_right true y p = refl
or_right false y p = p

pub or_cases : {A : Type 0} (x y : Bool) → (x || y) ≡ true → (x ≡ true → A) → (y ≡ true → A) → A
or_cases true y e f g = f refl
or_cases false y e f g = g e

pub and_not : (x y : Bool) → (x && not y) ≡ true → (x ≡ true) × (y ≡ false)
and_not true false e = (refl, refl)
and_not true true e = absurd (false≢true e)
and_not false y e = absurd (false≢true e)

-- a Boolean that is not the one is the other
pub not_so : (x : Bool) → (x ≡ true → ⊥) → x ≡ false
not_so true f = absurd (f refl)
not_so false f = refl
