-- Laws of rulings and of the order of checks. Assumes nothing.
--   answer_refused          document 01's number and value are what a refusal was made of
--   refused_no, fails_no    a refusal is no acceptance; a record that fails does not end
--   passed, both_passed     what an accepted check says of its parts
--   passed_err, passed_ok   what `passed` answers says what was ruled
--   neither, last_of_or     tests made one after the other
--   first_none, first_next, first_ends, first_stops, first_all, first_same   the first refusal, check by check
--   reading_stops, reading_goes_on     a reading record by record: the first that fails decides
use Prim.Native.Nat.{ℕ, zero, suc, ◌+◌, ◌<◌}
use native.Mathlib.Omega.{arith}
use native.Mathlib.Numerals.{add-one}
use mathlib.Core.Path.{◌≡◌, refl, sym, ap, ap₂, subst, ◌∙◌}
use mathlib.Core.List.{[], ◌∷◌}
use mathlib.Core.Bool.{Bool, true, false, true≢false, cond, ◌||◌}
use lib.Dec.{eqb}
use borrow.Author.Tests.{eqb-true, eqb-false}
use Rattle.base_rulings.specs.declared.Cause.{Cause}
use Rattle.base_rulings.specs.declared.Cause.TheVariants.{Plain, Action, Step, Fact, Allocation}
use Rattle.base_rulings.specs.declared.Ruling.{Ruling}
use Rattle.base_rulings.specs.declared.Ruling.TheVariants.{Accepted, Refused}
use Rattle.std.specs.Prelude.{⊤, Result, Ok, Err}
use Rattle.base_rulings.specs.Answer.{answer, refused, has_value}
use Rattle.base_rulings.specs.Order.{and_then, first_refusal, refusal_of, passed_as}

-- document 01's number and values are what the cause was made of
pub answer_refused : (n v : ℕ) → answer (refused n v) ≡ cond (has_value n) (n ∷ v ∷ []) (n ∷ [])
answer_refused n v = go (eqb n 3 || eqb n 4) (eqb n 8 || (eqb n 11 || eqb n 12)) (eqb n 13) (eqb n 15 || eqb n 16)
  where
    go : (a s f u : Bool)
        → answer (Refused (cond a (Action n v) (cond s (Step n v) (cond f (Fact n v) (cond u (Allocation n v) (Plain n))))))
        ≡ cond (a || (s || (f || u))) (n ∷ v ∷ []) (n ∷ [])
    go true s f u = refl
    go false true f u = refl
    go false false true u = refl
    go false false false true = refl
    go false false false false = refl

-- a refusal is no acceptance
pub refused_no : (c : Cause) → Refused c ≡ Accepted → ⊥
refused_no c e = let z : ◌≡◌ {A = ℕ} 0 1 = cc in omega arith

pub fails_no : (c : Cause) (e : ℕ) → ◌≡◌ {A = Result ℕ Cause} (Err c) (Ok e) → ⊥
fails_no c e p = let z : ◌≡◌ {A = ℕ} 0 1 = cc in omega arith

-- a check that is passed
pub passed : (x : Bool) (c : Cause) (r : Ruling) → cond x (Refused c) r ≡ Accepted → (x ≡ false) × (r ≡ Accepted)
passed true c r e = absurd (refused_no c e)
passed false c r e = (refl, e)

-- what was passed on as an answer
pub passed_err : (r : Ruling) (c : Cause) → passed_as r ≡ Err c → r ≡ Refused c
passed_err Accepted c e = absurd (let z : ◌≡◌ {A = ℕ} 0 1 = cc in omega arith)
passed_err (Refused d) c e = cc

pub passed_ok : (r : Ruling) (u : ⊤) → passed_as r ≡ Ok u → r ≡ Accepted
passed_ok Accepted u e = refl
passed_ok (Refused d) u e = absurd (let z : ◌≡◌ {A = ℕ} 0 1 = cc in omega arith)

-- none of several tests holds
pub neither : (x y : Bool) → (x || y) ≡ false → (x ≡ false) × (y ≡ false)
neither true y e = absurd (true≢false e)
neither false y e = (refl, e)

-- the last of four tests decides where the others do not
pub last_of_or : (x y z w : Bool) → x ≡ false → y ≡ false → z ≡ false → w ≡ (x || (y || (z || w)))
last_of_or x y z w p q r = rw (p, q, r)

-- both of two checks are passed
pub both_passed : (r next : Ruling) → and_then r next ≡ Accepted → (r ≡ Accepted) × (next ≡ Accepted)
both_passed Accepted next e = (refl, e)
both_passed (Refused c) next e = absurd (refused_no c e)

-- ---- the first refusal

pub first_none : (f : ℕ → Ruling) → first_refusal f 0 ≡ Accepted
unfolding first_refusal
first_none f = refl

-- one check more is passed
pub first_next : (f : ℕ → Ruling) (k : ℕ) → first_refusal f k ≡ Accepted → f k ≡ Accepted → first_refusal f (k + 1) ≡ Accepted
unfolding first_refusal
first_next f k e h = rw (add-one k, e) h

-- where all were passed, that is the ruling
pub first_ends : (f : ℕ → Ruling) (k n : ℕ) → first_refusal f k ≡ Accepted → k ≡ n → Accepted ≡ first_refusal f n
first_ends f k n e q = rw (← q, e)

-- the first that fails decides
pub first_stops :
    (f : ℕ → Ruling) (k n : ℕ) (c : Cause) → first_refusal f k ≡ Accepted → f k ≡ Refused c → k < n → first_refusal f n ≡ Refused c
unfolding first_refusal
first_stops f k zero c e h l = absurd (omega arith)
first_stops f k (suc n) c e h l = go (eqb k n) refl (first_stops f k n c e h)
  where
    go : (b : Bool) → eqb k n ≡ b → (k < n → first_refusal f n ≡ Refused c) → and_then (first_refusal f n) (f n) ≡ Refused c
    go true q before = let s : k ≡ n = eqb-true k n q in subst (λ (x : ℕ). and_then (first_refusal f x) (f x) ≡ Refused c) s (rw (e, h))
    go false q before = let d : k ≡ n → ⊥ = eqb-false k n q in rw (before (omega (arith, d)))

-- where all are passed, each is
pub first_all : (f : ℕ → Ruling) (n k : ℕ) → first_refusal f n ≡ Accepted → k < n → f k ≡ Accepted
unfolding first_refusal
first_all f zero k e l = absurd (omega arith)
first_all f (suc n) k e l = let p = both_passed (first_refusal f n) (f n) e in go (eqb k n) refl p.1 (first_all f n k p.0)
  where
    go : (b : Bool) → eqb k n ≡ b → f n ≡ Accepted → (k < n → f k ≡ Accepted) → f k ≡ Accepted
    go true q last before = subst (λ (x : ℕ). f x ≡ Accepted) (sym (eqb-true k n q)) last
    go false q last before = let d : k ≡ n → ⊥ = eqb-false k n q in before (omega (arith, d))

-- equal check by check
pub first_same : (f g : ℕ → Ruling) (n : ℕ) → ((k : ℕ) → k < n → f k ≡ g k) → first_refusal f n ≡ first_refusal g n
unfolding first_refusal
first_same f g zero e = refl
first_same f g (suc n) e = ap₂ and_then (first_same f g n (λ k h. e k (omega arith))) (e n (omega arith))

-- ---- a reading record by record: x is what reading record k finds, and f k is the ruling on it

module _ (f : ℕ → Ruling) (k : ℕ) (x : Result ℕ Cause) (before : first_refusal f k ≡ Accepted) (here : refusal_of x ≡ f k) where
  pub reading_stops : (c : Cause) (n : ℕ) → x ≡ Err c → k < n → first_refusal f n ≡ Refused c
  reading_stops c n e l = first_stops f k n c before (sym here ∙ ap refusal_of e) l

  pub reading_goes_on : (end : ℕ) → x ≡ Ok end → first_refusal f (k + 1) ≡ Accepted
  reading_goes_on end e = first_next f k before (sym here ∙ ap refusal_of e)
