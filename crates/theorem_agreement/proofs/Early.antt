-- What is read from bytes is refused, if it is, with neither 6 nor 14: with 1 to 4, 7 to 13, or, for the due time alone, 23.
--   Tested r           the ruling r is neither 6 nor 14;  Early r: nor 23;  early: by its parts, as r is not 6, nor 14 or more
--   plant_early, offer_early, facts_early, chain_early   Early, of the plant file, the offer's format, its facts, its chain
--   due_early, check_early   Tested, of the due time, and of all of a plan's tests
use mathlib.Core.Path.{◌≡◌}
use mathlib.Core.Bool.{Bool, true, false, cond, not, ◌||◌}
use mathlib.Core.List.{List, [], ◌∷◌}
use Prim.Native.Nat.{ℕ, zero, suc, ◌+◌, ◌-◌, ◌≤◌}
use native.Mathlib.Omega.{arith}
use lib.Dec.{leb, ltb, eqb}
use lib.ListN.{length}
use Rattle.base_rulings.specs.declared.Ruling.{Ruling}
use Rattle.base_rulings.specs.declared.Ruling.TheVariants.{Accepted, Refused}
use Rattle.std.specs.Prelude.{Result, Ok, Err}
use Rattle.base_rulings.specs.declared.Cause.{Cause}
use Rattle.base_rulings.specs.Answer.{cause, refused, refuse, number_of}
use Rattle.base_rulings.specs.Order.{and_then, first_refusal, refusal_of}
use Rattle.read_facts.specs.declared.Literals.{Literals}
use Rattle.read_facts.specs.declared.Action.{Action}
use Rattle.base_masks.specs.Mask.{share, lowest}
use Rattle.base_words.specs.Word.{word}
use Rattle.read_facts.specs.Regression.{undoes, regressed, lacking, back_over, then_back, work_back, at_start, on_need, fact_ruling}
use Rattle.read_plant.specs.Plant.{is_mark, trailer_of, bad_layout, record_start, record_end, bad_record, bad_action, record_at, record_ruling, plant_ruling}
use Rattle.read_offer.specs.Offer.{header_size, step_count, known_of, goal_of, chain_of, step_start, step_end, step_at, step_ruling, offer_ruling, consistency_ruling, chain_ruling}
use Rattle.read_offer.specs.Offer.{due_of}
use Rattle.spec_plain.specs.Plain.{State}
use Rattle.spec_rulebook.specs.Reading.{due_ruling, plan_check}

pub record Tested (r : Ruling) : Type 0 where
  pub no6 : ¬ (number_of r ≡ 6)
  pub no14 : ¬ (number_of r ≡ 14)

pub record Early (r : Ruling) : Type 0 where
  pub tested : Tested r
  pub no23 : ¬ (number_of r ≡ 23)

early : {r : Ruling} → ¬ (number_of r ≡ 6) → ¬ (14 ≤ number_of r) → Early r
early n l = record { tested = record { no6 = n; no14 = λ e. l (omega (arith, e)) }; no23 = λ e. l (omega (arith, e)) }

-- ---- checks one after the other

cond_early : (t : Bool) (r q : Ruling) → Early r → Early q → Early (cond t r q)
cond_early true r q a b = a
cond_early false r q a b = b

then_early : (r q : Ruling) → Early r → Early q → Early (and_then r q)
then_early Accepted q a b = b
then_early (Refused c) q a b = a

then_tested : (r q : Ruling) → Tested r → Tested q → Tested (and_then r q)
then_tested Accepted q a b = b
then_tested (Refused c) q a b = a

first_early : (f : ℕ → Ruling) → ((k : ℕ) → Early (f k)) → (n : ℕ) → Early (first_refusal f n)
unfolding first_refusal
first_early f a zero = early (λ e. omega arith) (λ e. omega arith)
first_early f a (suc n) = then_early (first_refusal f n) (f n) (first_early f a n) (a n)

-- ---- what is read from bytes

record_early : (s : List ℕ) (a : ℕ) → Early (record_ruling s a)
unfolding record_ruling record_at
record_early s a =
    let at = record_start s a in
    go (bad_record s (trailer_of s) a at) (bad_action s at) (record_end s at)
  where
    go : (t q : Bool) (end : ℕ) → Early (refusal_of (cond t (Err (cause 3 a)) (cond q (Err (cause 4 a)) (Ok end))))
    go true q end = early (λ e. omega arith) (λ e. omega arith)
    go false true end = early (λ e. omega arith) (λ e. omega arith)
    go false false end = early (λ e. omega arith) (λ e. omega arith)

pub plant_early : (s : List ℕ) → Early (plant_ruling s)
unfolding plant_ruling
plant_early s =
    cond_early (ltb (length s) 12 || not (is_mark s (length s - 4))) (refuse 1) _ (early (λ e. omega arith) (λ e. omega arith))
    (cond_early (bad_layout (trailer_of s) (length s)) (refuse 2) _ (early (λ e. omega arith) (λ e. omega arith))
    (first_early (record_ruling s) (record_early s) (trailer_of s).count))

step_early : (p o : List ℕ) (k : ℕ) → Early (step_ruling p o k)
unfolding step_ruling step_at
step_early p o k =
    let at = step_start p o k in
    go (ltb (length o) (at + 4) || (leb (trailer_of p).count (word o at) || ltb (length o) (step_end p o at))) (step_end p o at)
  where
    go : (t : Bool) (end : ℕ) → Early (refusal_of (cond t (Err (cause 8 k)) (Ok end)))
    go true end = early (λ e. omega arith) (λ e. omega arith)
    go false end = early (λ e. omega arith) (λ e. omega arith)

pub offer_early : (p o : List ℕ) → Early (offer_ruling p o)
unfolding offer_ruling
offer_early p o =
    cond_early (ltb (length o) header_size || (ltb (step_count o) 1 || ltb 8 (step_count o))) (refuse 7) _ (early (λ e. omega arith) (λ e. omega arith))
    (then_early (first_refusal (step_ruling p o) (step_count o)) _ (first_early (step_ruling p o) (step_early p o) (step_count o))
    (cond_early (eqb (step_start p o (step_count o)) (length o)) Accepted (refuse 9)
    (early (λ e. omega arith) (λ e. omega arith)) (early (λ e. omega arith) (λ e. omega arith))))

unfoldable NeedEarly : Result Literals Cause → Type 0
NeedEarly (Ok l) = Unit {0}
NeedEarly (Err c) = Early (Refused c)

back_early : (chain : List Action) (k : ℕ) (goal : Literals) → NeedEarly (work_back chain k goal)
unfolding NeedEarly back_over
back_early [] k goal = tt
back_early (a ∷ rest) k goal = go (work_back rest (k + 1) goal) (back_early rest (k + 1) goal)
  where
    choose : (t q : Bool) (l : Literals) → NeedEarly (cond t (Err (cause 11 k)) (cond q (Err (cause 12 k)) (Ok l)))
    choose true q l = early (λ e. omega arith) (λ e. omega arith)
    choose false true l = early (λ e. omega arith) (λ e. omega arith)
    choose false false l = tt

    go : (n : Result Literals Cause) → NeedEarly n → NeedEarly (then_back a k n)
    go (Ok l) x = choose (undoes a l) (share (regressed a l).pos (regressed a l).neg) (regressed a l)
    go (Err c) x = x

lacks : (f : ℕ) → Early (refused 13 f)
lacks f = early (λ e. omega arith) (λ e. omega arith)

pub facts_early : (o : List ℕ) → Early (consistency_ruling o)
unfolding consistency_ruling
facts_early o =
    cond_early (share (known_of o).pos (known_of o).neg || share (goal_of o).pos (goal_of o).neg) (refuse 10) Accepted (early (λ e. omega arith) (λ e. omega arith))
    (early (λ e. omega arith) (λ e. omega arith))

pub chain_early : (p o : List ℕ) → Early (chain_ruling p o)
unfolding chain_ruling fact_ruling at_start NeedEarly
chain_early p o = go (known_of o) (work_back (chain_of p o) 0 (goal_of o)) (back_early (chain_of p o) 0 (goal_of o))
  where
    go : (known : Literals) (n : Result Literals Cause) → NeedEarly n → Early (on_need known n)
    go known (Ok l) x =
        cond_early (eqb (lacking known l) 0) Accepted (refused 13 (lowest (lacking known l)))
        (early (λ e. omega arith) (λ e. omega arith)) (lacks (lowest (lacking known l)))
    go known (Err c) x = x

due_early : (s : State) (o : List ℕ) → Tested (due_ruling s o)
unfolding due_ruling
due_early s o = go (ltb s.settings.horizon (due_of o))
  where
    go : (t : Bool) → Tested (cond t (refuse 23) Accepted)
    go true = record { no6 = λ e. omega arith; no14 = λ e. omega arith }
    go false = record { no6 = λ e. omega arith; no14 = λ e. omega arith }

pub check_early : (s : State) (p o : List ℕ) → Tested (plan_check s p o)
unfolding plan_check
check_early s p o =
    then_tested (plant_ruling p) _ (plant_early p).tested
    (then_tested (offer_ruling p o) _ (offer_early p o).tested
    (then_tested (consistency_ruling o) _ (facts_early o).tested
    (then_tested (due_ruling s o) (chain_ruling p o) (due_early s o) (chain_early p o).tested)))
