-- Laws of the steps of an offer, refusals 7 to 9. Assumes nothing.
--   too_short, no_action_lem, cut_off, step_ends   one step's reading, answer by answer
--   Step            what holds of a step that was read
--   first_start, ruling_is, next_start   where the first step starts; one step more
--   steps_refused, steps_end, left-over        the ruling once the steps are read
--   Read, read_of   what holds of an offer that passes 7 to 9
use Prim.Native.Nat.{ℕ, ◌+◌, ◌*◌, ◌≤◌, ◌<◌}
use native.Mathlib.Numerals.{add-one}
use mathlib.Core.Path.{◌≡◌, refl, sym, ap, ◌∙◌}
use mathlib.Core.List.{List}
use mathlib.Core.Bool.{Bool, true, false, cond, ◌||◌}
use lib.ListN.{length}
use lib.Dec.{eqb, ltb, leb}
use borrow.Author.Tests.{eq-eqb, ne_eqb, lt-ltb, le-ltb, le-leb, lt-leb, ltb-false, leb-false}
use Rattle.base_words.specs.Word.{word}
use Rattle.base_rulings.specs.declared.Cause.{Cause}
use Rattle.base_rulings.specs.declared.Ruling.TheVariants.{Accepted, Refused}
use Rattle.std.specs.Prelude.{Result, Ok, Err}
use Rattle.base_rulings.specs.Answer.{cause, refuse}
use Rattle.base_rulings.specs.Order.{and_then, first_refusal, refusal_of}
use Rattle.base_rulings.proofs.RulingLaws.{refused_no, fails_no, passed, neither, both_passed, first_all}
use Rattle.read_plant.specs.declared.Trailer.{Trailer}
use Rattle.read_plant.specs.Plant.{trailer_of}
use Rattle.read_offer.specs.Offer.{header_size, step_count, place_count, step_end, step_start, step_at, step_ruling, offer_ruling}

-- ---- one step

module _ (p o : List ℕ) (k at : ℕ) where
  pub too_short : length o < at + 4 → Err (cause 8 k) ≡ step_at p o k at
  unfolding step_at
  too_short l = simp (lt-ltb _ _ l)

  module _ (t : Trailer) (x : ℕ) (et : t ≡ trailer_of p) (long : at + 4 ≤ length o) (ex : x ≡ word o at) where
    pub no_action_lem : t.count ≤ x → Err (cause 8 k) ≡ step_at p o k at
    unfolding step_at
    no_action_lem l = simp (le-ltb _ _ long, ← ex, ← et, le-leb _ _ l)

    pub cut_off : (n : ℕ) → x < t.count → n ≡ place_count p x → length o < at + 4 + 4 * n → Err (cause 8 k) ≡ step_at p o k at
    unfolding step_at
    cut_off n l en c = simp (le-ltb _ _ long, ← ex, ← et, lt-leb _ _ l, ← en, lt-ltb _ _ c)

    pub step_ends : (n : ℕ) → x < t.count → n ≡ place_count p x → at + 4 + 4 * n ≤ length o → Ok (at + 4 + 4 * n) ≡ step_at p o k at
    unfolding step_at
    step_ends n l en c = simp (le-ltb _ _ long, ← ex, ← et, lt-leb _ _ l, ← en, le-ltb _ _ c)

-- a step that was read: its action is one of the plant's, and its bytes lie in the offer
pub record Step (p o : List ℕ) (at : ℕ) : Type 0 where
  pub known : word o at < (trailer_of p).count
  pub whole : step_end p o at ≤ length o

step_of : (p o : List ℕ) (k at end : ℕ) → step_at p o k at ≡ Ok end → (Step p o at) × (end ≡ step_end p o at)
unfolding step_at
step_of p o k at end e = go (ltb (length o) (at + 4) || (leb (trailer_of p).count (word o at) || ltb (length o) (step_end p o at))) refl e
  where
    go : (b : Bool) → (ltb (length o) (at + 4) || (leb (trailer_of p).count (word o at) || ltb (length o) (step_end p o at))) ≡ b
        → cond b (Err (cause 8 k)) (Ok (step_end p o at)) ≡ Ok end → (Step p o at) × (end ≡ step_end p o at)
    go true q r = absurd (fails_no (cause 8 k) end r)
    go false q r =
        let long = neither (ltb (length o) (at + 4)) _ q in
        let more = neither (leb (trailer_of p).count (word o at)) (ltb (length o) (step_end p o at)) long.1 in
        (record { known = leb-false _ _ more.0; whole = ltb-false _ _ more.1 }, cc)

-- ---- one step more: its ruling, and where the next starts

pub first_start : (p o : List ℕ) → header_size ≡ step_start p o 0
unfolding step_start
first_start p o = refl

module _ (p o : List ℕ) (k at : ℕ) (x : Result ℕ Cause) (ea : at ≡ step_start p o k) (ex : x ≡ step_at p o k at) where
  pub ruling_is : refusal_of x ≡ step_ruling p o k
  unfolding step_ruling
  ruling_is = ap refusal_of {y = step_at p o k (step_start p o k)} (ex ∙ rw (← ea))

  pub next_start : (end : ℕ) → x ≡ Ok end → (end ≤ length o) × (end ≡ step_start p o (k + 1))
  unfolding step_start
  next_start end e =
      let s = step_of p o k at end (sym ex ∙ e) in
      let w = s.0.whole in
      let q = s.1 in
      (rw q w, q ∙ rw (add-one k, ← ea))

-- ---- the ruling once the steps are read

module _ (p o : List ℕ) (n : ℕ) (long : header_size ≤ length o) (en : n ≡ step_count o) (some : 1 ≤ n) (few : n ≤ 8) where
  past_7 : offer_ruling p o ≡ and_then (first_refusal (step_ruling p o) n) (cond (eqb (step_start p o n) (length o)) Accepted (refuse 9))
  unfolding offer_ruling
  past_7 = simp (le-ltb _ _ long, ← en, le-ltb _ _ some, le-ltb _ _ few)

  pub steps_refused : (c : Cause) → first_refusal (step_ruling p o) n ≡ Refused c → Refused c ≡ offer_ruling p o
  steps_refused c e = sym (past_7 ∙ rw e)

  module _ (k at : ℕ) (done : k ≡ n) (all : first_refusal (step_ruling p o) k ≡ Accepted) (ea : at ≡ step_start p o k) where
    past_8 : offer_ruling p o ≡ cond (eqb at (length o)) Accepted (refuse 9)
    past_8 = past_7 ∙ rw (← done, all, ← ea)

    pub steps_end : at ≡ length o → Accepted ≡ offer_ruling p o
    steps_end e = sym (past_8 ∙ rw (eq-eqb _ _ e))

    pub left_over : (at ≡ length o → ⊥) → refuse 9 ≡ offer_ruling p o
    left_over e = sym (past_8 ∙ rw (ne_eqb _ _ e))

-- ---- an offer that passes 7 to 9

pub record Read (p o : List ℕ) : Type 0 where
  pub long : header_size ≤ length o
  pub some : 1 ≤ step_count o
  pub few : step_count o ≤ 8
  pub steps : (k : ℕ) → k < step_count o → Step p o (step_start p o k)

accepted_step : (p o : List ℕ) (k at : ℕ) (x : Result ℕ Cause) → step_at p o k at ≡ x → refusal_of x ≡ Accepted → Step p o at
accepted_step p o k at (Ok end) e q = (step_of p o k at end e).0
accepted_step p o k at (Err c) e q = absurd (refused_no c q)

ruled_step : (p o : List ℕ) (k : ℕ) → step_ruling p o k ≡ Accepted → Step p o (step_start p o k)
unfolding step_ruling
ruled_step p o k e = accepted_step p o k (step_start p o k) (step_at p o k (step_start p o k)) refl e

pub read_of : (p o : List ℕ) → offer_ruling p o ≡ Accepted → Read p o
unfolding offer_ruling
read_of p o e =
    let n = step_count o in
    let seven = passed (ltb (length o) header_size || (ltb n 1 || ltb 8 n)) _ _ e in
    let long = neither (ltb (length o) header_size) (ltb n 1 || ltb 8 n) seven.0 in
    let count = neither (ltb n 1) (ltb 8 n) long.1 in
    let eight = both_passed (first_refusal (step_ruling p o) n) _ seven.1 in
    record {
      long = ltb-false _ _ long.0;
      some = ltb-false _ _ count.0;
      few = ltb-false _ _ count.1;
      steps = λ k h. ruled_step p o k (first_all (step_ruling p o) n k eight.0 h);
    }
