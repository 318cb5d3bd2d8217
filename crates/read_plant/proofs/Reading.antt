-- The reading of the records one after the other, where the index says, before a record is read, where the next has to start. Assumes nothing.
--   index_again     behind the last index entry the trailer has the index's start;  more_records: what follows from it
--   Reached         where the reading has come to;  Turn, turn: what holds there of one record more
--   ReadTo          what reading a record finds that has to end at `next`;  read-..: the same, test by test
--   start_none, first_refused   the first record starts at 0
--   room_refused    a record whose header passes the index
--   reading_fails, reading_ends   one record more: the refusal that ends the reading, or where the next record starts
use Prim.Native.Nat.{ℕ, ◌+◌, ◌-◌, ◌*◌, ◌/◌, ◌≤◌, ◌<◌}
use native.Mathlib.Omega.{arith}
use native.Mathlib.Numerals.{add-one}
use mathlib.Core.Path.{◌≡◌, refl, sym, ap, subst, ◌∙◌}
use mathlib.Core.List.{List}
use mathlib.Core.Bool.{Bool, true, false, cond, not, ◌&&◌}
use lib.Dec.{eqb, ltb}
use lib.ListN.{length}
use borrow.Author.Tests.{lt-ltb, le-ltb, eq-eqb, ne_eqb, eqb-true, eqb-false}
use Rattle.base_words.specs.Word.{word}
use Rattle.base_rulings.specs.declared.Cause.{Cause}
use Rattle.base_rulings.specs.declared.Ruling.TheVariants.{Accepted, Refused}
use Rattle.std.specs.Prelude.{Result, Ok, Err}
use Rattle.base_rulings.specs.Answer.{cause, refused}
use Rattle.base_rulings.specs.Order.{refusal_of, first_refusal}
use Rattle.base_rulings.proofs.RulingLaws.{first_none, first_next, first_stops, fails_no}
use Rattle.read_plant.specs.declared.Trailer.{Trailer}
use Rattle.read_plant.specs.Plant.{bad_head, bad_record, bad_action, record_at, record_start, record_ruling, trailer_of, record_end, allocation_count}
use Rattle.read_plant.proofs.Records.{entry_refused, passes_index, head_refused, ends_short, placed}

pub index_again : (s : List ℕ) (t : Trailer) → t ≡ trailer_of s → t.index + 4 * t.count + 12 ≡ length s → word s (t.index + 4 * t.count) ≡ t.index
unfolding trailer_of
index_again s t e l =
    let at : t.index + 4 * t.count ≡ length s - 12 = omega (arith, l) in ap (word s) at ∙ sym (ap (λ (x : Trailer). x.index) e)

-- so as long as a record has room before the index, there is an action that it is of
pub more_records :
    (s : List ℕ) (t : Trailer) → t ≡ trailer_of s → t.index + 4 * t.count + 12 ≡ length s
    → (a at : ℕ) → a ≤ t.count → word s (t.index + 4 * a) ≡ at → at + 28 ≤ t.index → a < t.count
more_records s t e l a at h here room = go (eqb a t.count) refl
  where
    go : (b : Bool) → eqb a t.count ≡ b → a < t.count
    go true q =
        let i = index_again s t e l in
        let k = ap (λ (x : ℕ). word s (t.index + 4 * x)) (eqb-true a t.count q) in
        absurd (omega (arith, i, k, here, room))
    go false q = let d : a ≡ t.count → ⊥ = eqb-false a t.count q in omega (arith, d, h)

-- which action's index entry stands at `entry`
abbrev pub number : Trailer → ℕ → ℕ
number t entry = (entry - t.index) / 4

-- the reading has come to the record of an action, which has to start at `at`
abbrev pub Reached : List ℕ → Trailer → ℕ → ℕ → Type 0
Reached s t at action =
    (action ≤ t.count) × (at ≡ record_start s action) × (word s (t.index + 4 * action) ≡ at) × (first_refusal (record_ruling s) action ≡ Accepted)

-- where a record has room, it is of an action, whose number was told; and the index says where the next one has to start
pub record Turn (s : List ℕ) (t : Trailer) (at action next : ℕ) : Type 0 where
  pub reached : Reached s t at action
  pub more : action < t.count
  pub there : word s (t.index + 4 * (action + 1)) ≡ next
  -- the last record has to end where the index starts
  pub last : action + 1 ≡ t.count → next ≡ t.index

pub turn :
    (s : List ℕ) (t : Trailer) → t ≡ trailer_of s → t.index + 4 * t.count + 12 ≡ length s
    → (at entry : ℕ) → Reached s t at (number t entry) → entry ≡ t.index + 4 * number t entry → at + 28 ≤ t.index
    → (action next : ℕ) → action ≡ number t entry → next ≡ word s (entry + 4) → Turn s t at action next
turn s t et l at entry reached place room action next ea en =
    let here = subst (Reached s t at) (sym ea) reached in
    let there : word s (t.index + 4 * (action + 1)) ≡ next = ap (word s) (omega (arith, ea, place)) ∙ sym en in
    record {
      reached = here;
      more = more_records s t et l action at here.0 here.2 room;
      there = there;
      last = λ last. sym there ∙ ap (λ (k : ℕ). word s (t.index + 4 * k)) last ∙ index_again s t et l;
    }

abbrev pub ReadTo : List ℕ → Trailer → ℕ → ℕ → ℕ → Result ℕ Cause
ReadTo s t a at next =
    cond (bad_record s t a at) (Err (cause 3 a))
    (cond (bad_action s at) (Err (cause 4 a))
    (cond (eqb (record_end s at) next) (Ok next) (Err (cause 3 (a + 1)))))

-- what the tests of a record come to, one after the other
module _ (s : List ℕ) (t : Trailer) (a at next : ℕ) (here : word s (t.index + 4 * a) ≡ at) where
  pub read_head : bad_head s at ≡ true → Err (cause 3 a) ≡ ReadTo s t a at next
  read_head h = simp (head_refused s t a at here h)

  -- the same with the number of its allocations in hand
  module _ (n : ℕ) (en : n ≡ allocation_count s at) where
    pub read_past : t.index < at + 28 + 12 * n → Err (cause 3 a) ≡ ReadTo s t a at next
    read_past l = simp (passes_index s t a at here (omega (arith, l, en)))

    module _ (head : bad_head s at ≡ false) (within : at + 28 + 12 * n ≤ t.index) (last : a + 1 ≡ t.count → next ≡ t.index) where
      ends_within : record_end s at ≤ t.index
      ends_within = omega (arith, within, en)

      ends_is : eqb (at + 28 + 12 * n) next ≡ eqb (record_end s at) next
      ends_is = ap (λ (k : ℕ). eqb (at + 28 + 12 * k) next) en

      -- only the last record can still be out of place: by ending elsewhere than at `next`, which is the index
      end_decides : bad_record s t a at ≡ (not (eqb (record_end s at) next) && eqb (a + 1) t.count)
      end_decides = ends_short s t a at here head ends_within ∙ go (eqb (a + 1) t.count) refl (eqb (record_end s at) next) refl
        where
          go : (l : Bool) → eqb (a + 1) t.count ≡ l → (e : Bool) → eqb (record_end s at) next ≡ e
              → (l && ltb (record_end s at) t.index) ≡ (not e && l)
          go false p true q = refl
          go false p false q = refl
          go true p true q =
              let n = last (eqb-true (a + 1) t.count p) in
              let e = eqb-true (record_end s at) next q in
              le-ltb (record_end s at) t.index (omega (arith, n, e))
          go true p false q =
              let n = last (eqb-true (a + 1) t.count p) in
              let d = eqb-false (record_end s at) next q in
              let w = ends_within in
              lt-ltb (record_end s at) t.index (omega (arith, n, d, w))

      pub read_bad :
          (c : Cause) → c ≡ cond (not (eqb (at + 28 + 12 * n) next) && eqb (a + 1) t.count) (cause 3 a) (cause 4 a) → bad_action s at ≡ true
          → Err c ≡ ReadTo s t a at next
      read_bad c e b = simp (e, ends_is, end_decides, b) (go (not (eqb (record_end s at) next) && eqb (a + 1) t.count))
        where
          go : (m : Bool) → ◌≡◌ {A = Result ℕ Cause} (Err (cond m (cause 3 a) (cause 4 a))) (cond m (Err (cause 3 a)) (Err (cause 4 a)))
          go true = refl
          go false = refl

      pub read_wrong_end :
          (c : Cause) → c ≡ cond (eqb (a + 1) t.count) (cause 3 a) (cause 3 (a + 1)) → bad_action s at ≡ false → (at + 28 + 12 * n ≡ next → ⊥)
          → Err c ≡ ReadTo s t a at next
      read_wrong_end c e b d = simp (e, end_decides, b, sym ends_is ∙ ne_eqb _ _ d) (go (eqb (a + 1) t.count))
        where
          go : (m : Bool) → ◌≡◌ {A = Result ℕ Cause} (Err (cond m (cause 3 a) (cause 3 (a + 1)))) (cond m (Err (cause 3 a)) (Err (cause 3 (a + 1))))
          go true = refl
          go false = refl

      pub read_good : bad_action s at ≡ false → at + 28 + 12 * n ≡ next → Ok next ≡ ReadTo s t a at next
      read_good b e = simp (end_decides, b, sym ends_is ∙ eq-eqb _ _ e)

pub start_none : (s : List ℕ) → 0 ≡ record_start s 0
unfolding record_start
start_none s = refl

module _ (s : List ℕ) (t : Trailer) (et : t ≡ trailer_of s) where
  -- a record that is not in its place is refused with 3
  out_of_place : (a at : ℕ) → at ≡ record_start s a → bad_record s t a at ≡ true → record_ruling s a ≡ refused 3 a
  unfolding record_ruling record_at
  out_of_place a at ea e = simp (← et, ← ea, e)

  out_of_range_lem : (a at : ℕ) → at ≡ record_start s a → bad_record s t a at ≡ false → bad_action s at ≡ true → record_ruling s a ≡ refused 4 a
  unfolding record_ruling record_at
  out_of_range_lem a at ea e f = simp (← et, ← ea, e, f)

  pub first_refused : (word s t.index ≡ 0 → ⊥) → 1 ≤ t.count → first_refusal (record_ruling s) t.count ≡ refused 3 0
  first_refused e l =
      let same : t.index + 4 * 0 ≡ t.index = omega arith in
      first_stops (record_ruling s) 0 t.count (cause 3 0) (first_none (record_ruling s))
      (out_of_place 0 0 (start_none s) (entry_refused s t 0 0 (λ q. e (ap (word s) (sym same) ∙ q)))) l

  module _ (a at : ℕ) (ea : at ≡ record_start s a) (before : first_refusal (record_ruling s) a ≡ Accepted) (here : word s (t.index + 4 * a) ≡ at)
      (l : a < t.count) where
    stops : (c : Cause) → record_ruling s a ≡ Refused c → first_refusal (record_ruling s) t.count ≡ Refused c
    stops c e = first_stops (record_ruling s) a t.count c before e l

    pub room_refused : t.index < at + 28 → first_refusal (record_ruling s) t.count ≡ refused 3 a
    room_refused h = stops (cause 3 a) (out_of_place a at ea (passes_index s t a at here (omega (arith, h))))

    module _ (next : ℕ) (there : word s (t.index + 4 * (a + 1)) ≡ next) (last : a + 1 ≡ t.count → next ≡ t.index) where
      -- the record is good
      module _ (in_place : bad_record s t a at ≡ false) (in_range : bad_action s at ≡ false) where
        accepted : record_ruling s a ≡ Accepted
        unfolding record_ruling record_at
        accepted = simp (← et, ← ea, in_place, in_range)

        pub goes_on : first_refusal (record_ruling s) (a + 1) ≡ Accepted
        goes_on = first_next (record_ruling s) a before accepted

        pub next_start : record_end s at ≡ record_start s (a + 1)
        unfolding record_start
        next_start = rw (add-one a, ← ea)

        -- but does not end where the next one has to start: so that one is refused, and there is one
        wrong_entry : (record_end s at ≡ next → ⊥) → first_refusal (record_ruling s) t.count ≡ refused 3 (a + 1)
        wrong_entry d =
            let more : a + 1 < t.count = others (eqb (a + 1) t.count) refl in
            first_stops (record_ruling s) (a + 1) t.count (cause 3 (a + 1)) goes_on
            (out_of_place (a + 1) (record_end s at) next_start (entry_refused s t (a + 1) (record_end s at) (λ q. d (sym q ∙ there)))) more
          where
            others : (b : Bool) → eqb (a + 1) t.count ≡ b → a + 1 < t.count
            others true q =
                let p = placed s t a at in_place in
                let e : a + 1 ≡ t.count = eqb-true (a + 1) t.count q in
                let f = p.ends e in
                let w = p.within in
                let n = last e in
                absurd (d (omega (arith, f, w, n)))
            others false q = let e : a + 1 ≡ t.count → ⊥ = eqb-false (a + 1) t.count q in omega (arith, e, l)

      module _ (x : Result ℕ Cause) (ex : x ≡ ReadTo s t a at next) where
        pub reading_fails : (c : Cause) → x ≡ Err c → first_refusal (record_ruling s) t.count ≡ Refused c
        reading_fails c e =
            go (bad_record s t a at) refl (bad_action s at) refl (eqb (record_end s at) next) refl (sym ex ∙ e)
          where
            go : (m : Bool) → bad_record s t a at ≡ m → (o : Bool) → bad_action s at ≡ o → (b : Bool) → eqb (record_end s at) next ≡ b
                → cond m (Err (cause 3 a)) (cond o (Err (cause 4 a)) (cond b (Ok next) (Err (cause 3 (a + 1))))) ≡ Err c
                → first_refusal (record_ruling s) t.count ≡ Refused c
            go true em o eo b eb q = stops (cause 3 a) (out_of_place a at ea em) ∙ ap refusal_of q
            go false em true eo b eb q = stops (cause 4 a) (out_of_range_lem a at ea em eo) ∙ ap refusal_of q
            go false em false eo true eb q = absurd (fails_no c next (sym q))
            go false em false eo false eb q = wrong_entry em eo (eqb-false (record_end s at) next eb) ∙ ap refusal_of q

        pub reading_ends :
            (end : ℕ) → x ≡ Ok end
            → (end ≡ record_start s (a + 1)) × (word s (t.index + 4 * (a + 1)) ≡ end) × (first_refusal (record_ruling s) (a + 1) ≡ Accepted)
        reading_ends end e =
            go (bad_record s t a at) refl (bad_action s at) refl (eqb (record_end s at) next) refl (sym ex ∙ e)
          where
            go : (m : Bool) → bad_record s t a at ≡ m → (o : Bool) → bad_action s at ≡ o → (b : Bool) → eqb (record_end s at) next ≡ b
                → cond m (Err (cause 3 a)) (cond o (Err (cause 4 a)) (cond b (Ok next) (Err (cause 3 (a + 1))))) ≡ Ok end
                → (end ≡ record_start s (a + 1)) × (word s (t.index + 4 * (a + 1)) ≡ end) × (first_refusal (record_ruling s) (a + 1) ≡ Accepted)
            go true em o eo b eb q = absurd (fails_no (cause 3 a) end q)
            go false em true eo b eb q = absurd (fails_no (cause 4 a) end q)
            go false em false eo false eb q = absurd (fails_no (cause 3 (a + 1)) end q)
            go false em false eo true eb q =
                let same : next ≡ end = cc in
                (sym same ∙ sym (eqb-true (record_end s at) next eb) ∙ next_start em eo, there ∙ same, goes_on em eo)
