-- The ruling on actions lent as words, action by action. Assumes nothing.
--   some_here, none_out, some_ranged   one allocation that is out of range; none; what `any` over their places says
--   Ended, ended      what holds of an action that was read
--   not_few, not_right, ends_at   what reading an action finds, test by test
--   ended_lent        where its record ends, behind those before it
--   ruling_at         the ruling on an action is what reading it finds
--   reading_fails     the first action that fails decides;  reading_ends: where none fails, that is where the records end
--   part_left, wrong_count, all_lent   the tests of the count
use Prim.Native.Nat.{ℕ, zero, suc, ◌+◌, ◌*◌, ◌/◌, ◌%◌, ◌≤◌, ◌<◌}
use native.Mathlib.Omega.{arith}
use native.Mathlib.Decide.{dec_lt}
use mathlib.Core.Path.{◌≡◌, refl, sym, ◌∙◌, ap, subst}
use mathlib.Core.Bool.{Bool, true, false, cond, ◌||◌, or-true}
use mathlib.Core.List.{List}
use lib.Dec.{ltb, eqb}
use lib.ListN.{length, get_or}
use borrow.Author.Tests.{lt-ltb, le-ltb, ltb-false, eq-eqb, ne_eqb, eqb-true, eqb-false}
use Rattle.std.specs.Bool.{MatchBool}
use Rattle.std.specs.List.{AllWithin, HoldsAt, range_with_len}
use Rattle.std.proofs.lemmas.List.FromFn.{length-range_with_len, get_or-range_with_len}
use Rattle.base_lists.specs.Loops.{build}
use Rattle.base_lists.proofs.Build.{build_length, build_at}
use Rattle.base_rulings.specs.declared.Cause.{Cause}
use Rattle.base_rulings.specs.declared.Ruling.TheVariants.{Accepted, Refused}
use Rattle.std.specs.Prelude.{Result, Ok, Err}
use Rattle.base_rulings.specs.Answer.{cause, plain, refused}
use Rattle.base_rulings.specs.Order.{first_refusal, refusal_of}
use Rattle.base_rulings.proofs.RulingLaws.{fails_no, first_stops}
use Rattle.write_plant.specs.Written.{AllocationFields, ActionFields, no_action, out_of, some_out_of_range, bad_fields, action_ruling, actions_ruling}
use Rattle.write_plant.specs.Lent.{allocation_in, action_in, actions_lent}
use Rattle.write_plant.specs.Parts.{lent_records, action_ends, records_end, lent_end}
use Rattle.write_plant.proofs.Records.{some_append}
use Rattle.write_plant.proofs.LentLaws.{lent_longer}

-- ---- the allocations

module _ (f : ℕ → AllocationFields) where
  pub some_here : (k n : ℕ) → k < n → out_of (f k) ≡ true → some_out_of_range (build f n) ≡ true
  unfolding build
  some_here k zero l h = absurd (omega arith)
  some_here k (suc n) l h = some_append (build f n) (f n) ∙ go (eqb k n) refl (some_here k n)
    where
      go : (b : Bool) → eqb k n ≡ b → (k < n → out_of (f k) ≡ true → some_out_of_range (build f n) ≡ true) → (some_out_of_range (build f n) || out_of (f n)) ≡ true
      go true q before =
          ap (λ (x : Bool). some_out_of_range (build f n) || x) (subst (λ (j : ℕ). out_of (f j) ≡ true) (eqb-true k n q) h)
          ∙ or-true (some_out_of_range (build f n))
      go false q before = let d : k ≡ n → ⊥ = eqb-false k n q in rw (before (omega (arith, d)) h) refl

  pub none_out : (n : ℕ) → ((k : ℕ) → k < n → out_of (f k) ≡ false) → some_out_of_range (build f n) ≡ false
  unfolding build
  none_out zero h = refl
  none_out (suc n) h = some_append (build f n) (f n) ∙ rw (none_out n (λ k l. h k (omega arith)), h n (omega arith)) refl

  -- what `any` over a range says
  pub some_ranged :
      (n : ℕ) (r : Bool)
      → MatchBool r ((k : ℕ) × (k < length (range_with_len 0 n)) × HoldsAt (λ i. out_of (f i) ≡ true) (range_with_len 0 n) k)
      (AllWithin (λ i. out_of (f i) ≡ false) (range_with_len 0 n) 0 (length (range_with_len 0 n)))
      → r ≡ some_out_of_range (build f n)
  some_ranged n true h =
      let lt : h.0 < n = omega (arith, h.1, length-range_with_len 0 n) in
      let at : get_or (range_with_len 0 n) h.0 0 ≡ h.0 = get_or-range_with_len 0 n h.0 0 lt ∙ omega arith in
      sym (some_here h.0 n lt (ap (λ i. out_of (f i)) (sym at) ∙ h.2 0))
  some_ranged n false h =
      sym
      (none_out n
      (λ k lt. let at : get_or (range_with_len 0 n) k 0 ≡ k = get_or-range_with_len 0 n k 0 lt ∙ omega arith in
      ap (λ i. out_of (f i)) (sym at) ∙ h k 0 (omega arith) (omega (arith, length-range_with_len 0 n))))

-- ---- one action

pub record Ended (x : ActionFields) (start end : ℕ) : Type 0 where
  pub few : length x.allocations ≤ 4
  pub right : bad_fields x ≡ false
  pub ends : end ≡ start + 28 + 12 * length x.allocations

pub ended : (x : ActionFields) (a start end : ℕ) → action_ends x a start ≡ Ok end → Ended x start end
unfolding action_ends
ended x a start end e = go (ltb 4 (length x.allocations)) refl (bad_fields x) refl e
  where
    go : (p : Bool) → ltb 4 (length x.allocations) ≡ p → (q : Bool) → bad_fields x ≡ q
        → cond p (Err (cause 3 a)) (cond q (Err (cause 4 a)) (Ok (start + 28 + 12 * length x.allocations))) ≡ Ok end → Ended x start end
    go true ep q eq r = absurd (fails_no (cause 3 a) end r)
    go false ep true eq r = absurd (fails_no (cause 4 a) end r)
    go false ep false eq r = record { few = ltb-false _ _ ep; right = eq; ends = cc }

-- test by test, of an action with n allocations
module _ (w : List ℕ) (a start n : ℕ) (e : n ≡ get_or w (19 * a + 6) 0) where
  many : length (action_in w a).allocations ≡ n
  many = let f : ℕ → AllocationFields = λ k. allocation_in w (19 * a + 7 + 3 * k) in build_length f (get_or w (19 * a + 6) 0) ∙ sym e

  pub not_few : 4 < n → Err (cause 3 a) ≡ action_ends (action_in w a) a start
  unfolding action_ends
  not_few h = rw (many, lt-ltb 4 n h) refl

  pub not_right : n ≤ 4 → bad_fields (action_in w a) ≡ true → Err (cause 4 a) ≡ action_ends (action_in w a) a start
  unfolding action_ends
  not_right h q = rw (many, le-ltb 4 n h, q) refl

  pub ends_at : n ≤ 4 → bad_fields (action_in w a) ≡ false → Ok (start + 28 + 12 * n) ≡ action_ends (action_in w a) a start
  unfolding action_ends
  ends_at h q = rw (many, le-ltb 4 n h, q) refl

-- an action that was read, behind those before it
pub ended_lent :
    (w : List ℕ) (a at end : ℕ) → at ≡ length (lent_records w a) → action_ends (action_in w a) a at ≡ Ok end
    → (end ≡ length (lent_records w (a + 1))) × (end ≤ at + 76)
ended_lent w a at end e is =
    let f : ℕ → AllocationFields = λ k. allocation_in w (19 * a + 7 + 3 * k) in
    let read = ended (action_in w a) a at end is in
    let ends = read.ends in
    let few = read.few in
    let many : length (action_in w a).allocations ≡ get_or w (19 * a + 6) 0 = build_length f (get_or w (19 * a + 6) 0) in
    (omega (arith, ends, many, lent_longer w a), omega (arith, ends, few))

module _ (w : List ℕ) (n : ℕ) where
  abbrev acts : List ActionFields
  acts = build (action_in w) n

  pub ruling_at : (a start : ℕ) → a < n → refusal_of (action_ends (action_in w a) a start) ≡ action_ruling acts a
  unfolding action_ends action_ruling
  ruling_at a start h =
      rw (build_at (action_in w) n a no_action h) (go (ltb 4 (length (action_in w a).allocations)) (bad_fields (action_in w a)))
    where
      go : (p q : Bool)
          → refusal_of (cond p (Err (cause 3 a)) (cond q (Err (cause 4 a)) (Ok (start + 28 + 12 * length (action_in w a).allocations))))
          ≡ cond p (refused 3 a) (cond q (refused 4 a) Accepted)
      go true q = refl
      go false true = refl
      go false false = refl

  pub reading_fails :
      (a start : ℕ) (x : Result ℕ Cause) (c : Cause) → first_refusal (action_ruling acts) a ≡ Accepted → a < n → x ≡ action_ends (action_in w a) a start → x ≡ Err c
      → x ≡ records_end w n
  unfolding records_end
  reading_fails a start x c before h ex e =
      let here : action_ruling acts a ≡ Refused c = sym (ruling_at a start h) ∙ ap refusal_of (sym ex ∙ e) in
      e ∙ rw (first_stops (action_ruling acts) a n c before here h) refl

  pub reading_ends :
      (a at : ℕ) → first_refusal (action_ruling acts) a ≡ Accepted → at ≡ length (lent_records w a) → a ≡ n → Ok at ≡ records_end w n
  unfolding records_end
  reading_ends a at before ea e =
      let done : first_refusal (action_ruling acts) n ≡ Accepted = ap (first_refusal (action_ruling acts)) (sym e) ∙ before in
      rw done (ap Ok (ea ∙ ap (λ (k : ℕ). length (lent_records w k)) e))

-- ---- all actions

module _ (w : List ℕ) where
  abbrev count : ℕ
  count = length w / 19

  count_is : length (actions_lent w) ≡ count
  count_is = build_length (action_in w) count

  pub part_left : (length w % 19 ≡ 0 → ⊥) → Err (plain 2) ≡ lent_end w
  unfolding lent_end
  part_left h = rw (ne_eqb (length w % 19) 0 h) refl

  module _ (whole : length w % 19 ≡ 0) where
    none_lent : count < 1 → Err (plain 2) ≡ lent_end w
    unfolding lent_end actions_ruling
    none_lent h = rw (eq-eqb (length w % 19) 0 whole, count_is, lt-ltb count 1 h) refl

    too_many_lent : 1 ≤ count → 128 < count → Err (plain 2) ≡ lent_end w
    unfolding lent_end actions_ruling
    too_many_lent lo h = rw (eq-eqb (length w % 19) 0 whole, count_is, le-ltb count 1 lo, lt-ltb 128 count h) refl

    pub wrong_count : (1 ≤ count → count ≤ 128 → ⊥) → Err (plain 2) ≡ lent_end w
    wrong_count h = go (dec_lt count 1) (dec_lt 128 count)
      where
        go : Dec (count < 1) → Dec (128 < count) → Err (plain 2) ≡ lent_end w
        go (yes l) d = none_lent l
        go (no l) (yes m) = too_many_lent (omega arith) m
        go (no l) (no m) = absurd (h (omega arith) (omega arith))

    pub all_lent : 1 ≤ count → count ≤ 128 → records_end w count ≡ lent_end w
    unfolding lent_end actions_ruling records_end
    all_lent lo hi = rw (eq-eqb (length w % 19) 0 whole, count_is, le-ltb count 1 lo, le-ltb 128 count hi) refl
