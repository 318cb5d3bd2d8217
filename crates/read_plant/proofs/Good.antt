-- What holds of a good plant file, one that passes refusals 1 to 4. Assumes nothing.
--   Good, good      length, mark, count, layout, and every record in its place and in range
--   entry_within    the index entry of an action lies in the file
--   start_is        and it says where the action's record starts
--   part-..         the part that holds an action's allocations
use Prim.Native.Nat.{ℕ, ◌+◌, ◌-◌, ◌*◌, ◌≤◌, ◌<◌}
use native.Mathlib.Omega.{arith}
use native.Mathlib.Nat.{add-sub_cancel_left}
use mathlib.Core.Path.{◌≡◌, refl, sym, ap, subst, ◌∙◌}
use mathlib.Core.List.{List, []}
use mathlib.Core.Bool.{Bool, true, false, not, ◌||◌}
use lib.ListN.{length, get_or, take, drop}
use lib.Dec.{ltb}
use borrow.Author.Tests.{lt-ltb, le-ltb, eqb-true, ltb-false, not-false}
use Rattle.base_words.specs.Word.{word}
use Rattle.base_masks.specs.Mask.{share}
use Rattle.base_rulings.specs.declared.Cause.{Cause}
use Rattle.base_rulings.specs.declared.Ruling.TheVariants.{Accepted, Refused}
use Rattle.std.specs.Prelude.{Result, Ok, Err}
use Rattle.base_rulings.specs.Answer.{refuse}
use Rattle.base_rulings.specs.Order.{first_refusal, refusal_of}
use Rattle.base_rulings.proofs.RulingLaws.{refused_no, passed, neither, first_all}
use Rattle.read_plant.specs.declared.Trailer.{Trailer}
use Rattle.read_plant.specs.Plant.{is_mark, trailer_of, bad_layout, bad_duration, some_bad_allocation, bad_action, record_at, record_start, record_ruling}
use Rattle.read_plant.specs.Plant.{plant_ruling, allocations_of, allocation_count, record_end, needs_true, needs_false, makes_true, makes_false, shortest}
use Rattle.read_plant.specs.Plant.{longest}
use Rattle.read_plant.proofs.Records.{Placed, placed, Whole, whole}

pub record Good (s : List ℕ) : Type 0 where
  pub long : 12 ≤ length s
  pub mark : is_mark s (length s - 4) ≡ true
  pub some : 1 ≤ (trailer_of s).count
  pub few : (trailer_of s).count ≤ 128
  pub layout : (trailer_of s).index + 4 * (trailer_of s).count + 12 ≡ length s
  pub in_place : (a : ℕ) → a < (trailer_of s).count → Placed s (trailer_of s) a (record_start s a)
  pub in_range : (a : ℕ) → a < (trailer_of s).count → bad_action s (record_start s a) ≡ false

accepted_whole : (s : List ℕ) (t : Trailer) (a at : ℕ) (x : Result ℕ Cause) → record_at s t a at ≡ x → refusal_of x ≡ Accepted → Whole s t a at (record_end s at)
accepted_whole s t a at (Ok end) e p = let w = whole s t a at end e in subst (Whole s t a at) w.ends w
accepted_whole s t a at (Err c) e p = absurd (refused_no c p)

record_whole : (s : List ℕ) (a : ℕ) → record_ruling s a ≡ Accepted → Whole s (trailer_of s) a (record_start s a) (record_end s (record_start s a))
unfolding record_ruling
record_whole s a e = accepted_whole s (trailer_of s) a (record_start s a) (record_at s (trailer_of s) a (record_start s a)) refl e

pub good : (s : List ℕ) → plant_ruling s ≡ Accepted → Good s
unfolding plant_ruling bad_layout
good s p =
    let t = trailer_of s in
    let one = passed (ltb (length s) 12 || not (is_mark s (length s - 4))) _ _ p in
    let two = passed (bad_layout t (length s)) _ (first_refusal (record_ruling s) t.count) one.1 in
    let count = neither (ltb t.count 1) _ two.0 in
    let most = neither (ltb 128 t.count) _ count.1 in
    let all = first_all (record_ruling s) t.count in
    record {
      long = ltb-false _ _ (neither (ltb (length s) 12) _ one.0).0;
      mark = not-false _ (neither (ltb (length s) 12) _ one.0).1;
      some = ltb-false _ _ count.0;
      few = ltb-false _ _ most.0;
      layout = eqb-true _ _ (not-false _ most.1);
      in_place = λ a h. placed s t a (record_start s a) (record_whole s a (all a two.1 h)).in_place;
      in_range = λ a h. (record_whole s a (all a two.1 h)).in_range;
    }

-- the same, test by test, for `Plant::read`
pub too_short : (s : List ℕ) → length s < 12 → refuse 1 ≡ plant_ruling s
unfolding plant_ruling
too_short s l = simp (lt-ltb _ _ l)

pub unmarked : (s : List ℕ) (marked : Bool) → 12 ≤ length s → marked ≡ is_mark s (length s - 4) → marked ≡ false → refuse 1 ≡ plant_ruling s
unfolding plant_ruling
unmarked s marked long em m = simp (le-ltb _ _ long, ← em, m)

module _ (s : List ℕ) (marked : Bool) (t : Trailer) (long : 12 ≤ length s) (em : marked ≡ is_mark s (length s - 4)) (et : t ≡ trailer_of s) where
  pub bad_layout_lem : marked ≡ true → bad_layout t (length s) ≡ true → refuse 2 ≡ plant_ruling s
  unfolding plant_ruling
  bad_layout_lem m l = simp (le-ltb _ _ long, ← em, m, ← et, l)

  pub on_to_records : marked ≡ true → bad_layout t (length s) ≡ false → first_refusal (record_ruling s) t.count ≡ plant_ruling s
  unfolding plant_ruling
  on_to_records m l = simp (le-ltb _ _ long, ← em, m, ← et, l)

pub layout_right : (t : Trailer) (len : ℕ) → bad_layout t len ≡ false → (t.index + 4 * t.count + 12 ≡ len) × (1 ≤ t.count)
unfolding bad_layout
layout_right t len e =
    let count = neither (ltb t.count 1) _ e in
    (eqb-true _ _ (not-false _ (neither (ltb 128 t.count) _ count.1).1), ltb-false t.count 1 count.0)

-- for a reader that has the trailer in hand
module _ (s : List ℕ) (t : Trailer) (g : Good s) (e : t ≡ trailer_of s) (a : ℕ) (h : a < t.count) where
  there : a < (trailer_of s).count
  there = subst (λ (x : Trailer). a < x.count) e h

  pub entry_within : t.index + 4 * a + 16 ≤ length s
  entry_within =
      let l = g.layout in
      let b = there in
      subst (λ (x : Trailer). x.index + 4 * a + 16 ≤ length s) (sym e) (omega (arith, l, b))

  pub start_is : word s (t.index + 4 * a) ≡ record_start s a
  start_is = ap (λ (x : Trailer). word s (x.index + 4 * a)) e ∙ (g.in_place a there).entry

  pub record_within : record_end s (record_start s a) + 12 ≤ length s
  record_within = let w = (g.in_place a there).within in let l = g.layout in omega (arith, w, l)

  pub count_is : (start n : ℕ) → start ≡ record_start s a → n ≡ get_or s (start + 24) 0 → (n ≡ allocation_count s (record_start s a)) × (n ≤ 4)
  count_is start n p q =
      let e : n ≡ allocation_count s (record_start s a) = q ∙ ap (allocation_count s) p in
      let f = (g.in_place a there).few in
      (e, omega (arith, e, f))

-- no action makes a fact both true and false
pub makes_apart : (s : List ℕ) (at : ℕ) → bad_action s at ≡ false → share (makes_true s at) (makes_false s at) ≡ false
unfolding bad_action
makes_apart s at e =
    let needs = neither (share (needs_true s at) (needs_false s at)) _ e in
    (neither (share (makes_true s at) (makes_false s at)) (bad_duration (shortest s at) (longest s at) || some_bad_allocation s at (allocation_count s at))
    needs.1).0

-- ---- the part that holds an action's allocations

pub part_none : (s : List ℕ) (a : ℕ) (c : Cause) → plant_ruling s ≡ Refused c → [] ≡ allocations_of s a
unfolding allocations_of
part_none s a c e = simp e

pub part_lacks : (s : List ℕ) (a : ℕ) (t : Trailer) → plant_ruling s ≡ Accepted → t ≡ trailer_of s → t.count ≤ a → [] ≡ allocations_of s a
unfolding allocations_of
part_lacks s a t e p l = simp (e, ← p, le-ltb _ _ l)

pub part_is :
    (s : List ℕ) (a : ℕ) (t : Trailer) (start n : ℕ) → plant_ruling s ≡ Accepted → t ≡ trailer_of s → a < t.count
    → start ≡ record_start s a → n ≡ get_or s (start + 24) 0
    → take (start + 28 + 12 * n - (start + 28)) (drop (start + 28) s) ≡ allocations_of s a
unfolding allocations_of
part_is s a t start n r p h e m =
    ap (λ (k : ℕ). take k (drop (start + 28) s)) (add-sub_cancel_left (start + 28) (12 * n)) ∙ simp (r, ← p, lt-ltb _ _ h, ← e, ← m)
