-- Laws of one record of a plant file. Assumes nothing.
--   entry_refused, passes_index, head_refused, ends_short   refusal 3, by what is wrong
--   Placed, placed   what holds of a record that is in its place (not refusal 3)
--   action_tests     refusal 4, the two pairs of masks together
--   Whole, whole     what a record that was read is
use Prim.Native.Nat.{ℕ, ◌+◌, ◌*◌, ◌≤◌, ◌<◌}
use mathlib.Core.Path.{◌≡◌, refl}
use mathlib.Core.List.{List}
use mathlib.Core.Bool.{Bool, true, false, cond, not, ◌&&◌, ◌||◌}
use lib.Dec.{eqb, ltb}
use lib.ListN.{get_or}
use borrow.Author.Tests.{lt-ltb, le-ltb, eq-eqb, ne_eqb, eqb-true, ltb-false, not-false}
use Rattle.base_words.specs.Word.{word}
use Rattle.base_masks.specs.Mask.{share}
use Rattle.std.specs.Prelude.{Ok, Err}
use Rattle.base_rulings.specs.Answer.{cause}
use Rattle.base_rulings.proofs.RulingLaws.{neither, fails_no}
use Rattle.read_plant.specs.declared.Trailer.{Trailer}
use Rattle.read_plant.specs.Plant.{bad_head, bad_record, some_bad_allocation, bad_duration, bad_action, record_at, record_end}
use Rattle.read_plant.specs.Plant.{allocation_count}
use Rattle.read_plant.specs.Plant.{needs_true, needs_false, makes_true, makes_false, shortest, longest}
use Rattle.read_plant.proofs.Head.{bytes_clean}

-- ---- the place of a record

module _ (s : List ℕ) (t : Trailer) (a at : ℕ) where
  -- an index entry isn't where the record before ended
  pub entry_refused : (word s (t.index + 4 * a) ≡ at → ⊥) → bad_record s t a at ≡ true
  unfolding bad_record
  entry_refused e = simp (ne_eqb _ _ e)

  module _ (e : word s (t.index + 4 * a) ≡ at) where
    pub passes_index : t.index < record_end s at → bad_record s t a at ≡ true
    unfolding bad_record
    passes_index l = simp (eq-eqb _ _ e, lt-ltb t.index (record_end s at) l)

    pub head_refused : bad_head s at ≡ true → bad_record s t a at ≡ true
    unfolding bad_record
    head_refused h = go (ltb t.index (record_end s at)) refl
      where
        go : (b : Bool) → ltb t.index (record_end s at) ≡ b → bad_record s t a at ≡ true
        go true r = simp (eq-eqb _ _ e, r)
        go false r = simp (eq-eqb _ _ e, r, h)

    -- where the entry, the head and the room are right, only the last record can be wrong, by ending short of the index
    pub ends_short :
        bad_head s at ≡ false → record_end s at ≤ t.index → bad_record s t a at ≡ (eqb (a + 1) t.count && ltb (record_end s at) t.index)
    unfolding bad_record
    ends_short h l = simp (eq-eqb _ _ e, le-ltb t.index (record_end s at) l, h)

pub record Placed (s : List ℕ) (t : Trailer) (a at : ℕ) : Type 0 where
  -- its index entry says so
  pub entry : word s (t.index + 4 * a) ≡ at
  -- it does not pass the index
  pub within : record_end s at ≤ t.index
  -- it has at most 4 allocations, and its spare bytes are zero
  pub head : bad_head s at ≡ false
  pub few : allocation_count s at ≤ 4
  pub spare : (get_or s (at + 25) 0 ≡ 0) × (get_or s (at + 26) 0 ≡ 0) × (get_or s (at + 27) 0 ≡ 0)
  -- the last one ends where the index starts
  pub ends : a + 1 ≡ t.count → t.index ≤ record_end s at

pub placed : (s : List ℕ) (t : Trailer) (a at : ℕ) → bad_record s t a at ≡ false → Placed s t a at
unfolding bad_record
placed s t a at e =
    let entry = neither (not (eqb (word s (t.index + 4 * a)) at)) _ e in
    let within = neither (ltb t.index (record_end s at)) _ entry.1 in
    let rest = neither (bad_head s at) (eqb (a + 1) t.count && ltb (record_end s at) t.index) within.1 in
    let clean = bytes_clean s at rest.0 in
    record {
      entry = eqb-true _ _ (not-false _ entry.0);
      within = ltb-false _ _ within.0;
      head = rest.0;
      few = clean.few;
      spare = (clean.first, clean.second, clean.third);
      ends = λ last.
          ltb-false (record_end s at) t.index (rw (eq-eqb (a + 1) t.count last) at rest.1);
    }

-- ---- its range

-- the two pairs of masks are tested together
pub action_tests :
    (s : List ℕ) (at : ℕ) → bad_action s at
    ≡ ((share (needs_true s at) (needs_false s at) || share (makes_true s at) (makes_false s at))
    || (bad_duration (shortest s at) (longest s at) || some_bad_allocation s at (allocation_count s at)))
unfolding bad_action
action_tests s at = go (share (needs_true s at) (needs_false s at)) _ _
  where
    go : (x y z : Bool) → (x || (y || z)) ≡ ((x || y) || z)
    go true y z = refl
    go false y z = refl

-- ---- reading it

-- a record that was read is in its place and in range, and ends where it should
pub record Whole (s : List ℕ) (t : Trailer) (a at end : ℕ) : Type 0 where
  pub in_place : bad_record s t a at ≡ false
  pub in_range : bad_action s at ≡ false
  pub ends : end ≡ record_end s at

pub whole : (s : List ℕ) (t : Trailer) (a at end : ℕ) → record_at s t a at ≡ Ok end → Whole s t a at end
unfolding record_at
whole s t a at end p = go (bad_record s t a at) refl (bad_action s at) refl p
  where
    go : (m : Bool) → bad_record s t a at ≡ m → (o : Bool) → bad_action s at ≡ o
        → cond m (Err (cause 3 a)) (cond o (Err (cause 4 a)) (Ok (record_end s at))) ≡ Ok end → Whole s t a at end
    go true em o eo q = absurd (fails_no (cause 3 a) end q)
    go false em true eo q = absurd (fails_no (cause 4 a) end q)
    go false em false eo q = record { in_place = em; in_range = eo; ends = cc }
