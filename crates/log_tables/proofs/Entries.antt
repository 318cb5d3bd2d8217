-- What the answer Entry says of two sound boards, and when no entry differs. The premise beside: their tables have 4225 cells, as those of all
-- boards that code can hold.
--   Names l m e         the entry e is one of the table, it holds its cells in l and m, and they differ
--   cells_name          of two tables: so it is where the answer is the entry e
--   entry_names         of two boards: and as many points live
--   none_exactly        of two boards with as many live points: no entry differs exactly when the answer is Equal
use Prim.Native.Nat.{ℕ, ◌/◌, ◌%◌, ◌<◌}
use mathlib.Core.Bool.{Bool, true, false, true≢false}
use mathlib.Core.List.{List}
use mathlib.Core.Logic.{◌↔◌}
use mathlib.Core.Path.{◌≡◌, refl, sym, ◌∙◌, ap}
use native.Mathlib.Decide.{dec_lt}
use native.Mathlib.Omega.{arith}
use lib.Dec.{eqb}
use lib.ListN.{length, get_or}
use lib.Seq.{ext_get_or}
use borrow.Author.Tests.{eqb-true, eqb-false}
use Rattle.spec_plain.specs.Limits.{side, cell_count}
use Rattle.part_gaps.specs.Cells.{cell}
use Rattle.part_gaps.proofs.Overlaid.{at_place}
use Rattle.part_boardwords.specs.Board.{Board}
use Rattle.part_sound.specs.Sound.{points_of, sound}
use Rattle.log_tables.specs.declared.Compared.{Compared}
use Rattle.log_tables.specs.declared.Compared.TheVariants.{FirstUnsound, SecondUnsound, Points, Entry as EntryAnswer, Equal}
use Rattle.log_tables.specs.declared.Entry.{Entry}
use Rattle.log_tables.specs.Compared.{first_difference, entry_at, compared_cells, compared}
use Rattle.log_tables.specs.Witness.{differences}
use Rattle.log_tables.proofs.Differences.{first_least}
use Rattle.log_tables.proofs.Answers.{first_entry, no_entry, other_points, by_cells}
use Rattle.log_tables.proofs.Equal.{is_equal, equal_exactly}
use Rattle.log_tables.proofs.Witnesses.{none_alike, alike_none, boards_counted}

abbrev is_entry : Compared → Bool
is_entry FirstUnsound = false
is_entry SecondUnsound = false
is_entry (Points n m) = false
is_entry (EntryAnswer e) = true
is_entry Equal = false

pub record Names (l m : List ℕ) (e : Entry) : Type 0 where
  pub row : e.row < side
  pub column : e.column < side
  pub first : cell l e.row e.column ≡ e.first
  pub second : cell m e.row e.column ≡ e.second
  pub differ : e.first ≡ e.second → ⊥

module _ (l m : List ℕ) (size : length l ≡ cell_count) (long : length l ≡ length m) (a : Entry) where
  -- the cells at place k are the first that differ
  at_entry : (k : ℕ) → k < length l → (get_or l k 0 ≡ get_or m k 0 → ⊥) → entry_at l m k ≡ EntryAnswer a → Names l m a
  at_entry k h other e =
      let same : record { row = k / side; column = k % side; first = get_or l k 0; second = get_or m k 0 } ≡ a = cc in
      let row : k / side ≡ a.row = ap (λ (z : Entry). z.row) same in
      let column : k % side ≡ a.column = ap (λ (z : Entry). z.column) same in
      let first : get_or l k 0 ≡ a.first = ap (λ (z : Entry). z.first) same in
      let second : get_or m k 0 ≡ a.second = ap (λ (z : Entry). z.second) same in
      record {
        row = omega (arith, size, row);
        column = omega (arith, column);
        first = rw (← row, ← column, ← first) (at_place l k);
        second = rw (← row, ← column, ← second) (at_place m k);
        differ = λ s. other (first ∙ s ∙ sym second);
      }

  cells_name : compared_cells l m ≡ EntryAnswer a → Names l m a
  cells_name e = go (dec_lt (first_difference l m) (length l))
    where
      go : Dec (first_difference l m < length l) → Names l m a
      go (yes h) = at_entry (first_difference l m) h (first_least l m long h).1 (first_entry l m (first_difference l m) refl h ∙ e)
      go (no h) = absurd (true≢false (ap is_equal (no_entry l m (first_difference l m) refl (omega arith) ∙ e)))

module _ (b d : Board) (e : sound b ≡ true) (f : sound d ≡ true) (size : length b.gaps ≡ cell_count) (long : length b.gaps ≡ length d.gaps) where
  pub entry_names : (a : Entry) → compared b d ≡ EntryAnswer a → (points_of b ≡ points_of d) × Names b.gaps d.gaps a
  entry_names a h = go (eqb (points_of b) (points_of d)) refl
    where
      go : (t : Bool) → eqb (points_of b) (points_of d) ≡ t → (points_of b ≡ points_of d) × Names b.gaps d.gaps a
      go true q =
          let same = eqb-true (points_of b) (points_of d) q in
          (same, cells_name b.gaps d.gaps size long a (by_cells b d e f refl refl (omega (arith, same)) ∙ h))
      go false q =
          let other = eqb-false (points_of b) (points_of d) q in
          absurd (true≢false (sym (ap is_entry (other_points b d e f refl refl (λ s. other (omega (arith, s))) ∙ h))))

  pub none_exactly : points_of b ≡ points_of d → (differences b d ≡ 0) ↔ (compared b d ≡ Equal)
  none_exactly same = (
    λ z.
        let alike = none_alike b.gaps d.gaps cell_count (boards_counted b d e f ∙ z) in
        (equal_exactly b d e f long).1 (same, ext_get_or 0 b.gaps d.gaps long (λ k h. alike k (omega (arith, size)))),
    λ h.
        let cells = ((equal_exactly b d e f long).0 h).1 in
        sym (boards_counted b d e f) ∙ alike_none b.gaps d.gaps cell_count (λ k s. ap (λ (l : List ℕ). get_or l k 0) cells),
  )
