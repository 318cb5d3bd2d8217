-- The answers of a comparison, clause by clause, over plain variables.
--   lent_sound               words that stand for a sound board are as many as a board has, and their board is sound
--   lent_compared            what the boards of such words come to is what the boards that they stand for do
--   first_unsound, second_unsound, other_points, by_cells   the answers of `compared`
--   first_entry, no_entry    those of `compared_cells`, from the place k that the loop found
use Prim.Native.Nat.{ℕ, ◌+◌, ◌<◌, ◌≤◌}
use mathlib.Core.Bool.{true, false}
use mathlib.Core.List.{List}
use mathlib.Core.Path.{◌≡◌, sym, ◌∙◌, ap}
use native.Mathlib.Numerals.{add-one}
use native.Mathlib.Omega.{arith}
use lib.ListN.{length}
use borrow.Author.Tests.{lt-ltb, le-ltb, eq-eqb, ne_eqb}
use Rattle.part_boardwords.specs.Board.{Board}
use Rattle.part_boardwords.specs.Layout.{board_size}
use Rattle.part_boardwords.specs.Words.{board_in, lent_board}
use Rattle.part_sound.specs.Sound.{points_of, sound}
use Rattle.part_sound.proofs.InWords.{lent_whole}
use Rattle.log_tables.specs.declared.Compared.TheVariants.{FirstUnsound, SecondUnsound, Points, Equal}
use Rattle.log_tables.specs.Compared.{first_difference, entry_at, compared_cells, compared}

module _ (b d : Board) where
  pub first_unsound : sound b ≡ false → FirstUnsound ≡ compared b d
  unfolding compared
  first_unsound e = rw e

  pub second_unsound : sound b ≡ true → sound d ≡ false → SecondUnsound ≡ compared b d
  unfolding compared
  second_unsound e f = rw (e, f)

  module _ (e : sound b ≡ true) (f : sound d ≡ true) {n m : ℕ} (p : n ≡ points_of b) (q : m ≡ points_of d) where
    pub other_points : (n + 1 ≡ m + 1 → ⊥) → Points (n + 1) (m + 1) ≡ compared b d
    unfolding compared
    other_points h =
        rw (e, f, ne_eqb (points_of b) (points_of d) (λ same. h (ap (λ (x : ℕ). x + 1) (p ∙ same ∙ sym q))), ← p, ← q, add-one n, add-one m)

    pub by_cells : n + 1 ≡ m + 1 → compared_cells b.gaps d.gaps ≡ compared b d
    unfolding compared
    by_cells h = rw (e, f, eq-eqb (points_of b) (points_of d) (omega (arith, p, q, h)))

module _ (w : List ℕ) (e : sound (lent_board w) ≡ true) where
  pub lent_sound : (length w ≡ board_size) × (sound (board_in w) ≡ true)
  lent_sound = let whole = lent_whole w e in (whole.0, sym (ap sound whole.1) ∙ e)

pub lent_compared :
    (w v : List ℕ) → sound (lent_board w) ≡ true → sound (lent_board v) ≡ true → compared (board_in w) (board_in v) ≡ compared (lent_board w) (lent_board v)
lent_compared w v e f = λ i. compared (sym (lent_whole w e).1 i) (sym (lent_whole v f).1 i)

module _ (l m : List ℕ) (k : ℕ) (e : k ≡ first_difference l m) where
  pub first_entry : k < length l → entry_at l m k ≡ compared_cells l m
  unfolding compared_cells
  first_entry h = rw (← e, lt-ltb k (length l) h)

  pub no_entry : length l ≤ k → Equal ≡ compared_cells l m
  unfolding compared_cells
  no_entry h = rw (← e, le-ltb k (length l) h)
