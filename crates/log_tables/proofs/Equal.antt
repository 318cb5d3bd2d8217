-- What the answer Equal says of two sound boards. The one premise beside: their tables have as many cells, as those of all boards that code
-- can hold.
--   is_equal a            whether it is the answer a
--   cells_to, cells_of   of two tables of as many live points: it is the answer exactly when the lists of their cells are equal
--   equal_exactly        of two boards: it is the answer exactly when as many points live and the lists of cells are equal
use Prim.Native.Nat.{ℕ, ◌<◌}
use mathlib.Core.Bool.{Bool, true, false, false≢true}
use mathlib.Core.List.{List}
use mathlib.Core.Logic.{◌↔◌}
use mathlib.Core.Path.{◌≡◌, refl, sym, ◌∙◌, ap}
use native.Mathlib.Decide.{dec_lt}
use native.Mathlib.Omega.{arith}
use lib.Dec.{eqb}
use lib.ListN.{length}
use borrow.Author.Tests.{eqb-true, eqb-false}
use Rattle.part_boardwords.specs.Board.{Board}
use Rattle.part_sound.specs.Sound.{points_of, sound}
use Rattle.log_tables.specs.declared.Compared.{Compared}
use Rattle.log_tables.specs.declared.Compared.TheVariants.{FirstUnsound, SecondUnsound, Points, Entry, Equal}
use Rattle.log_tables.specs.Compared.{first_difference, compared_cells, compared}
use Rattle.log_tables.proofs.Differences.{first_within, first_same, same_first}
use Rattle.log_tables.proofs.Answers.{first_entry, no_entry, other_points, by_cells}

abbrev pub is_equal : Compared → Bool
is_equal FirstUnsound = false
is_equal SecondUnsound = false
is_equal (Points n m) = false
is_equal (Entry e) = false
is_equal Equal = true

module _ (l m : List ℕ) (long : length l ≡ length m) where
  cells_to : compared_cells l m ≡ Equal → l ≡ m
  cells_to e = go (dec_lt (first_difference l m) (length l))
    where
      go : Dec (first_difference l m < length l) → l ≡ m
      go (yes h) = absurd (false≢true (ap is_equal (first_entry l m (first_difference l m) refl h ∙ e)))
      go (no h) = same_first l m long (omega (arith, first_within l m))

  cells_of : l ≡ m → compared_cells l m ≡ Equal
  cells_of e = sym (no_entry l m (first_difference l m) refl (omega (arith, first_same l m long e)))

module _ (b d : Board) (e : sound b ≡ true) (f : sound d ≡ true) (long : length b.gaps ≡ length d.gaps) where
  equal_to : compared b d ≡ Equal → (points_of b ≡ points_of d) × (b.gaps ≡ d.gaps)
  equal_to h = go (eqb (points_of b) (points_of d)) refl
    where
      go : (t : Bool) → eqb (points_of b) (points_of d) ≡ t → (points_of b ≡ points_of d) × (b.gaps ≡ d.gaps)
      go true q =
          let same = eqb-true (points_of b) (points_of d) q in
          (same, cells_to b.gaps d.gaps long (by_cells b d e f refl refl (omega (arith, same)) ∙ h))
      go false q =
          let other = eqb-false (points_of b) (points_of d) q in
          absurd (false≢true (ap is_equal (other_points b d e f refl refl (λ s. other (omega (arith, s))) ∙ h)))

  pub equal_exactly : compared b d ≡ Equal ↔ (points_of b ≡ points_of d) × (b.gaps ≡ d.gaps)
  equal_exactly = (
    equal_to,
    λ same. sym (by_cells b d e f refl refl (omega (arith, same.0))) ∙ cells_of b.gaps d.gaps long same.1,
  )
