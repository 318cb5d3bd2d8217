-- Lines and boards in words. Assumes nothing.
--   use_next, use_over   what is left of a line, after k of its uses
--   framed_in            the frame of words with their table lent is the board of the words
--   unmarked             a board with a job in use that is marked by neither 0 nor 1 is not sound
--   not_board            nor is what stands for words that are not as many as a board has
--   lent_is              words that are as many as a board has stand for their board
--   lent_whole           words that stand for a sound board are as many as a board has, and stand for their board
use Prim.Native.Nat.{ℕ, ◌+◌, ◌≤◌, ◌<◌}
use mathlib.Core.Path.{◌≡◌, refl, sym, ◌∙◌, ap}
use mathlib.Core.Bool.{true, false, false≢true}
use mathlib.Core.List.{List, [], ◌∷◌}
use native.Mathlib.Omega.{arith}
use lib.ListN.{length, drop}
use borrow.Author.Tests.{eq-eqb, ne_eqb}
use native.Mathlib.Decide.{ℕ_discrete}
use Rattle.spec_plain.specs.Limits.{most_uses}
use Rattle.spec_plain.specs.declared.Use.{Use}
use Rattle.spec_plain.specs.Plain.{no_use}
use Rattle.part_lines.specs.ArrayLists.{line_of}
use Rattle.part_lines.proofs.Lists.{held_next, held_over}
use Rattle.base_lists.specs.Loops.{all_below}
use Rattle.part_boardwords.specs.Layout.{board_size}
use Rattle.part_boardwords.specs.Words.{Words, word_in, use_at, line_read, uses_read}
use Rattle.part_boardwords.specs.Words.{board_in, board_read, frame_read, lent_board, all_marked, is_marked}
use Rattle.base_lists.proofs.Build.{build_length, build_at}
use Rattle.part_boardwords.proofs.Lent.{lent_table, cells_lent}
use Rattle.part_sound.specs.Sound.{clauses_kept, sound}

module _ (w : Words) (at : ℕ) (small : w at ≤ most_uses) where
  long : length (uses_read w at) ≡ most_uses
  long = build_length (use_at w at) most_uses

  pub use_next : (k : ℕ) (u : Use) → k < w at → u ≡ use_at w at k → drop k (line_of (line_read w at)) ≡ u ∷ drop (k + 1) (line_of (line_read w at))
  use_next k u h e =
      held_next (w at) (uses_read w at) k no_use h (omega (arith, long))
      ∙ ap (λ (x : Use). x ∷ drop (k + 1) (line_of (line_read w at))) (build_at (use_at w at) most_uses k no_use (omega arith) ∙ sym e)

  pub use_over : (k : ℕ) → w at ≤ k → drop k (line_of (line_read w at)) ≡ []
  use_over k h = held_over (w at) (uses_read w at) k h

pub framed_in : (w : List ℕ) → length w ≡ board_size → frame_read (word_in w) (lent_table w) ≡ board_in w
framed_in w len = ap (frame_read (word_in w)) (cells_lent w len)

pub unmarked : (w : Words) → all_marked w ≡ false → sound (board_read w) ≡ false
unfolding sound
unmarked w e = rw e refl

module _ (w : List ℕ) where
  pub not_board : (length w ≡ board_size → ⊥) → sound (lent_board w) ≡ false
  unfolding sound clauses_kept lent_board all_marked all_below is_marked
  not_board h = rw (ne_eqb (length w) board_size h) refl

  pub lent_is : length w ≡ board_size → lent_board w ≡ board_in w
  unfolding lent_board
  lent_is h = rw (eq-eqb (length w) board_size h) refl

  pub lent_whole : sound (lent_board w) ≡ true → (length w ≡ board_size) × (lent_board w ≡ board_in w)
  lent_whole e = go (ℕ_discrete (length w) board_size)
    where
      go : Dec (length w ≡ board_size) → (length w ≡ board_size) × (lent_board w ≡ board_in w)
      go (yes h) = (h, lent_is h)
      go (no h) = absurd (false≢true (sym (not_board h) ∙ e))
