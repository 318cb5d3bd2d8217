-- Laws of a board whose table is lent where it lies, behind the words of the frame. Assumes nothing.
--   lent_table w     the words of the cells, as the code lends them
--   words_with w t   the words w with the table t in their place
--   cells_lent      they are the cells of the board of the words
--   length_lent     and as many
--   with_word_lem       a word of the frame stays
--   written         the frame of a board written before its table: the words of the board
--   unwritten       the table as it was
use Prim.Native.Nat.{ℕ, ◌-◌, ◌<◌}
use mathlib.Core.Path.{◌≡◌, sym, ◌∙◌, ap}
use mathlib.Core.List.{List, [], ◌++◌, append-nil}
use native.Mathlib.Omega.{arith}
use lib.ListN.{length, get_or, take, drop, length-append, length-drop, length-take, take-append-drop, drop_of_length-le, get_or-append}
use lib.Seq.{take_all, ext_get_or, get_or-drop, get_or-take}
use Rattle.spec_plain.specs.Limits.{cell_count}
use Rattle.part_boardwords.specs.Board.{Board}
use Rattle.part_boardwords.specs.Layout.{cells_at, board_size}
use Rattle.part_boardwords.specs.Words.{word_in, cell_at, cells_read}
use Rattle.part_boardwords.specs.Codec.{frame_words, words_of, overwritten}
use Rattle.base_lists.proofs.Build.{build_length, build_at, build_back}
use Rattle.part_boardwords.proofs.Overwritten.{length_frame, overwritten_front}

abbrev pub lent_table : List ℕ → List ℕ
lent_table w = take (length w - cells_at) (drop cells_at w)

abbrev pub words_with : List ℕ → List ℕ → List ℕ
words_with w t = take cells_at w ++ (t ++ drop (length w - cells_at) (drop cells_at w))

module _ (w : List ℕ) (len : length w ≡ board_size) where
  table_is : lent_table w ≡ drop cells_at w
  table_is = take_all (length w - cells_at) (drop cells_at w) (omega (arith, length-drop cells_at w))

  with_is : (t : List ℕ) → words_with w t ≡ take cells_at w ++ t
  with_is t =
      let none : drop (length w - cells_at) (drop cells_at w) ≡ [] =
      drop_of_length-le (drop cells_at w) {i = length w - cells_at} (omega (arith, length-drop cells_at w)) in
      ap (λ (l : List ℕ). take cells_at w ++ l) (ap (λ (l : List ℕ). t ++ l) none ∙ append-nil t)

  front : length (take cells_at w) ≡ cells_at
  front = omega (arith, length-take cells_at w)

  pub cells_lent : lent_table w ≡ cells_read (word_in w)
  cells_lent =
      table_is
      ∙ ext_get_or 0 (drop cells_at w) (cells_read (word_in w)) (omega (arith, length-drop cells_at w, build_length (cell_at (word_in w)) cell_count))
      (λ k h. get_or-drop cells_at w k 0 ∙ sym (build_at (cell_at (word_in w)) cell_count k 0 (omega (arith, length-drop cells_at w))))

  pub length_lent : length (lent_table w) ≡ cell_count
  length_lent = ap length table_is ∙ omega (arith, length-drop cells_at w)

  module _ (t : List ℕ) where
    cells_many : length (words_with w t) ≡ board_size → length t ≡ cell_count
    cells_many size = omega (arith, size, ap length (with_is t), length-append (take cells_at w) t, front)

    pub with_word_lem : (k : ℕ) → k < cells_at → word_in (words_with w t) k ≡ word_in w k
    with_word_lem k h =
        ap (λ (l : List ℕ). get_or l k 0) (with_is t)
        ∙ (get_or-append (take cells_at w) t 0 k (omega (arith, front)) ∙ get_or-take cells_at w k 0 h)

    pub written : (b : Board) → b.gaps ≡ t → length (words_with w t) ≡ board_size → overwritten (words_with w t) 0 (frame_words b) ≡ words_of b
    unfolding words_of
    written b e size =
        ap (λ (l : List ℕ). overwritten l 0 (frame_words b)) (with_is t)
        ∙ (overwritten_front (take cells_at w) t (frame_words b) (front ∙ sym (length_frame b))
        ∙ ap (λ (l : List ℕ). frame_words b ++ l) (sym e ∙ sym (build_back b.gaps cell_count 0 (ap length e ∙ cells_many size))))

    pub unwritten : t ≡ lent_table w → words_with w t ≡ w
    unwritten e = with_is t ∙ (ap (λ (l : List ℕ). take cells_at w ++ l) (e ∙ table_is) ∙ take-append-drop cells_at w)
