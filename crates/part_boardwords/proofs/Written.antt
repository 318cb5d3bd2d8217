-- Words that were written, read again. Assumes nothing.
--   overwritten_at          the words at the place that a list was written to (Overwritten has those outside of it)
--   overwritten_is          words that are so are those that were written
--   overwritten_again       a list written over another of its length
--   lines_put       words that are others but for the lines are those others, with their own lines written over
--   written_lines   lines that were written, read again
use Prim.Native.Nat.{ℕ, zero, suc, ◌+◌, ◌-◌, ◌<◌, ◌≤◌}
use mathlib.Core.Path.{◌≡◌, refl, sym, ◌∙◌, ap}
use mathlib.Core.List.{List, [], ◌∷◌}
use lib.ListN.{length, get_or, set, length-set}
use lib.Seq.{ext_get_or, get_or-set_same}
use native.Mathlib.Decide.{dec_lt}
use native.Mathlib.Omega.{arith}
use Rattle.base_lists.specs.Loops.{build}
use Rattle.base_lists.proofs.Build.{build_at}
use Rattle.spec_plain.specs.Limits.{resources, most_uses}
use Rattle.part_lines.specs.declared.Line.{Line}
use Rattle.part_lines.specs.ArrayLists.{no_line}
use Rattle.part_boardwords.specs.Board.{Board, board_with}
use Rattle.part_boardwords.specs.Layout.{lines_size, lines_at, cells_at}
use Rattle.part_boardwords.specs.Words.{word_in, zeros, lines_read, board_read}
use Rattle.part_boardwords.specs.Codec.{lines_words, overwritten, words_of}
use Rattle.part_boardwords.proofs.Overwritten.{overwritten_length, overwritten_below, overwritten_from, length_lines}
use Rattle.part_boardwords.proofs.Boards.{same_lines}
use Rattle.part_boardwords.proofs.Inverse.{lines_read_lem}
use Rattle.part_boardwords.proofs.Back.{lines_word, lines_back}

pub overwritten_at :
    (w : List ℕ) (at : ℕ) (l : List ℕ) (k i : ℕ) → k ≡ at + i → i < length l → at + length l ≤ length w → get_or (overwritten w at l) k 0 ≡ get_or l i 0
unfolding overwritten
overwritten_at w at [] k i e h room = absurd (omega arith)
overwritten_at w at (x ∷ l) k zero e h room =
    let is : k ≡ at = omega arith in
    rw is (overwritten_below (set w at x) (suc at) l at (omega arith) ∙ get_or-set_same w at x 0 (omega arith))
overwritten_at w at (x ∷ l) k (suc i) e h room =
    overwritten_at (set w at x) (suc at) l k i (omega arith) (omega arith) (omega (arith, length-set w at x))

pub overwritten_is :
    (w x : List ℕ) (at : ℕ) (l : List ℕ) → length x ≡ length w → at + length l ≤ length w
    → ((i : ℕ) → i < length l → get_or x (at + i) 0 ≡ get_or l i 0) → ((k : ℕ) → k < at → get_or x k 0 ≡ get_or w k 0)
    → ((k : ℕ) → at + length l ≤ k → get_or x k 0 ≡ get_or w k 0) → x ≡ overwritten w at l
overwritten_is w x at l e room inside below from =
    ext_get_or 0 x (overwritten w at l) (e ∙ sym (overwritten_length w at l)) (λ k h. go k (dec_lt k at) (dec_lt k (at + length l)))
  where
    go : (k : ℕ) → Dec (k < at) → Dec (k < at + length l) → get_or x k 0 ≡ get_or (overwritten w at l) k 0
    go k (yes lt) d = below k lt ∙ sym (overwritten_below w at l k lt)
    go k (no ge) (yes lt) =
        let is : k ≡ at + (k - at) = omega arith in
        ap (λ (j : ℕ). get_or x j 0) is
        ∙ inside (k - at) (omega arith)
        ∙ sym (overwritten_at w at l k (k - at) is (omega arith) room)
    go k (no ge) (no past) = from k (omega arith) ∙ sym (overwritten_from w at l k (omega arith))

pub overwritten_again :
    (w : List ℕ) (at : ℕ) (l m : List ℕ) → length l ≡ length m → at + length m ≤ length w → overwritten (overwritten w at l) at m ≡ overwritten w at m
overwritten_again w at l m same room =
    overwritten_is w (overwritten (overwritten w at l) at m) at m (overwritten_length (overwritten w at l) at m ∙ overwritten_length w at l) room
    (λ i h. overwritten_at (overwritten w at l) at m (at + i) i refl h (omega (arith, overwritten_length w at l)))
    (λ k h. overwritten_below (overwritten w at l) at m k h ∙ overwritten_below w at l k h)
    (λ k h. overwritten_from (overwritten w at l) at m k h ∙ overwritten_from w at l k (omega arith))

pub lines_put :
    (v w : List ℕ) → cells_at ≤ length v → length w ≡ length v → ((k : ℕ) → k < lines_at → word_in w k ≡ word_in v k)
    → ((k : ℕ) → cells_at ≤ k → word_in w k ≡ word_in v k) → w ≡ overwritten v lines_at (lines_words (lines_read (word_in w)))
lines_put v w room same below from =
    overwritten_is v w lines_at (lines_words (lines_read (word_in w))) same (omega (arith, many))
    (λ i h. sym (ap (λ (y : List ℕ). get_or y i 0) read ∙ build_at (λ j. word_in w (lines_at + j)) lines_size i 0 (omega (arith, many))))
    below (λ k h. from k (omega (arith, many)))
  where
    many : length (lines_words (lines_read (word_in w))) ≡ lines_size
    many = length_lines (lines_read (word_in w))

    read : lines_words (lines_read (word_in w)) ≡ build (λ j. word_in w (lines_at + j)) lines_size
    read = lines_read_lem (word_in w)

pub written_lines :
    (u : List ℕ) (ls : List Line) → cells_at ≤ length u → length ls ≡ resources → ((k : ℕ) → k < resources → length (get_or ls k no_line).uses ≡ most_uses)
    → lines_read (word_in (overwritten u lines_at (lines_words ls))) ≡ ls
written_lines u ls room many full =
    same_lines (word_in (overwritten u lines_at (lines_words ls))) (word_in (words_of b)) same ∙ lines_back b many full
  where
    b : Board
    b = board_with (board_read zeros) 0 (record { count = 0; jobs = [] }) ls []

    same : (k : ℕ) → lines_at ≤ k → k < cells_at → word_in (overwritten u lines_at (lines_words ls)) k ≡ word_in (words_of b) k
    same k l h =
        let is : k ≡ lines_at + (k - lines_at) = omega arith in
        overwritten_at u lines_at (lines_words ls) k (k - lines_at) is (omega (arith, length_lines ls)) (omega (arith, length_lines ls))
        ∙ sym (ap (word_in (words_of b)) is ∙ lines_word b (k - lines_at) (omega arith))
