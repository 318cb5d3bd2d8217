-- The head by its words, whichever these are. Assumes nothing.
--   head_set    clock and count stored, the other words of the head being those of a board already
--   head_kept   the words of a board's head, but for clock and count, are those of the board with other parts
use Prim.Native.Nat.{ℕ, ◌+◌, ◌<◌, ◌≤◌}
use mathlib.Core.Path.{◌≡◌, refl, sym, ◌∙◌, ap}
use mathlib.Core.List.{List}
use lib.ListN.{length, get_or, set, length-set}
use lib.Seq.{get_or-set_same, get_or-set_other}
use native.Mathlib.Decide.{ℕ_discrete}
use native.Mathlib.Omega.{arith}
use Rattle.part_lines.specs.declared.Jobs.{Jobs}
use Rattle.part_lines.specs.declared.Line.{Line}
use Rattle.part_boardwords.specs.Board.{Board, board_with}
use Rattle.part_boardwords.specs.Layout.{clock_at, count_at, head_size}
use Rattle.part_boardwords.specs.Words.{Words, word_in, board_read}
use Rattle.part_boardwords.specs.Codec.{head_words, overwritten}
use Rattle.part_boardwords.proofs.Parts.{head_word, head_other}
use Rattle.part_boardwords.proofs.Written.{overwritten_is}

pub head_set :
    (v : List ℕ) (d : Board) → head_size ≤ length v
    → ((k : ℕ) → k < head_size → (k ≡ clock_at → ⊥) → (k ≡ count_at → ⊥) → word_in v k ≡ get_or (head_words d) k 0)
    → set (set v clock_at d.clock) count_at d.jobs.count ≡ overwritten v 0 (head_words d)
head_set v d room others =
    overwritten_is v x 0 (head_words d) size room
    (λ i h. ap (λ (j : ℕ). get_or x j 0) {x = 0 + i} {y = i} (omega arith) ∙ inside i h (ℕ_discrete i count_at) (ℕ_discrete i clock_at))
    (λ k h. absurd (omega arith))
    (λ k h. get_or-set_other y count_at k n 0 (λ e. omega arith) ∙ get_or-set_other v clock_at k d.clock 0 (λ e. omega arith))
  where
    n : ℕ
    n = d.jobs.count

    y : List ℕ
    y = set v clock_at d.clock

    x : List ℕ
    x = set y count_at n

    size : length x ≡ length v
    size = length-set y count_at n ∙ length-set v clock_at d.clock

    inside : (i : ℕ) → i < head_size → Dec (i ≡ count_at) → Dec (i ≡ clock_at) → get_or x i 0 ≡ get_or (head_words d) i 0
    inside i h (yes e) c =
        ap (λ (j : ℕ). get_or x j 0) e ∙ get_or-set_same y count_at n 0 (omega (arith, length-set v clock_at d.clock))
        ∙ ap (λ (j : ℕ). get_or (head_words d) j 0) (sym e)
    inside i h (no ne) (yes e) =
        ap (λ (j : ℕ). get_or x j 0) e ∙ get_or-set_other y count_at clock_at n 0 (λ q. omega arith) ∙ get_or-set_same v clock_at d.clock 0 (omega arith)
        ∙ ap (λ (j : ℕ). get_or (head_words d) j 0) (sym e)
    inside i h (no ne) (no nc) =
        get_or-set_other y count_at i n 0 ne ∙ get_or-set_other v clock_at i d.clock 0 nc ∙ others i h nc ne

pub head_kept :
    (w : Words) (c : ℕ) (jobs : Jobs) (ls : List Line) (t : List ℕ) (k : ℕ) → k < head_size → (k ≡ clock_at → ⊥)
    → (k ≡ count_at → ⊥) → w k ≡ get_or (head_words (board_with (board_read w) c jobs ls t)) k 0
head_kept w c jobs ls t k h nc nn = sym (head_word w k h) ∙ head_other (board_read w) (board_with (board_read w) c jobs ls t) k refl h nc nn
