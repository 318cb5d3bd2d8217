-- Words that were read and are written again.
--   marks_hold   marks of 0 and 1
--   uses_read_lem, jobs_read_lem, lines_read_lem   the words of uses, of jobs, of lines, that were read
--   all_read     those of a board
--   words_back   the words of the board of a list of as many words, the marks 0 or 1, are that list
-- Of a mark that is neither 0 nor 1 the test of soundness says that the board is not sound: every call refuses it, and no word is written.
use Prim.Native.Nat.{ℕ, ◌+◌, ◌*◌, ◌<◌, ◌≤◌}
use mathlib.Core.Path.{◌≡◌, refl, sym, ◌∙◌, ap, ap₂}
use mathlib.Core.Bool.{Bool, true, false, ◌||◌}
use mathlib.Core.List.{List, [], ◌∷◌, ◌++◌}
use lib.ListN.{length, get_or}
use lib.Dec.{leb}
use borrow.Author.Tests.{le-leb}
use native.Mathlib.Omega.{arith}
use Rattle.spec_plain.specs.Limits.{most_jobs, resources, most_uses, cell_count}
use Rattle.spec_plain.specs.Plain.{no_use}
use Rattle.part_lines.specs.ArrayLists.{no_job, no_line}
use Rattle.base_lists.proofs.AllBelow.{all_below_of}
use Rattle.base_lists.specs.Loops.{build}
use Rattle.part_boardwords.specs.Layout.{count_at, head_size, job_size, use_size, uses_in, uses_size, line_size, jobs_size, lines_size}
use Rattle.part_boardwords.specs.Layout.{jobs_at, lines_at, cells_at, board_size, job_start, mark_at, line_start, use_start}
use Rattle.part_boardwords.specs.Words.{Words, word_in, board_in, job_at, jobs_read, use_at, uses_read, line_at, lines_read}
use Rattle.part_boardwords.specs.Words.{cell_at, cells_read, is_marked, all_marked, board_read}
use Rattle.part_boardwords.specs.Codec.{job_words, use_words, uses_words, line_words, jobs_words, lines_words, cells_words, head_words, frame_words, words_of}
use Rattle.base_lists.proofs.Build.{build_same, build_at, build_back, build_add}
use Rattle.part_boardwords.proofs.Filled.{filled}
use Rattle.part_boardwords.proofs.Blocks.{joined_same, joined_blocks}
use Rattle.part_boardwords.proofs.Parts.{job_word, use_word, head_word}

or_true : (a : Bool) {b : Bool} → b ≡ true → (a || b) ≡ true
or_true true e = refl
or_true false e = e

pub marks_hold : (w : Words) → ((k : ℕ) → k < most_jobs → w (mark_at k) ≤ 1) → all_marked w ≡ true
unfolding all_marked is_marked
marks_hold w h =
    all_below_of (λ k. leb (w count_at) k || leb (w (mark_at k)) 1) most_jobs (λ k l. or_true (leb (w count_at) k) (le-leb (w (mark_at k)) 1 (h k l)))

module _ (w : Words) where
  pub uses_read_lem : (at : ℕ) → uses_words (uses_read w at) ≡ build (λ j. w (at + uses_in + j)) uses_size
  uses_read_lem at =
      joined_same (λ k. use_words (get_or (uses_read w at) k no_use)) (λ k. build (λ i. w (at + uses_in + (use_size * k + i))) use_size) most_uses
      (λ k h. ap use_words (build_at (use_at w at) most_uses k no_use h)
      ∙ filled 0 (λ i. w (at + uses_in + (use_size * k + i))) use_size (use_words (use_at w at k)) refl
      (λ i l. use_word w (use_start at k) i l ∙ ap w {x = use_start at k + i} {y = at + uses_in + (use_size * k + i)} (omega arith)))
      ∙ joined_blocks (λ j. w (at + uses_in + j)) use_size most_uses

  pub jobs_read_lem : ((k : ℕ) → k < most_jobs → w (mark_at k) ≤ 1) → jobs_words (jobs_read w) ≡ build (λ j. w (jobs_at + j)) jobs_size
  jobs_read_lem marks =
      joined_same (λ k. job_words (get_or (jobs_read w) k no_job)) (λ k. build (λ i. w (jobs_at + (job_size * k + i))) job_size) most_jobs
      (λ k h. ap job_words (build_at (job_at w) most_jobs k no_job h)
      ∙ filled 0 (λ i. w (jobs_at + (job_size * k + i))) job_size (job_words (job_at w k)) refl
      (λ i l. job_word w (job_start k) i (marks k h) l ∙ ap w {x = job_start k + i} {y = jobs_at + (job_size * k + i)} (omega arith)))
      ∙ joined_blocks (λ j. w (jobs_at + j)) job_size most_jobs

  build_one : (f : ℕ → ℕ) → build f 1 ≡ (f 0 ∷ [])
  unfolding build
  build_one f = refl

  line_read_lem : (k : ℕ) → line_words (line_at w k) ≡ build (λ i. w (lines_at + (line_size * k + i))) line_size
  line_read_lem k =
      ap₂ (λ (a : ℕ) (l : List ℕ). a ∷ l)
      (ap w {x = line_start k} {y = lines_at + (line_size * k + 0)} (omega arith))
      (uses_read_lem (line_start k)
      ∙ build_same (λ j. w (line_start k + uses_in + j)) (λ j. w (lines_at + (line_size * k + (1 + j)))) uses_size (λ j l. ap w (omega arith)))
      ∙ ap (λ (l : List ℕ). l ++ build (λ j. w (lines_at + (line_size * k + (1 + j)))) uses_size) (sym (build_one (λ i. w (lines_at + (line_size * k + i)))))
      ∙ sym (build_add (λ i. w (lines_at + (line_size * k + i))) 1 uses_size)

  pub lines_read_lem : lines_words (lines_read w) ≡ build (λ j. w (lines_at + j)) lines_size
  lines_read_lem =
      joined_same (λ k. line_words (get_or (lines_read w) k no_line)) (λ k. build (λ i. w (lines_at + (line_size * k + i))) line_size) resources
      (λ k l. ap line_words (build_at (line_at w) resources k no_line l) ∙ line_read_lem k)
      ∙ joined_blocks (λ j. w (lines_at + j)) line_size resources

  cells_read_lem : cells_words (cells_read w) ≡ build (λ j. w (cells_at + j)) cell_count
  cells_read_lem = build_same (λ k. get_or (cells_read w) k 0) (λ j. w (cells_at + j)) cell_count (λ k h. build_at (cell_at w) cell_count k 0 h)

  head_read : head_words (board_read w) ≡ build w head_size
  head_read = filled 0 w head_size (head_words (board_read w)) refl (head_word w)

  -- the words of the frame, in three parts
  parts : build w cells_at ≡ build w head_size ++ (build (λ j. w (jobs_at + j)) jobs_size ++ build (λ j. w (lines_at + j)) lines_size)
  parts =
      build_add w head_size (jobs_size + lines_size)
      ∙ ap (λ (l : List ℕ). build w head_size ++ l)
      (build_add (λ j. w (jobs_at + j)) jobs_size lines_size
      ∙ ap (λ (l : List ℕ). build (λ j. w (jobs_at + j)) jobs_size ++ l)
      (build_same (λ j. w (jobs_at + (jobs_size + j))) (λ j. w (lines_at + j)) lines_size (λ j l. ap w (omega arith))))

  frame_read_lem : ((k : ℕ) → k < most_jobs → w (mark_at k) ≤ 1) → frame_words (board_read w) ≡ build w cells_at
  unfolding frame_words
  frame_read_lem marks = ap₂ (λ (l m : List ℕ). l ++ m) head_read (ap₂ (λ (l m : List ℕ). l ++ m) (jobs_read_lem marks) lines_read_lem) ∙ sym parts

  pub all_read : ((k : ℕ) → k < most_jobs → w (mark_at k) ≤ 1) → words_of (board_read w) ≡ build w board_size
  unfolding words_of
  all_read marks = ap₂ (λ (l m : List ℕ). l ++ m) (frame_read_lem marks) cells_read_lem ∙ sym (build_add w cells_at cell_count)

pub words_back : (l : List ℕ) → length l ≡ board_size → ((k : ℕ) → k < most_jobs → word_in l (mark_at k) ≤ 1) → words_of (board_in l) ≡ l
words_back l e marks = all_read (word_in l) marks ∙ build_back l board_size 0 e
