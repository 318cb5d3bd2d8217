-- Words that were written and are read again.
--   lines_word, lines_back   a word of the lines, and the lines
--   board_back   the board of the words of a board with arrays of their lengths, whose jobs are marked, is that board
use Prim.Native.Nat.{ℕ, suc, ◌+◌, ◌*◌, ◌<◌, ◌≤◌}
use mathlib.Core.Path.{◌≡◌, refl, sym, ◌∙◌, ap}
use mathlib.Core.Bool.{Bool, true}
use mathlib.Core.List.{List, ◌++◌}
use lib.ListN.{length, get_or, get_or-append}
use native.Mathlib.Omega.{arith}
use Rattle.spec_plain.specs.Limits.{most_jobs, resources, most_uses, cell_count}
use Rattle.spec_plain.specs.declared.Settings.{Settings}
use Rattle.spec_plain.specs.declared.Job.{Job}
use Rattle.spec_plain.specs.declared.Use.{Use}
use Rattle.spec_plain.specs.Plain.{no_use}
use Rattle.part_lines.specs.declared.Line.{Line}
use Rattle.part_lines.specs.ArrayLists.{no_job, no_line}
use Rattle.part_boardwords.specs.Board.{Board, Arrays}
use Rattle.part_boardwords.specs.Layout.{clock_at, count_at, head_size, sent_in, job_size, use_size, line_size, jobs_size, lines_size}
use Rattle.part_boardwords.specs.Layout.{jobs_at, lines_at, cells_at, job_start, mark_at, line_start, use_start}
use Rattle.part_boardwords.specs.Words.{word_in, board_in, job_at, use_at, line_at, lines_read, cell_at}
use Rattle.part_boardwords.specs.Codec.{job_words, use_words, line_words, jobs_words, lines_words, cells_words, head_words, frame_words, words_of}
use Rattle.base_lists.proofs.Build.{past, build_same, build_at, build_back}
use Rattle.part_boardwords.proofs.Blocks.{joined_at}
use Rattle.part_boardwords.proofs.Overwritten.{length_line, length_jobs, length_frame}
use Rattle.part_boardwords.proofs.Parts.{mark_small, settings_written, job_written, use_written}
use Rattle.part_boardwords.proofs.Inverse.{marks_hold}

same_line : (l : Line) {n : ℕ} {us : List Use} → n ≡ l.count → us ≡ l.uses → record { count = n; uses = us } ≡ l
same_line l a b = rw (a, b)

same_board :
    (b : Board) {s : Settings} {c n : ℕ} {js : List Job} {m : Bool} {ls : List Line} {gs : List ℕ} → s ≡ b.settings → c ≡ b.clock
    → n ≡ b.jobs.count → js ≡ b.jobs.jobs → m ≡ b.marked → ls ≡ b.lines → gs ≡ b.gaps
    → record { settings = s; clock = c; jobs = record { count = n; jobs = js }; marked = m; lines = ls; gaps = gs } ≡ b
same_board b e₁ e₂ e₃ e₄ e₅ e₆ e₇ = rw (e₁, e₂, e₃, e₄, e₅, e₆, e₇)

module _ (b : Board) where
  -- a word of the frame, of its head, behind its head, and a cell
  in_frame : (n : ℕ) → n < cells_at → word_in (words_of b) n ≡ word_in (frame_words b) n
  unfolding words_of
  in_frame n h = get_or-append (frame_words b) (cells_words b.gaps) 0 n (omega (arith, length_frame b))

  in_head : (n : ℕ) → n < head_size → word_in (words_of b) n ≡ get_or (head_words b) n 0
  unfolding frame_words
  in_head n h = in_frame n (omega arith) ∙ get_or-append (head_words b) (jobs_words b.jobs.jobs ++ lines_words b.lines) 0 n h

  behind_head : (n k : ℕ) → n ≡ jobs_at + k → k < jobs_size + lines_size → word_in (words_of b) n ≡ get_or (jobs_words b.jobs.jobs ++ lines_words b.lines) k 0
  unfolding frame_words
  behind_head n k e h =
      in_frame n (omega arith) ∙ past (head_words b) (jobs_words b.jobs.jobs ++ lines_words b.lines) n k 0 e

  job_word :
      (k i : ℕ) → k < most_jobs → i < job_size → word_in (words_of b) (job_start k + i) ≡ get_or (job_words (get_or b.jobs.jobs k no_job)) i 0
  job_word k i h l =
      behind_head (job_start k + i) (job_size * k + i) (omega arith) (omega arith)
      ∙ get_or-append (jobs_words b.jobs.jobs) (lines_words b.lines) 0 (job_size * k + i) (omega (arith, length_jobs b.jobs.jobs))
      ∙ joined_at (λ j. job_words (get_or b.jobs.jobs j no_job)) job_size most_jobs k i (λ j. refl) h l

  -- a word of the lines
  pub lines_word : (n : ℕ) → n < lines_size → word_in (words_of b) (lines_at + n) ≡ get_or (lines_words b.lines) n 0
  lines_word n h =
      behind_head (lines_at + n) (jobs_size + n) (omega arith) (omega arith)
      ∙ past (jobs_words b.jobs.jobs) (lines_words b.lines) (jobs_size + n) n 0 (omega (arith, length_jobs b.jobs.jobs))

  line_word :
      (k i n : ℕ) → k < resources → i < line_size → n ≡ lines_at + (line_size * k + i)
      → word_in (words_of b) n ≡ get_or (line_words (get_or b.lines k no_line)) i 0
  line_word k i n h l e =
      ap (word_in (words_of b)) e
      ∙ lines_word (line_size * k + i) (omega arith)
      ∙ joined_at (λ j. line_words (get_or b.lines j no_line)) line_size resources k i (λ j. length_line (get_or b.lines j no_line)) h l

  use_word :
      (k m i : ℕ) → k < resources → m < most_uses → i < use_size
      → word_in (words_of b) (use_start (line_start k) m + i) ≡ get_or (use_words (get_or (get_or b.lines k no_line).uses m no_use)) i 0
  use_word k m i h l s =
      line_word k (suc (use_size * m + i)) (use_start (line_start k) m + i) h (omega arith) (omega arith)
      ∙ joined_at (λ j. use_words (get_or (get_or b.lines k no_line).uses j no_use)) use_size most_uses m i (λ j. refl) l s

  cell_word_lem : (k : ℕ) → k < cell_count → word_in (words_of b) (cells_at + k) ≡ get_or b.gaps k 0
  unfolding words_of
  cell_word_lem k h =
      past (frame_words b) (cells_words b.gaps) (cells_at + k) k 0 (omega (arith, length_frame b))
      ∙ build_at (λ i. get_or b.gaps i 0) cell_count k 0 h

  marks_written : (k : ℕ) → k < most_jobs → word_in (words_of b) (mark_at k) ≤ 1
  marks_written k h =
      let e = job_word k sent_in h (omega arith) in
      let s = mark_small (get_or b.jobs.jobs k no_job).sent in
      omega (arith, e, s)

  line_back :
      (k : ℕ) → k < resources → length (get_or b.lines k no_line).uses ≡ most_uses → line_at (word_in (words_of b)) k ≡ get_or b.lines k no_line
  line_back k h len =
      same_line (get_or b.lines k no_line)
      (line_word k 0 (line_start k) h (omega arith) (omega arith))
      (build_same (use_at (word_in (words_of b)) (line_start k)) (λ m. get_or (get_or b.lines k no_line).uses m no_use) most_uses
      (λ m l. use_written (word_in (words_of b)) (use_start (line_start k) m) (get_or (get_or b.lines k no_line).uses m no_use) (λ i s. use_word k m i h l s))
      ∙ build_back (get_or b.lines k no_line).uses most_uses no_use len)

  pub lines_back :
      length b.lines ≡ resources → ((k : ℕ) → k < resources → length (get_or b.lines k no_line).uses ≡ most_uses)
      → lines_read (word_in (words_of b)) ≡ b.lines
  lines_back many full =
      build_same (line_at (word_in (words_of b))) (λ k. get_or b.lines k no_line) resources (λ k h. line_back k h (full k h))
      ∙ build_back b.lines resources no_line many

  pub board_back : Arrays b → b.marked ≡ true → board_in (words_of b) ≡ b
  board_back s marked =
      same_board b (settings_written (word_in (words_of b)) b (λ i h. in_head i (omega arith))) (in_head clock_at (omega arith)) (in_head count_at (omega arith))
      (build_same (job_at (word_in (words_of b))) (λ k. get_or b.jobs.jobs k no_job) most_jobs
      (λ k h. job_written (word_in (words_of b)) (job_start k) (get_or b.jobs.jobs k no_job) (λ i l. job_word k i h l))
      ∙ build_back b.jobs.jobs most_jobs no_job s.jobs)
      (marks_hold (word_in (words_of b)) marks_written ∙ sym marked)
      (lines_back s.lines s.uses)
      (build_same (cell_at (word_in (words_of b))) (λ k. get_or b.gaps k 0) cell_count cell_word_lem ∙ build_back b.gaps cell_count 0 s.gaps)
