-- Jobs and lines of words, and of the same words. Assumes nothing.
--   line_of_lem          a line of the lines that words hold;  line_count, line_held: its count, and what it holds
--   held_size, held_use  how many uses a line holds, and which
--   held_jobs_lem, held_job  how many jobs words hold, and which;  job_next, job_over: what is left of them, after k
--   same_line, same_lines   equal words give equal lines
--   same_marks, same_jobs   equal words before the lines give equal marks and jobs
use Prim.Native.Nat.{ℕ, ◌+◌, ◌<◌, ◌≤◌}
use mathlib.Core.Path.{◌≡◌, refl, sym, ◌∙◌, ap}
use mathlib.Core.List.{[], ◌∷◌}
use native.Mathlib.Omega.{arith}
use lib.ListN.{length, get_or, drop, get_or-map}
use lib.Seq.{get_or-take}
use Rattle.spec_plain.specs.declared.Job.{Job}
use Rattle.spec_plain.specs.Plain.{no_use}
use Rattle.part_lines.specs.declared.Line.{Line}
use Rattle.part_lines.specs.ArrayLists.{jobs_of, line_of, lines_of, no_job, no_line}
use Rattle.part_lines.proofs.Lists.{length_held, held_next, held_over}
use Rattle.base_lists.proofs.AllBelow.{all_below_same}
use Rattle.part_boardwords.specs.Layout.{count_at, line_size, lines_at, cells_at, job_start, mark_at, line_start, use_start}
use Rattle.part_boardwords.specs.Words.{Words, line_read, job_at, jobs_read, held_jobs, use_at, line_at, lines_read, all_marked, is_marked}
use Rattle.part_boardwords.proofs.Parts.{job_by, use_by}
use Rattle.base_lists.proofs.Build.{build_length, build_same, build_at}

-- ---- jobs read from words

module _ (w : Words) (few : w count_at ≤ 16) where
  pub held_jobs_lem : length (jobs_of (held_jobs w)) ≡ w count_at
  held_jobs_lem = length_held (w count_at) (jobs_read w) (omega (arith, build_length (job_at w) 16))

  pub held_job : (m : ℕ) → m < w count_at → get_or (jobs_of (held_jobs w)) m no_job ≡ job_at w m
  held_job m h = get_or-take (w count_at) (jobs_read w) m no_job h ∙ build_at (job_at w) 16 m no_job (omega arith)

  pub job_next :
      (k : ℕ) (j : Job) → k < w count_at → j ≡ job_at w k → drop k (jobs_of (held_jobs w)) ≡ j ∷ drop (k + 1) (jobs_of (held_jobs w))
  job_next k j h e =
      held_next (w count_at) (jobs_read w) k no_job h (omega (arith, build_length (job_at w) 16))
      ∙ ap (λ (x : Job). x ∷ drop (k + 1) (jobs_of (held_jobs w))) (build_at (job_at w) 16 k no_job (omega arith) ∙ sym e)

  pub job_over : (k : ℕ) → w count_at ≤ k → drop k (jobs_of (held_jobs w)) ≡ []
  job_over k h = held_over (w count_at) (jobs_read w) k h

-- ---- lines read from words

pub line_of_lem : (w : Words) (r : ℕ) → r < 16 → get_or (lines_read w) r no_line ≡ line_at w r
line_of_lem w r h = build_at (line_at w) 16 r no_line h

pub line_count : (w : Words) (r : ℕ) → r < 16 → (get_or (lines_read w) r no_line).count ≡ w (line_start r)
line_count w r h = ap (λ (q : Line). q.count) (line_of_lem w r h)

pub line_held : (w : Words) (r : ℕ) → r < 16 → get_or (lines_of (lines_read w)) r [] ≡ line_of (line_at w r)
line_held w r h = get_or-map line_of (lines_read w) r no_line ∙ ap line_of (line_of_lem w r h)

module _ (w : Words) (at : ℕ) where
  pub held_size : w at ≤ 32 → length (line_of (line_read w at)) ≡ w at
  held_size h = length_held (w at) (line_read w at).uses (omega (arith, build_length (use_at w at) 32))

  pub held_use : (k : ℕ) → k < w at → k < 32 → get_or (line_of (line_read w at)) k no_use ≡ use_at w at k
  held_use k h room = get_or-take (w at) (line_read w at).uses k no_use h ∙ build_at (use_at w at) 32 k no_use room

-- ---- the same words

module _ (v w : Words) where
  pub same_line : (at : ℕ) → ((k : ℕ) → at ≤ k → k < at + line_size → v k ≡ w k) → line_read v at ≡ line_read w at
  same_line at same =
      rw (same at (omega arith) (omega arith), build_same (use_at v at) (use_at w at) 32 one) refl
    where
      one : (m : ℕ) → m < 32 → use_at v at m ≡ use_at w at m
      one m l =
          let to = use_start at m in
          use_by v w to to (λ i h. same (to + i) (omega arith) (omega arith))

  pub same_lines : ((k : ℕ) → lines_at ≤ k → k < cells_at → v k ≡ w k) → lines_read v ≡ lines_read w
  same_lines same = build_same (line_at v) (line_at w) 16 (λ k h. same_line (line_start k) (λ i a b. same i (omega arith) (omega arith)))

module _ (v w : Words) (same : (k : ℕ) → k < lines_at → v k ≡ w k) where
  pub same_marks : all_marked v ≡ all_marked w
  unfolding all_marked
  same_marks =
      all_below_same (λ k. is_marked (v count_at) k (v (mark_at k))) (λ k. is_marked (w count_at) k (w (mark_at k))) 16
      (λ k h. rw (same count_at (omega arith), same (mark_at k) (omega arith)) refl)

  pub same_jobs : held_jobs v ≡ held_jobs w
  same_jobs =
      rw (same count_at (omega arith), build_same (job_at v) (job_at w) 16 one) refl
    where
      one : (m : ℕ) → m < 16 → job_at v m ≡ job_at w m
      one m h = job_by v w (job_start m) (job_start m) (λ i l. same (job_start m + i) (omega arith))
