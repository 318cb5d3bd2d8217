-- A list of jobs that is changed where it lies, in words.
--   Listed w x c js   the words x are w, but for the clock c and the jobs js; behind the last job, up to the lines, any words stand
use Rattle.std.specs.Prelude.{ℕ, ◌≤◌, ◌<◌, ◌≡◌, List, length, get_or}
use Rattle.spec_plain.specs.Limits.{most_jobs}
use Rattle.spec_plain.specs.declared.Job.{Job}
use Rattle.part_lines.specs.ArrayLists.{no_job}
use Rattle.part_boardwords.specs.Layout.{clock_at, count_at, jobs_at, lines_at, mark_at}
use Rattle.part_boardwords.specs.Words.{word_in, job_at}

pub record Listed (w x : List ℕ) (c : ℕ) (js : List Job) : Type 0 where
  -- as many words
  pub size : length x ≡ length w
  -- the head's other words stay
  pub head : (k : ℕ) → k < jobs_at → (k ≡ clock_at → ⊥) → (k ≡ count_at → ⊥) → word_in x k ≡ word_in w k
  -- the clock given, and as many jobs as there are
  pub clock : word_in x clock_at ≡ c
  pub count : word_in x count_at ≡ length js
  -- there is room for the jobs
  pub few : length js ≤ most_jobs
  -- the jobs, one by one
  pub jobs : (m : ℕ) → m < length js → job_at (word_in x) m ≡ get_or js m no_job
  -- each with a mark of 0 or 1, which is what writing the job again would write
  pub marks : (m : ℕ) → m < length js → word_in x (mark_at m) ≤ 1
  -- the words behind the places of the jobs
  pub behind : (k : ℕ) → lines_at ≤ k → word_in x k ≡ word_in w k
