-- Laws of the list of jobs.
--   jobs_back            a list laid into Jobs is read back
--   length_marked        as many jobs when the first of them are sent
--   unsent_past, unsent_at_lem   18: a place past the list, and one in it
--   full_jobs, full_points   14: there are 16 jobs, or it depends on the points
use Prim.Native.Nat.{ℕ, zero, suc, ◌+◌, ◌≤◌, ◌<◌}
use mathlib.Core.Path.{◌≡◌, refl, ap}
use mathlib.Core.Bool.{true, false, not}
use mathlib.Core.List.{List, [], ◌∷◌}
use lib.Dec.{ltb}
use lib.ListN.{length, get_or}
use native.Mathlib.Omega.{arith}
use borrow.Author.Tests.{le-leb, lt-leb}
use Rattle.spec_plain.specs.Limits.{most_jobs, most_points}
use Rattle.spec_plain.specs.Plain.{State, total, full, sent_up_to, unsent_at}
use Rattle.part_lines.specs.ArrayLists.{jobs_of, jobs_from, no_job}
use Rattle.spec_plain.specs.declared.Job.{Job}
use Rattle.part_lines.proofs.Padded.{take_padded}

pub jobs_back : (js : List Job) → length js ≤ most_jobs → jobs_of (jobs_from js) ≡ js
jobs_back js h = take_padded most_jobs no_job js h

-- ---- marked

pub length_marked : (k : ℕ) (js : List Job) → length (sent_up_to k js) ≡ length js
unfolding sent_up_to
length_marked zero js = refl
length_marked (suc k) [] = refl
length_marked (suc k) (j ∷ js) = ap suc (length_marked k js)

-- ---- 18

pub unsent_past : (js : List Job) (k : ℕ) → length js ≤ k → false ≡ unsent_at k js
unfolding unsent_at
unsent_past [] k h = refl
unsent_past (j ∷ js) zero h = absurd (omega arith)
unsent_past (j ∷ js) (suc k) h = unsent_past js k (omega arith)

pub unsent_at_lem : (js : List Job) (k : ℕ) → k < length js → not (get_or js k no_job).sent ≡ unsent_at k js
unfolding unsent_at
unsent_at_lem [] k h = absurd (omega arith)
unsent_at_lem (j ∷ js) zero h = refl
unsent_at_lem (j ∷ js) (suc k) h = unsent_at_lem js k (omega arith)

-- ---- 14

module _ (s : State) (js : List Job) (e : s.jobs ≡ js) (n : ℕ) where
  pub full_jobs : most_jobs ≤ length js → true ≡ full s n
  unfolding full
  full_jobs h = rw (e, le-leb most_jobs (length js) h)

  pub full_points : length js < most_jobs → ltb most_points (total js + n) ≡ full s n
  unfolding full
  full_points h = rw (e, lt-leb most_jobs (length js) h)
