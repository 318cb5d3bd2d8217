-- What holds of each job's points, carried from one table and one list of jobs to the next.
--   each_map, each_append    one statement for another; lists one after the other
--   still_tight              a point that stands still does so in every table that allows no more
--   still_jobs               so do the points of sent jobs
--   total_append, jobs_append   points and jobs of two lists
use mathlib.Core.Path.{◌≡◌}
use mathlib.Core.List.{List, [], ◌∷◌, ◌++◌}
use Prim.Native.Nat.{ℕ, ◌+◌, ◌≤◌, ◌<◌}
use native.Mathlib.Omega.{arith}
use lib.Dec.{T}
use lib.IntN.{pos}
use Rattle.spec_plain.specs.declared.Job.{Job}
use Rattle.spec_plain.specs.Plain.{total}
use Rattle.spec_plain.specs.Rules.{Times}
use Rattle.spec_stn.specs.Table.{Table, Closed, Fits, earliest, latest, Still}
use Rattle.spec_stn.proofs.Fits.{tight}
use Rattle.theorem_demands.specs.Beside.{Each, StillJobs, AllHavePoints}

-- the jobs' points are below n
pub each_map :
    (P Q : Job → ℕ → Type 0) (n : ℕ) → ((j : Job) (i : ℕ) → i < n → P j i → Q j i)
    → (js : List Job) (x : ℕ) → x + total js ≤ n → Each P x js → Each Q x js
unfolding Each total
each_map P Q n f [] x le e = tt
each_map P Q n f (j ∷ js) x le e =
    (λ i lo hi. f j i (omega arith) (e.0 i lo hi), each_map P Q n f js (x + j.points) (omega arith) e.1)

pub each_append : (P : Job → ℕ → Type 0) (js ks : List Job) (x : ℕ) → Each P x js → ((y : ℕ) → Each P y ks) → Each P x (js ++ ks)
unfolding Each
each_append P [] ks x a b = b x
each_append P (j ∷ js) ks x a b = (a.0, each_append P js ks (x + j.points) a.1 b)

-- The earliest time is no sooner and the latest no later in a table that allows no more; and in no closed table is the one behind the other
pub still_tight :
    (n m : ℕ) (c d : Table) → Closed n d → 0 < m → m ≤ n → ((t : Times) → t 0 ≡ pos 0 → Fits n d t → Fits m c t)
    → (i : ℕ) → i < m → Still c i → Still d i
unfolding earliest latest
still_tight n m c d cl z le f i hi e =
    let o : 0 < n = omega arith in
    let h : i < n = omega arith in
    omega (arith, tight n m d c cl le f 0 i z hi, tight n m d c cl le f i 0 hi z, cl.triangle 0 i 0 o h o, cl.diagonal 0 o, cl.floor i h)

pub still_jobs :
    (c d : Table) (n : ℕ) → ((i : ℕ) → i < n → Still c i → Still d i)
    → (js : List Job) (x : ℕ) → x + total js ≤ n → StillJobs c x js → StillJobs d x js
still_jobs c d n f js x le s =
    each_map (λ j i. T j.sent → Still c i) (λ j i. T j.sent → Still d i) n (λ j i h was sent. f i h (was sent)) js x le s

pub total_append : (js ks : List Job) → total (js ++ ks) ≡ total js + total ks
unfolding total
total_append [] ks = omega arith
total_append (j ∷ js) ks = omega (arith, total_append js ks)

pub jobs_append : (js ks : List Job) → AllHavePoints js → AllHavePoints ks → AllHavePoints (js ++ ks)
unfolding AllHavePoints
jobs_append [] ks a b = b
jobs_append (j ∷ js) ks a b = (a.0, jobs_append js ks a.1 b)
