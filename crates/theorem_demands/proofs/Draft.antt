-- What an offer comes to before timetables are looked at: a state with one more job, its points behind those that are there, and rules
-- over these points.
--   Joins s next n rs   the state `next` is s with n points more, and the rules rs name only its points
--   DraftIn s q         a draft stops, or joins so;  drafted_in shows it
--   offer_in p o        an offer that was read from bytes has its allocations at its steps
use mathlib.Core.Path.{◌≡◌, ap}
use mathlib.Core.Bool.{Bool, true, false, cond}
use mathlib.Core.List.{List, [], ◌∷◌, ◌++◌}
use Prim.Native.Nat.{ℕ, zero, suc, ◌+◌, ◌-◌, ◌≤◌, ◌<◌}
use native.Mathlib.Omega.{arith}
use lib.Dec.{T, eqb}
use lib.ListN.{length}
use Rattle.base_rulings.specs.Answer.{cause}
use Rattle.spec_plain.specs.declared.Job.{Job}
use Rattle.spec_plain.specs.declared.Allocation.{Allocation}
use Rattle.spec_plain.specs.declared.Rule.{Rule}
use Rattle.spec_plain.specs.declared.Step.{Step}
use Rattle.spec_plain.specs.declared.Use.{Use}
use Rattle.spec_plain.specs.Plain.{Offer, State, Placed, Draft, total, live_count, not_before, durations, full, new_points, job_from, placed, joining, drafted}
use Rattle.spec_plain.specs.Plain.{with_jobs, with_lines, tray_gap, job_batch, or_else, after_newest, batch_rules, due_rules, not_after, last_point}
use Rattle.read_plant.specs.Plant.{allocation_count}
use Rattle.read_offer.specs.Offer.{step_count}
use Rattle.spec_stn.specs.Table.{bias, Table, Still, Within}
use Rattle.spec_rulebook.specs.Reading.{record_of, allocation_of, steps_from, allocations_of_step, allocations_from, offer_of}
use Rattle.theorem_demands.specs.Beside.{Each, StillJobs, LinesOfLive, AllHavePoints}
use Rattle.theorem_demands.proofs.Jobs.{each_append, total_append, jobs_append}
use Rattle.theorem_demands.proofs.Lines.{lines_wider, within_append, PutsIn, PlacedIn, placed_in}

-- ---- rules (c) and (e), and of the due time

durations_in : (n x : ℕ) (ss : List Step) → x + length ss < n → Within n (durations x ss)
unfolding Within durations
durations_in n x [] h = tt
durations_in n x (s ∷ ss) h = (omega arith, omega arith, (omega arith, omega arith, durations_in n (suc x) ss (omega arith)))

or_else_in : (n : ℕ) (rs later : List Rule) → Within n rs → Within n later → Within n (or_else rs later)
unfolding Within or_else
or_else_in n [] later a b = b
or_else_in n (r ∷ rs) later a b = a

newest_in : (n d b last x : ℕ) (js : List Job) → last < n → x + total js ≤ n → AllHavePoints js → Within n (after_newest d b last x js)
unfolding Within after_newest total AllHavePoints
newest_in n d b last x [] h le jobs = tt
newest_in n d b last x (j ∷ js) h le jobs =
    or_else_in n (after_newest d b last (x + j.points) js) _ (newest_in n d b last (x + j.points) js h (omega arith) jobs.1)
    (go (eqb (job_batch j) b))
  where
    go : (q : Bool) → Within n (cond q (record { early = x + j.points - 1; more = d; late = last; slack = 0 } ∷ []) [])
    go true = (omega (arith, jobs.0), h, tt)
    go false = tt

batch_in_lem : (n d b last : ℕ) (js : List Job) → last < n → 1 + total js ≤ n → AllHavePoints js → Within n (batch_rules d b last js)
unfolding Within batch_rules
batch_in_lem n d b last js h le jobs = go (eqb b 0)
  where
    go : (q : Bool) → Within n (cond q [] (after_newest d b last 1 js))
    go true = tt
    go false = newest_in n d b last 1 js h le jobs

due_in : (n q last : ℕ) → 0 < n → last < n → Within n (due_rules q last)
unfolding Within due_rules not_after
due_in n q last some h = go (eqb q 0)
  where
    go : (t : Bool) → Within n (cond t [] (not_after last q ∷ []))
    go true = tt
    go false = (h, some, tt)

-- ---- offers

module _ (p o : List ℕ) where
  steps_length : (k n : ℕ) → length (steps_from p o k n) ≡ n
  unfolding steps_from
  steps_length k zero = omega arith
  steps_length k (suc n) = ap suc (steps_length (k + 1) n)

  -- the allocations of step k, before others
  step_in : (m k j n : ℕ) (ps : List Allocation) → k < m → PutsIn m ps → PutsIn m (allocations_of_step p o k j n ++ ps)
  unfolding PutsIn allocations_of_step allocation_of
  step_in m k j zero ps h a = a
  step_in m k j (suc n) ps h a = (h, step_in m k (j + 1) n ps h a)

  puts_in : (m k n : ℕ) → k + n ≤ m → PutsIn m (allocations_from p o k n)
  unfolding PutsIn allocations_from
  puts_in m k zero le = tt
  puts_in m k (suc n) le =
      step_in m k 0 (allocation_count p (record_of p o k)) (allocations_from p o (k + 1) n) (omega arith) (puts_in m (k + 1) n (omega arith))

  pub offer_in : PutsIn (length (offer_of p o).steps) (offer_of p o).allocations
  unfolding offer_of
  offer_in = rw (steps_length 0 (step_count o)) (puts_in (step_count o) 0 (step_count o) (omega arith))

-- ---- drafts

pub record Joins (s next : State) (n : ℕ) (rs : List Rule) : Type 0 where
  -- n new points stand behind the old ones
  pub points : live_count next ≡ live_count s + n
  pub within : Within (live_count next) rs
  pub lines : LinesOfLive (live_count next) next.lines
  pub jobs : AllHavePoints next.jobs
  pub small : next.settings.horizon ≤ bias
  -- the new job is unsent
  pub still : (d : Table) → StillJobs d 1 s.jobs → StillJobs d 1 next.jobs

unfoldable pub DraftIn : State → Draft → Type 0
DraftIn s (Draft.stop c) = Unit {0}
DraftIn s (Draft.go next n rs) = Joins s next n rs

-- the state to be, with these lines
abbrev next_of : State → Offer → List (List Use) → State
next_of s o ls = with_lines (with_jobs s (s.jobs ++ (job_from o ∷ []))) ls

next_live : (s : State) (o : Offer) (ls : List (List Use)) → live_count (next_of s o ls) ≡ live_count s + new_points o
unfolding live_count total
next_live s o ls = omega (arith, total_append s.jobs (job_from o ∷ []))

-- rules (b) to (e) and of the due time, with those that placing made
abbrev new_rules : State → Offer → List Rule → List Rule
new_rules s o rs =
    not_before (live_count s) (s.clock + s.settings.lead)
    ∷ durations (live_count s) o.steps ++ rs
    ++ (batch_rules (tray_gap s.settings) (job_batch (job_from o)) (last_point s o) s.jobs ++ due_rules o.due (last_point s o))

module _
    (s : State) (o : Offer) (lines : LinesOfLive (live_count s) s.lines) (jobs : AllHavePoints s.jobs) (small : s.settings.horizon ≤ bias)
  where
    rules_in : (n : ℕ) (rs : List Rule) → n ≡ live_count s + new_points o → Within n rs → Within n (new_rules s o rs)
    unfolding Within not_before live_count
    rules_in n rs e w =
        let last = last_point s o in
        let by_batch = batch_rules (tray_gap s.settings) (job_batch (job_from o)) last s.jobs in (
          omega arith,
          omega arith,
          within_append n (durations (live_count s) o.steps ++ rs) _
              (within_append n (durations (live_count s) o.steps) rs (durations_in n (live_count s) o.steps (omega arith)) w)
              (within_append n by_batch (due_rules o.due last)
              (batch_in_lem n (tray_gap s.settings) (job_batch (job_from o)) last s.jobs (omega arith) (omega arith) jobs)
              (due_in n o.due last (omega arith) (omega arith))),
        )

    joining_in : (q : Placed) → PlacedIn (live_count s + new_points o) q → DraftIn s (joining s o q)
    unfolding DraftIn joining PlacedIn AllHavePoints Each
    joining_in (Placed.stop c) a = tt
    joining_in (Placed.done ls rs) a =
        let e = next_live s o ls in
        record {
          points = e;
          within = rules_in (live_count (next_of s o ls)) rs e (rw e a.1);
          lines = rw e a.0;
          jobs = jobs_append s.jobs (job_from o ∷ []) jobs (omega arith, tt);
          small = small;
          still = λ d was.
              each_append (λ j i. T j.sent → Still d i) s.jobs (job_from o ∷ []) 1 was (λ y. ((λ i lo hi sent. absurd sent), tt));
        }

    pub drafted_in : PutsIn (length o.steps) o.allocations → DraftIn s (drafted s o)
    unfolding DraftIn drafted Within
    drafted_in a = go (full s (new_points o))
      where
        go : (b : Bool) → DraftIn s (cond b (Draft.stop (cause 14 0)) (joining s o (placed s.settings (live_count s) 0 o.allocations s.lines [])))
        go true = tt
        go false =
            joining_in (placed s.settings (live_count s) 0 o.allocations s.lines [])
            (placed_in s.settings (live_count s + new_points o) (live_count s) (length o.steps) 0 o.allocations s.lines [] (omega arith) a
            (lines_wider (live_count s) (live_count s + new_points o) s.lines (omega arith) lines) tt)
