-- The rules that an offer makes on a sound board: they name the points to be, and their numbers keep sums within 32 bits. Assumes nothing.
--   Joins s o next m rs   what an accepted draft brings: as many points as the offer has, its job behind the others, room for them, and
--                         usable rules, few enough
--   DraftJoins s o q  a draft stops, or joins so;  drafted_joins shows it
--   drafted_lines     where it joins, the lines to be are those with its allocations put in, which all fit
use mathlib.Core.Path.{◌≡◌, refl, sym, ◌∙◌, ap}
use mathlib.Core.Bool.{Bool, true, false, cond}
use mathlib.Core.List.{List, [], ◌∷◌, ◌++◌}
use Prim.Native.Nat.{ℕ, suc, ◌+◌, ◌-◌, ◌*◌, ◌≤◌, ◌<◌}
use native.Mathlib.Omega.{arith}
use lib.Dec.{eqb, ltb, leb}
use lib.ListN.{length, length-append}
use borrow.Author.Tests.{ltb-false, leb-false}
use Rattle.base_rulings.specs.Answer.{plain}
use Rattle.base_rulings.proofs.RulingLaws.{neither}
use Rattle.part_lines.specs.ArrayLists.{most_rules}
use Rattle.spec_plain.specs.Limits.{most_jobs, most_points, side}
use Rattle.spec_plain.specs.declared.Settings.{Settings}
use Rattle.spec_plain.specs.declared.Job.{Job}
use Rattle.spec_plain.specs.declared.Allocation.{Allocation}
use Rattle.spec_plain.specs.declared.Rule.{Rule}
use Rattle.spec_plain.specs.declared.Step.{Step}
use Rattle.spec_plain.specs.declared.Use.{Use}
use Rattle.spec_plain.specs.Plain.{
  Offer,
  State,
  Placed,
  Draft,
  total,
  live_count,
  not_before,
  not_after,
  in_order,
  used_from,
  durations,
  full,
  new_points,
  job_from,
  placed,
  joining,
  drafted,
  with_jobs,
  with_lines,
  tray_gap,
  job_batch,
  or_else,
  after_newest,
  batch_rules,
  due_rules,
  last_point,
}
use Rattle.base_lists.specs.All.{All}
use Rattle.base_lists.proofs.All.{all_append, all_map}
use Rattle.part_gaps.specs.Cells.{Usable}
use Rattle.part_offered.specs.Sized.{SizedStep, SizedAllocation, SizedOffer}
use Rattle.part_sound.specs.Sound.{SizedJob}
use Rattle.call_board.proofs.OnSound.{Fits}
use Rattle.part_lines.specs.Placing.{all_with, AllFit}
use Rattle.part_lines.proofs.Placing.{placed_done}
use Rattle.call_planning.proofs.Placed.{Placing, placed_all}

-- ---- uses

order_usable : (s : Settings) (n : ℕ) (a b : Use) → Fits n a → Fits n b → Usable n (in_order s a b)
unfolding in_order
order_usable s n a b p q =
    record {
      early_live = p.point;
      late_live = q.point;
      few_more = omega (arith, p.offset, p.length);
      few_slack = omega (arith, q.offset);
    }

overwritten_fits : (n x k : ℕ) (p : Allocation) → x + k ≤ n → SizedAllocation k p → Fits n (used_from x p)
unfolding used_from
overwritten_fits n x k p le s = record { point = omega (arith, s.step); offset = s.readable.offset; length = s.readable.length }

-- ---- rules (b), (c) and (e), and of the due time

durations_usable : (n x : ℕ) (ss : List Step) → x + length ss < n → All SizedStep ss → All (Usable n) (durations x ss)
unfolding durations
durations_usable n x [] h a = tt
durations_usable n x (s ∷ ss) h a = (
  record { early_live = omega arith; late_live = omega arith; few_more = omega (arith, a.0.shortest); few_slack = omega arith },
  (
    record { early_live = omega arith; late_live = omega arith; few_more = omega arith; few_slack = omega (arith, a.0.longest) },
    durations_usable n (suc x) ss (omega arith) a.1,
  ),
)

durations_length : (x : ℕ) (ss : List Step) → length (durations x ss) ≡ 2 * length ss
unfolding durations
durations_length x [] = omega arith
durations_length x (s ∷ ss) = omega (arith, durations_length (suc x) ss)

-- at most one rule, and a usable one
abbrev One : ℕ → List Rule → Type 0
One n rs = All (Usable n) rs × (length rs ≤ 1)

or_else_one : (n : ℕ) (rs later : List Rule) → One n rs → One n later → One n (or_else rs later)
unfolding or_else
or_else_one n [] later a b = b
or_else_one n (r ∷ rs) later a b = a

-- d is the distance of rule (e)
newest_one :
    (H n d b last x : ℕ) (js : List Job) → d ≤ 1000000 → last < n → x + total js ≤ n → All (SizedJob H) js → One n (after_newest d b last x js)
unfolding after_newest total
newest_one H n d b last x [] near h le jobs = (tt, omega arith)
newest_one H n d b last x (j ∷ js) near h le jobs =
    or_else_one n (after_newest d b last (x + j.points) js) _ (newest_one H n d b last (x + j.points) js near h (omega arith) jobs.1)
    (go (eqb (job_batch j) b))
  where
    go : (q : Bool) → One n (cond q (record { early = x + j.points - 1; more = d; late = last; slack = 0 } ∷ []) [])
    go true = (
      (record { early_live = omega (arith, jobs.0.least); late_live = h; few_more = omega arith; few_slack = omega arith }, tt),
      omega arith,
    )
    go false = (tt, omega arith)

batch_one :
    (H n d b last : ℕ) (js : List Job) → d ≤ 1000000 → last < n → 1 + total js ≤ n → All (SizedJob H) js → One n (batch_rules d b last js)
unfolding batch_rules
batch_one H n d b last js near h le jobs = go (eqb b 0)
  where
    go : (q : Bool) → One n (cond q [] (after_newest d b last 1 js))
    go true = (tt, omega arith)
    go false = newest_one H n d b last 1 js near h le jobs

due_one : (n q last : ℕ) → 0 < n → last < n → q ≤ 100000000 → One n (due_rules q last)
unfolding due_rules not_after
due_one n q last some h le = go (eqb q 0)
  where
    go : (t : Bool) → One n (cond t [] (not_after last q ∷ []))
    go true = (tt, omega arith)
    go false = (
      (record { early_live = h; late_live = some; few_more = omega arith; few_slack = omega arith }, tt),
      omega arith,
    )

-- ---- drafts

pub record Joins (s : State) (o : Offer) (next : State) (m : ℕ) (rs : List Rule) : Type 0 where
  pub points : m ≡ new_points o
  pub room : live_count s + m ≤ side
  pub jobs : length s.jobs < most_jobs
  -- the offer's job stands behind the others; beside jobs and lines nothing changes
  pub state : next ≡ with_lines (with_jobs s (s.jobs ++ (job_from o ∷ []))) next.lines
  pub usable : All (Usable (live_count s + m)) rs
  -- 1 by (b), 16 by (c), 64 by (d), 1 by (e) and 1 by the due time
  pub few : length rs ≤ most_rules

unfoldable pub DraftJoins : State → Offer → Draft → Type 0
DraftJoins s o (Draft.stop c) = Unit {0}
DraftJoins s o (Draft.go next m rs) = Joins s o next m rs

module _
    (s : State) (o : Offer) (jobs : All (SizedJob s.settings.horizon) s.jobs) (lines : All (All (Fits (live_count s))) s.lines)
    (top : s.settings.horizon ≤ 100000000) (clock : s.clock + s.settings.lead ≤ 101000000) (offer : SizedOffer s.settings.horizon o)
  where
    abbrev n : ℕ
    n = live_count s + new_points o

    wider : (u : Use) → Fits (live_count s) u → Fits n u
    wider u f = record { point = omega (arith, f.point); offset = f.offset; length = f.length }

    first : Usable n (not_before (live_count s) (s.clock + s.settings.lead))
    unfolding not_before live_count
    first = record { early_live = omega arith; late_live = omega arith; few_more = omega (arith, clock); few_slack = omega arith }

    joined_usable :
        (rs : List Rule) → All (Usable n) rs → length rs ≤ 64 → full s (new_points o) ≡ false → (ls : List (List Use))
        → DraftJoins s o (joining s o (Placed.done ls rs))
    unfolding DraftJoins joining full live_count
    joined_usable rs a few room ls =
        let roomy = neither (leb most_jobs (length s.jobs)) (ltb most_points (total s.jobs + new_points o)) room in
        let last = last_point s o in
        let gap = tray_gap s.settings in
        let by_batch = batch_rules gap (job_batch (job_from o)) last s.jobs in
        let by-due = due_rules o.due last in
        let behind = batch_one s.settings.horizon n gap (job_batch (job_from o)) last s.jobs (omega arith) (omega arith) (omega arith) jobs in
        let on-time = due_one n o.due last (omega arith) (omega arith) (omega (arith, offer.due, top)) in
        let ending = by_batch ++ by-due in
        let lasting = durations (live_count s) o.steps in
        record {
          points = refl;
          room = omega (arith, ltb-false most_points (total s.jobs + new_points o) roomy.1);
          jobs = few_jobs roomy.0;
          state = refl;
          usable = (
            first,
            all_append (Usable n) (lasting ++ rs) ending
                (all_append (Usable n) lasting rs (durations_usable n (live_count s) o.steps (omega arith) offer.steps) a)
                (all_append (Usable n) by_batch by-due behind.0 on-time.0),
          );
          few =
              omega (
                arith,
                length-append (lasting ++ rs) ending,
                length-append lasting rs,
                length-append by_batch by-due,
                durations_length (live_count s) o.steps,
                offer.few,
                few,
                behind.1,
                on-time.1,
              );
        }
      where
        few_jobs : leb most_jobs (length s.jobs) ≡ false → length s.jobs < most_jobs
        few_jobs e = leb-false most_jobs (length s.jobs) e

    joining_joins :
        (q : Placed) → Placing s.settings (Fits n) (Usable n) (order_usable s.settings n) 64 q → full s (new_points o) ≡ false
        → DraftJoins s o (joining s o q)
    unfolding Placing DraftJoins joining
    joining_joins (Placed.stop c) a room = tt
    joining_joins (Placed.done ls rs) a room = joined_usable rs a.1 a.2 room ls

    pub drafted_joins : DraftJoins s o (drafted s o)
    unfolding DraftJoins drafted
    drafted_joins = go (full s (new_points o)) refl
      where
        go :
            (b : Bool) → full s (new_points o) ≡ b
            → DraftJoins s o (cond b (Draft.stop (plain 14)) (joining s o (placed s.settings (live_count s) 0 o.allocations s.lines [])))
        go true e = tt
        go false e =
            joining_joins (placed s.settings (live_count s) 0 o.allocations s.lines [])
            (placed_all s.settings (Fits n) (Usable n) (order_usable s.settings n) (live_count s) 0 64 o.allocations s.lines []
            (all_map (SizedAllocation (length o.steps)) (λ p. Fits n (used_from (live_count s) p))
            (λ p. overwritten_fits n (live_count s) (length o.steps) p (omega arith)) o.allocations offer.allocations)
            (all_map (All (Fits (live_count s))) (All (Fits n)) (λ l. all_map (Fits (live_count s)) (Fits n) (λ u. wider u) l) s.lines lines)
            tt (omega (arith, offer.count))) e

-- ---- the lines to be

unfoldable lines_to_be : Draft → List (List Use)
lines_to_be (Draft.stop c) = []
lines_to_be (Draft.go next m rs) = next.lines

pub drafted_lines :
    (s : State) (o : Offer) (next : State) (m : ℕ) (rs : List Rule) → drafted s o ≡ Draft.go next m rs
    → AllFit (live_count s) s.lines o.allocations × (next.lines ≡ all_with (live_count s) s.lines o.allocations)
unfolding drafted joining lines_to_be
drafted_lines s o next m rs e = go (full s (new_points o)) e
  where
    by :
        (q : Placed) → placed s.settings (live_count s) 0 o.allocations s.lines [] ≡ q → joining s o q ≡ Draft.go next m rs
        → AllFit (live_count s) s.lines o.allocations × (next.lines ≡ all_with (live_count s) s.lines o.allocations)
    by (Placed.stop c) is e = let z : ◌≡◌ {A = ℕ} 0 1 = cc in absurd (omega arith)
    by (Placed.done ls qs) is e =
        let fits = placed_done s.settings (live_count s) 0 o.allocations s.lines ls [] qs is in
        (fits.0, sym (ap lines_to_be e) ∙ fits.1)

    go :
        (b : Bool) → cond b (Draft.stop (plain 14)) (joining s o (placed s.settings (live_count s) 0 o.allocations s.lines [])) ≡ Draft.go next m rs
        → AllFit (live_count s) s.lines o.allocations × (next.lines ≡ all_with (live_count s) s.lines o.allocations)
    go true e = let z : ◌≡◌ {A = ℕ} 0 1 = cc in absurd (omega arith)
    go false e = by (placed s.settings (live_count s) 0 o.allocations s.lines []) refl e
