-- The states that send and clock leave are within the limits, where the state before is; what plan leaves is in Drafts.
--   sent_limits, clock_limits   so;  live_few: and no more than 65 points live, with the origin
use mathlib.Core.Path.{◌≡◌}
use mathlib.Core.Bool.{true}
use mathlib.Core.List.{List, [], ◌∷◌}
use Prim.Native.Nat.{ℕ, zero, suc, ◌≤◌}
use native.Mathlib.Omega.{arith}
use lib.Dec.{leb}
use borrow.Author.Tests.{leb-true}
use Rattle.spec_plain.specs.Limits.{side}
use Rattle.spec_plain.specs.declared.Job.{Job}
use Rattle.spec_plain.specs.Plain.{State, live_count, sent_up_to, sent_state, clock_ok, clock_state}
use Rattle.part_lines.proofs.JobLaws.{length_marked}
use Rattle.base_lists.proofs.AllBelow.{both_true}
use Rattle.base_lists.specs.All.{All}
use Rattle.part_sound.specs.Sound.{SizedJob}
use Rattle.theorem_demands.proofs.Send.{total_marked}
use Rattle.theorem_demands.proofs.Sent.{first_marked}
use Rattle.theorem_agreement.proofs.Parts.{Limits}

sizes_marked : (H k : ℕ) (js : List Job) → All (SizedJob H) js → All (SizedJob H) (sent_up_to k js)
unfolding sent_up_to
sizes_marked H zero js a = a
sizes_marked H (suc k) [] a = tt
sizes_marked H (suc k) (j ∷ js) a = (record { least = a.0.least; most = a.0.most; due = a.0.due }, sizes_marked H k js a.1)

pub sent_limits : {s : State} (place : ℕ) → Limits s → Limits (sent_state s place)
unfolding sent_state
sent_limits {s} place p =
    let same = total_marked (suc place) s.jobs in
    let few = p.jobs in
    record {
      horizon = p.horizon;
      lead = p.lead;
      clock = p.clock;
      jobs = omega (arith, length_marked (suc place) s.jobs, few);
      sizes = sizes_marked s.settings.horizon (suc place) s.jobs p.sizes;
      points = rw same p.points;
      sixteen = p.sixteen;
      lines = rw same p.lines;
      sent_first = first_marked (suc place) s.jobs p.sent_first;
    }

pub clock_limits : {s : State} (c : ℕ) → clock_ok s c ≡ true → Limits s → Limits (clock_state s c)
unfolding clock_ok clock_state
clock_limits {s} c e p =
    record {
      horizon = p.horizon;
      lead = p.lead;
      clock = leb-true c s.settings.horizon (both_true (leb s.clock c) (leb c s.settings.horizon) e).1;
      jobs = p.jobs;
      sizes = p.sizes;
      points = p.points;
      sixteen = p.sixteen;
      lines = p.lines;
      sent_first = p.sent_first;
    }

pub live_few : {s : State} → Limits s → live_count s ≤ side
unfolding live_count
live_few p = let few = p.points in omega (arith, few)
