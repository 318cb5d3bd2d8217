-- Soundness, of a state and a list of cells: what document 01 asks of a board, said of what it holds. Laws of calls are over these parts.
--   SizedLine n us     a line of at most 32 uses, each of the first n points beside the origin
--   Limits s           the state's numbers, jobs and lines are within the limits, and sent jobs come before unsent ones
--   Parts s l          the state s and the cells l are those of a sound board
--   parts_of           a sound board's are;  jobs_count: it holds as many jobs as it counts
--   state_back         a state of at most 16 jobs and at most 32 uses in each line (Few) is held by the board made of it
--   parts_state        so the board made of sound parts holds them;  parts_sound, parts_shaped: it is sound, and its arrays have their lengths
use mathlib.Core.Path.{◌≡◌, refl, ap₂, ◌∙◌}
use mathlib.Core.Bool.{Bool, true, false}
use mathlib.Core.List.{List, [], ◌∷◌}
use Prim.Native.Nat.{ℕ, zero, suc, ◌+◌, ◌≤◌, ◌<◌}
use native.Mathlib.Omega.{arith}
use lib.Dec.{T}
use lib.ListN.{length, get_or, length-take, length-map}
use lib.Seq.{length-take-le}
use Rattle.spec_plain.specs.Limits.{most_jobs, most_points, resources, cell_count, most_uses}
use Rattle.spec_plain.specs.declared.Job.{Job}
use Rattle.spec_plain.specs.declared.Use.{Use}
use Rattle.spec_plain.specs.Sent.{SentFirst}
use Rattle.spec_plain.specs.Plain.{State, with_jobs, with_lines, total, live_count}
use Rattle.part_lines.specs.declared.Line.{Line}
use Rattle.part_lines.specs.ArrayLists.{no_job, jobs_of, line_of, line_from, lines_of, lines_from, no_line}
use Rattle.part_lines.proofs.Padded.{length_padded}
use Rattle.part_lines.proofs.JobLaws.{jobs_back}
use Rattle.part_lines.proofs.LineLaws.{line_back}
use Rattle.part_gaps.specs.Cells.{table_of}
use Rattle.part_gaps.proofs.GapTable.{GoodCells, cells_of, table_of_lem}
use Rattle.part_boardwords.specs.Board.{Board}
use Rattle.base_lists.specs.All.{All}
use Rattle.part_sound.specs.Sound.{SizedJob, SizedUse, StillSent, Sound}
use Rattle.call_board.specs.Boards.{state_of, board_of}
use Rattle.theorem_demands.specs.Beside.{Each, StillJobs}
use Rattle.theorem_agreement.specs.Abstract.{Shaped}

pub record SizedLine (n : ℕ) (us : List Use) : Type 0 where
  pub few : length us ≤ most_uses
  pub uses : All (SizedUse n) us

pub record Limits (s : State) : Type 0 where
  pub horizon : (1 ≤ s.settings.horizon) × (s.settings.horizon ≤ 100000000)
  pub lead : s.settings.lead ≤ 1000000
  pub clock : s.clock ≤ s.settings.horizon
  pub jobs : length s.jobs ≤ most_jobs
  pub sizes : All (SizedJob s.settings.horizon) s.jobs
  pub points : total s.jobs ≤ most_points
  pub sixteen : length s.lines ≡ resources
  pub lines : All (SizedLine (total s.jobs)) s.lines
  pub sent_first : SentFirst s.jobs

pub record Parts (s : State) (l : List ℕ) : Type 0 where
  pub limits : Limits s
  pub cells : length l ≡ cell_count
  pub table : GoodCells l (live_count s) s.settings.horizon
  pub still : StillJobs (table_of l) 1 s.jobs

-- ---- sent jobs, as soundness and as the abstract board say it

T_is : (b : Bool) → T b → b ≡ true
T_is true t = refl
T_is false t = absurd t

still_to : (l : List ℕ) (x : ℕ) (js : List Job) → StillSent l x js → StillJobs (table_of l) x js
unfolding Each
still_to l x [] a = tt
still_to l x (j ∷ js) a = ((λ i lo hi sent. a.0 (T_is j.sent sent) i lo hi), still_to l (x + j.points) js a.1)

still_of : (l : List ℕ) (x : ℕ) (js : List Job) → StillJobs (table_of l) x js → StillSent l x js
unfolding Each
still_of l x [] a = tt
still_of l x (j ∷ js) a = ((λ e i lo hi. a.0 i lo hi (rw e tt)), still_of l (x + j.points) js a.1)

-- ---- from a board

lines_sized :
    (n : ℕ) (ls : List Line) → ((k : ℕ) → k < length ls → (get_or ls k no_line).count ≤ most_uses)
    → ((k : ℕ) → k < length ls → All (SizedUse n) (line_of (get_or ls k no_line))) → All (SizedLine n) (lines_of ls)
lines_sized n [] few uses = tt
lines_sized n (q ∷ ls) few uses = (
  record { few = omega (arith, length-take q.count q.uses, few zero (omega arith)); uses = uses zero (omega arith) },
  lines_sized n ls (λ k h. few (suc k) (omega arith)) (λ k h. uses (suc k) (omega arith)),
)

pub parts_of : (b : Board) → Shaped b → Sound b → Parts (state_of b) b.gaps
unfolding live_count
parts_of b w s =
    let sixteen = w.lines in
    record {
      limits =
          record {
            horizon = s.horizon;
            lead = s.lead;
            clock = s.clock;
            jobs = omega (arith, length-take b.jobs.count b.jobs.jobs, s.jobs);
            sizes = s.sizes;
            points = s.points;
            sixteen = length-map b.lines line_of ∙ sixteen;
            lines = lines_sized (total (jobs_of b.jobs)) b.lines (λ k h. s.lines k (omega arith)) (λ k h. s.uses k (omega arith));
            sent_first = s.sent_first;
          };
      cells = w.gaps;
      table = cells_of b.gaps (live_count (state_of b)) b.settings.horizon (omega arith) s.horizon.1 s.table;
      still = still_to b.gaps 1 (jobs_of b.jobs) s.sent_still;
    }

pub jobs_count : (b : Board) → Shaped b → Sound b → length (state_of b).jobs ≡ b.jobs.count
jobs_count b w s =
    let few = s.jobs in
    let size = w.jobs in
    length-take-le b.jobs.count b.jobs.jobs (omega (arith, few, size))

-- ---- to a board

abbrev pub Few : List (List Use) → Type 0
Few ls = All (λ us. length us ≤ most_uses) ls

sized_few : (n : ℕ) (ls : List (List Use)) → All (SizedLine n) ls → Few ls
sized_few n [] a = tt
sized_few n (us ∷ ls) a = (a.0.few, sized_few n ls a.1)

lines_back : (ls : List (List Use)) → Few ls → lines_of (lines_from ls) ≡ ls
lines_back [] a = refl
lines_back (us ∷ ls) a = ap₂ ◌∷◌ (line_back us a.0) (lines_back ls a.1)

pub state_back : (s : State) (l : List ℕ) → length s.jobs ≤ most_jobs → Few s.lines → state_of (board_of s l) ≡ s
state_back s l few lines =
    ap₂ (λ (js : List Job) (ls : List (List Use)). with_lines (with_jobs s js) ls)
    (jobs_back s.jobs few) (lines_back s.lines lines)

line_at :
    (n : ℕ) (ls : List (List Use)) → All (SizedLine n) ls → (k : ℕ)
    → ((get_or (lines_from ls) k no_line).count ≤ most_uses) × All (SizedUse n) (line_of (get_or (lines_from ls) k no_line))
line_at n [] a k = (omega arith, tt)
line_at n (us ∷ ls) a zero = (a.0.few, rw (line_back us a.0.few) a.0.uses)
line_at n (us ∷ ls) a (suc k) = line_at n ls a.1 k

module _ {s : State} {l : List ℕ} (p : Parts s l) where
  pub parts_state : state_of (board_of s l) ≡ s
  parts_state = state_back s l p.limits.jobs (sized_few (total s.jobs) s.lines p.limits.lines)

  pub parts_shaped : Shaped (board_of s l)
  parts_shaped =
      record {
        jobs = length_padded most_jobs no_job s.jobs;
        lines = length-map s.lines line_from ∙ p.limits.sixteen;
        gaps = p.cells;
      }

  pub parts_sound : Sound (board_of s l)
  unfolding live_count
  parts_sound =
      let q = p.limits in
      let back = jobs_back s.jobs q.jobs in
      record {
        marked = refl;
        horizon = q.horizon;
        lead = q.lead;
        clock = q.clock;
        jobs = q.jobs;
        sizes = rw back q.sizes;
        points = rw back q.points;
        lines = λ k h. (line_at (total s.jobs) s.lines q.lines k).0;
        uses = λ k h. rw back (line_at (total s.jobs) s.lines q.lines k).1;
        sent_first = rw back q.sent_first;
        sent_still = rw back (still_of l 1 s.jobs p.still);
        table = rw back (table_of_lem l (live_count s) s.settings.horizon p.table);
      }
