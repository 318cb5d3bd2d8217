-- "A board is sound when its numbers are within these limits, .." (document 01): the definition, clause by clause, and the test.
-- Places not in use, jobs and uses past their counts, are what document 01 leaves open in a board: no clause looks at them.
--   SizedJob, SizedUse   a job's and a use's numbers are within the limits
--   SentFirst js         sent jobs come before unsent ones
--   StillSent l x js     each point of a sent job has its earliest equal to its latest; x is the first point of the list's first job
--   points_of b           the live points beside the origin
--   Sound b              the definition
--   sound b              the test; proofs/Soundness says that it is true exactly when Sound b holds. It is made of
--     sized_settings s    horizon and lead are within the limits: what fresh asks of them too
--     sized_numbers, sized_jobs, sized_line   the numbers are within the limits: of the board, of its jobs (sized_job: of one), of a line
--                        (sized_use: of a use);  all_of f l: the test f holds of each
--     sent_from           sent jobs come first
--     still_sent          each point of a sent job stands still;  still_job: of one job;  stand_still: the m points from x on do
--     clauses_kept        all clauses but that on marks
use Rattle.std.specs.Prelude.{ℕ, suc, ◌+◌, ◌≤◌, ◌<◌, ◌≡◌, Bool, true, not, ◌&&◌, ◌||◌, List, [], ◌∷◌, get_or, leb, eqb}
use Rattle.spec_plain.specs.Limits.{most_jobs, most_points, resources, most_uses}
use Rattle.spec_plain.specs.declared.Settings.{Settings}
use Rattle.spec_plain.specs.declared.Job.{Job}
use Rattle.part_lines.specs.declared.Jobs.{Jobs}
use Rattle.spec_plain.specs.declared.Use.{Use}
use Rattle.part_lines.specs.declared.Line.{Line}
use Rattle.spec_plain.specs.Plain.{total}
pub use Rattle.spec_plain.specs.Sent.{NoneSent, SentFirst}
use Rattle.part_lines.specs.ArrayLists.{jobs_of, line_of, no_line}
use Rattle.base_lists.specs.All.{All}
use Rattle.base_lists.specs.Loops.{all_below}
use Rattle.spec_stn.specs.Table.{bias, Still}
use Rattle.part_gaps.specs.Cells.{cell, table_of}
use Rattle.part_gaps.specs.GapTable.{GapTable}
use Rattle.part_gaptest.specs.Test.{is_gap_table}
use Rattle.part_boardwords.specs.Board.{Board}

-- ---- the definition

-- "A job of n steps (1 to 8) brings points p0..pn"; "A sound board keeps to the limits of this and each later note too": a due time is not past the
-- horizon H, and 0 where there is none
pub record SizedJob (H : ℕ) (j : Job) : Type 0 where
  pub least : 2 ≤ j.points
  pub most : j.points ≤ 9
  pub due : j.due ≤ H

-- "offset (0 to 1,000,000), length (1 to 1,000,000)"; "its lines name only live points (not the origin)"
pub record SizedUse (points : ℕ) (u : Use) : Type 0 where
  pub not_origin : 1 ≤ u.point
  pub live : u.point ≤ points
  pub offset : u.offset ≤ 1000000
  pub some : 1 ≤ u.length
  pub length : u.length ≤ 1000000

abbrev pub StillSent : List ℕ → ℕ → List Job → Type 0
StillSent l x [] = Unit {0}
StillSent l x (j ∷ js) =
    (j.sent ≡ true → (i : ℕ) → x ≤ i → i < x + j.points → Still (table_of l) i) × StillSent l (x + j.points) js

-- the live points beside the origin are the jobs' points together
abbrev pub points_of : Board → ℕ
points_of b = total (jobs_of b.jobs)

pub record Sound (b : Board) : Type 0 where
  -- each job is sent or unsent: no word says anything else
  pub marked : b.marked ≡ true
  pub horizon : (1 ≤ b.settings.horizon) × (b.settings.horizon ≤ 100000000)
  pub lead : b.settings.lead ≤ 1000000
  -- "its clock is at most H"
  pub clock : b.clock ≤ b.settings.horizon
  -- "At most 16 jobs and, beside the origin, 64 points are live."
  pub jobs : b.jobs.count ≤ most_jobs
  pub sizes : All (SizedJob b.settings.horizon) (jobs_of b.jobs)
  pub points : points_of b ≤ most_points
  -- "A line holds at most 32."
  pub lines : (k : ℕ) → k < resources → (get_or b.lines k no_line).count ≤ most_uses
  pub uses : (k : ℕ) → k < resources → All (SizedUse (points_of b)) (line_of (get_or b.lines k no_line))
  -- "sent jobs come before unsent ones and have earliest equal to latest at each point"
  pub sent_first : SentFirst (jobs_of b.jobs)
  pub sent_still : StillSent b.gaps 1 (jobs_of b.jobs)
  -- "the table's diagonal is 0, cells without a live point are 0, no entry exceeds the sum by way of a third point, and each point lies from
  -- 0 to H"
  pub table : GapTable b.gaps (suc (points_of b)) b.settings.horizon

-- ---- the test

abbrev pub all_of : {A : Type 0} → (A → Bool) → List A → Bool
all_of f [] = true
all_of f (a ∷ l) = f a && all_of f l

-- "a horizon H (1 to 100,000,000), a lead D (0 to 1,000,000)"
abbrev pub sized_settings : Settings → Bool
sized_settings s = leb 1 s.horizon && leb s.horizon 100000000 && leb s.lead 1000000

-- horizon, lead and clock
abbrev pub sized_numbers : Settings → ℕ → Bool
sized_numbers s c = sized_settings s && leb c s.horizon

abbrev pub sized_job : ℕ → Job → Bool
sized_job H j = leb 2 j.points && leb j.points 9 && leb j.due H

unfoldable pub sized_jobs : ℕ → Jobs → Bool
sized_jobs H jobs = leb jobs.count most_jobs && (all_of (sized_job H) (jobs_of jobs) && leb (total (jobs_of jobs)) most_points)

abbrev pub sized_use : ℕ → Use → Bool
sized_use n u = leb 1 u.point && leb u.point n && leb u.offset 1000000 && leb 1 u.length && leb u.length 1000000

unfoldable pub sized_line : ℕ → Line → Bool
sized_line n l = leb l.count most_uses && all_of (sized_use n) (line_of l)

-- sent jobs come first in the rest of a list, where `all` says whether every job before it was sent
unfoldable pub sent_from : Bool → List Job → Bool
sent_from all [] = true
sent_from all (j ∷ js) = (all || not j.sent) && sent_from (all && j.sent) js

-- the m points from x on stand still
unfoldable pub stand_still : List ℕ → ℕ → ℕ → Bool
stand_still l x m = all_below (λ k. eqb (cell l 0 (x + k) + cell l (x + k) 0) (bias + bias)) m

-- the m points of a job, from x on, stand still if it was sent
abbrev pub still_job : List ℕ → ℕ → Job → Bool
still_job l x j = not j.sent || stand_still l x j.points

unfoldable pub still_sent : List ℕ → ℕ → List Job → Bool
still_sent l x [] = true
still_sent l x (j ∷ js) = still_job l x j && still_sent l (x + j.points) js

-- all clauses but that on marks; each is looked at only where those before it hold: they keep its numbers small
unfoldable pub clauses_kept : Board → Bool
clauses_kept b =
    sized_numbers b.settings b.clock
    && (sized_jobs b.settings.horizon b.jobs
    && (all_of (sized_line (points_of b)) b.lines
    && (sent_from true (jobs_of b.jobs)
    && (is_gap_table b.gaps (suc (points_of b)) b.settings.horizon && still_sent b.gaps 1 (jobs_of b.jobs)))))

unfoldable pub sound : Board → Bool
sound b = b.marked && clauses_kept b
