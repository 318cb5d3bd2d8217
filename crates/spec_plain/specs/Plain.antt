-- The plain machine (document 01, "Points, rules, timetables"): what plan, send, clock and retire do to jobs, lines and clock, and which
-- rules they make. No table and no timetable: the rule book decides by the definition which of these rules can be kept.
--   Offer            an offer as it was read: batch, due time, steps, allocations
--   State            jobs (oldest first), one line per resource, clock, settings (horizon H, lead D)
--   with_jobs, with_lines, with_clock, with_settings   a state with other jobs, other lines, another clock, other settings
--   new_job n b q, sent_job j   an unsent job of n points, batch b and due time q; the job j, sent
--   total, live_count how many points live beside the origin, and with it. The origin is point 0, the first job's p0 is point 1, and so on
-- What later requests change, each in one place:
--   end_of s u        how long after its point a use ends
--   tray_gap s        how long after a job's last point the tray is free: the distance of rule (e), and what retire waits after the last point
--   upper_bound s     the latest time of a new point;  job_batch j: the batch of a job
-- Rules:
--   not_before x p    the rule: point x is at p or later;  not_after x q: at q or earlier
--   over_by x d c     the rule: point x plus d is at c or earlier
--   in_order s a b    the rule: use a ends no later than use b starts
-- Plan:
--   bounds           the rules (a), which the rule book puts before the others
--   durations        the rules (c): how long each step lasts
--   used_from, no_use  the use of an allocation; what a line has past its end
--   inserted p u l   the line l with the use u put in after p others: (d)
--   rule_before, rule_after   (d): the rule with the use just before the new one, and with the one just after
--   placed           the allocations placed one after the other: 15, 16, or the new lines and the rules made (Placed)
--   batch_rules       the rule (e), if there is one: by after_newest, with the newest job of the batch;  or_else: a list, or another where it is empty
--   due_rules         the rule of the due time, if there is one
--   full s n         14: 16 jobs, or more than 64 points with n new ones
--   new_points, last_point, job_from   the number of points that an offer brings, the number of its last one, and its job
--   drafted s o      plan, before timetables are looked at: 14, 15, 16, or the state to be and the rules (b) to (e) and of the due time (Draft);
--                    joining: once placed
-- Send:
--   unsent_at k js    not 18: the job at place k is there and unsent
--   unsent_points     the points to be set, those of the unsent jobs;  range x n: the n points from x on
--   sent_up_to n js, sent_state  the first n jobs sent; the state to be
--   freeze v xs      the rules that set each of the points xs to its value
-- Clock:
--   clock_ok          not 19: the clock does not go back, and does not pass H
--   clock_state, starts   the state to be; the rules that each unsent job starts late enough
-- Retire:
--   goes, new_number  whether a point is one of those that leave; the new number of one that stays
--   staying          a line without the uses of the points that leave
--   without f m js s the state s with the jobs js, and the lines without the uses of the m points from f on
--   ends_by, all_end_by the rules that the uses of those points end by the clock: of one line, of all lines
--   leaving s        no job or an unsent one, or the rules that all is over by the clock, and the state to be (Leaving);  leaving_from: by the jobs
use Rattle.std.specs.Prelude.{ℕ, zero, suc, ◌+◌, ◌-◌, Bool, true, false, cond, not, ◌&&◌, ◌||◌, List, [], ◌∷◌, ◌++◌, map, leb, ltb, eqb, length, get_or, take, drop, set}
use Rattle.base_rulings.specs.declared.Cause.{Cause}
use Rattle.base_rulings.specs.Answer.{cause, plain}
use Rattle.spec_plain.specs.Limits.{most_jobs, most_points, most_uses}
use Rattle.spec_plain.specs.declared.Settings.{Settings}
use Rattle.spec_plain.specs.declared.Job.{Job}
use Rattle.spec_plain.specs.declared.Use.{Use}
use Rattle.spec_plain.specs.declared.Rule.{Rule}
use Rattle.spec_plain.specs.declared.Step.{Step}
use Rattle.spec_plain.specs.declared.Allocation.{Allocation}

-- an offer as it was read: its batch, its due time (0 is none), its steps, and its allocations "in offer order"
pub record Offer : Type 0 where
  pub batch : ℕ
  pub due : ℕ
  pub steps : List Step
  pub allocations : List Allocation

pub record State : Type 0 where
  pub jobs : List Job
  pub lines : List (List Use)
  pub clock : ℕ
  pub settings : Settings

-- a state that differs in one field; no other definition names all fields
abbrev pub with_jobs : State → List Job → State
with_jobs s js = record { jobs = js; lines = s.lines; clock = s.clock; settings = s.settings }

abbrev pub with_lines : State → List (List Use) → State
with_lines s ls = record { jobs = s.jobs; lines = ls; clock = s.clock; settings = s.settings }

abbrev pub with_clock : State → ℕ → State
with_clock s c = record { jobs = s.jobs; lines = s.lines; clock = c; settings = s.settings }

abbrev pub with_settings : State → Settings → State
with_settings s g = record { jobs = s.jobs; lines = s.lines; clock = s.clock; settings = g }

-- no other definition names all fields of a job
abbrev pub new_job : ℕ → ℕ → ℕ → Job
new_job n b q = record { points = n; batch = b; sent = false; due = q }

abbrev pub sent_job : Job → Job
sent_job j = record { points = j.points; batch = j.batch; sent = true; due = j.due }

unfoldable pub total : List Job → ℕ
total [] = 0
total (j ∷ js) = j.points + total js

unfoldable pub live_count : State → ℕ
live_count s = suc (total s.jobs)

-- ---- what later requests change, each in one place

-- how long after its point a use ends: "An allocation starts at its step's start plus its offset, and ends its length later."
abbrev pub end_of : Settings → Use → ℕ
end_of s u = u.offset + u.length

-- how long after a job's last point the tray is free: no time at all. Rule (e): a job's last point is at least so much later than that of the
-- job before it in its batch. Retire: the job's last point is so much before the clock, at least
abbrev pub tray_gap : Settings → ℕ
tray_gap s = 0

-- the batch of a job
abbrev pub job_batch : Job → ℕ
job_batch j = j.batch

-- the latest time of a new point: rule (a)
abbrev pub upper_bound : Settings → ℕ
upper_bound s = s.horizon

-- ---- rules

unfoldable pub not_before : ℕ → ℕ → Rule
not_before x p = record { early = 0; more = p; late = x; slack = 0 }

unfoldable pub not_after : ℕ → ℕ → Rule
not_after x q = record { early = x; more = 0; late = 0; slack = q }

unfoldable pub over_by : ℕ → ℕ → ℕ → Rule
over_by x d c = record { early = x; more = d; late = 0; slack = c }

-- "Its end may equal the next one's start."
unfoldable pub in_order : Settings → Use → Use → Rule
in_order s a b = record { early = a.point; more = end_of s a; late = b.point; slack = b.offset }

-- ---- plan

-- (a) "each new point is from 0 to H": the n points from x on
unfoldable pub bounds : ℕ → ℕ → ℕ → List Rule
bounds H x zero = []
bounds H x (suc n) = not_before x 0 ∷ not_after x H ∷ bounds H (suc x) n

-- (c) "p(k+1) − pk lies between the step's shortest and longest duration": the first step runs from x
unfoldable pub durations : ℕ → List Step → List Rule
durations x [] = []
durations x (s ∷ ss) =
    record { early = x; more = s.shortest; late = suc x; slack = 0 }
    ∷ record { early = suc x; more = 0; late = x; slack = s.longest }
    ∷ durations (suc x) ss

-- (d) "each allocation, in offer order, is put into its resource's line after the number of allocations given as its place"
unfoldable pub inserted : ℕ → Use → List Use → List Use
inserted p u line = take p line ++ (u ∷ drop p line)

-- what a line has past its end; no rule is made with it
abbrev pub no_use : Use
no_use = record { point = 0; offset = 0; length = 0 }

-- "and the one just before must end no later than it starts"
unfoldable pub rule_before : Settings → List Use → ℕ → Use → List Rule
rule_before s line zero u = []
rule_before s line (suc p) u = in_order s (get_or line p no_use) u ∷ []

-- "and it no later than the one just after starts"
unfoldable pub rule_after : Settings → List Use → ℕ → Use → List Rule
rule_after s line p u = cond (ltb p (length line)) (in_order s u (get_or line p no_use) ∷ []) []

-- the use of an allocation, where p0 of its job is point x
unfoldable pub used_from : ℕ → Allocation → Use
used_from x p = record { point = x + p.step; offset = p.offset; length = p.length }

-- what placing comes to: refusal 15 or 16, or the new lines and the rules made
pub data Placed : Type 0 where
  stop : Cause → Placed
  done : List (List Use) → List Rule → Placed

-- 15 "A place exceeds the number in its line at that moment." 16 "The line has 32 already; 15 and 16 are tested allocation by allocation."
-- The allocations left to place, of which the first is number i in the offer; the lines as they are at that moment; the rules so far
unfoldable pub placed : Settings → ℕ → ℕ → List Allocation → List (List Use) → List Rule → Placed
placed s x i [] ls rs = done ls rs
placed s x i (p ∷ ps) ls rs =
    let line : List Use = get_or ls p.resource [] in
    let u : Use = used_from x p in
    cond (ltb (length line) p.place) (stop (cause 15 i))
    (cond (leb most_uses (length line)) (stop (cause 16 i))
    (placed s x (suc i) ps (set ls p.resource (inserted p.place u line))
    (rs ++ (rule_before s line p.place u ++ rule_after s line p.place u))))

-- the first list, or the second where the first is empty
unfoldable pub or_else : List Rule → List Rule → List Rule
or_else [] rs = rs
or_else (r ∷ rs) others = r ∷ rs

-- (e) "if the batch isn't 0 and a live job has it, pn is no earlier than the last point of the newest such job". The jobs are listed oldest
-- first, so a later job's rule comes first. d is the distance, b the batch, last the number of pn, x the first point of the list's first job
unfoldable pub after_newest : ℕ → ℕ → ℕ → ℕ → List Job → List Rule
after_newest d b last x [] = []
after_newest d b last x (j ∷ js) =
    or_else (after_newest d b last (x + j.points) js)
    (cond (eqb (job_batch j) b) (record { early = x + j.points - 1; more = d; late = last; slack = 0 } ∷ []) [])

unfoldable pub batch_rules : ℕ → ℕ → ℕ → List Job → List Rule
batch_rules d b last js = cond (eqb b 0) [] (after_newest d b last 1 js)

-- document 02, Note 2: "A due time adds one rule: pn is no later", and "0 means none". q is the due time, last the number of pn
unfoldable pub due_rules : ℕ → ℕ → List Rule
due_rules q last = cond (eqb q 0) [] (not_after last q ∷ [])

-- what an offer comes to before timetables are looked at: a refusal, or the state to be, the number of new points, and the rules (b) to (e) and
-- of the due time
pub data Draft : Type 0 where
  stop : Cause → Draft
  go : State → ℕ → List Rule → Draft

-- 14 "There are 16 jobs, or the points would pass 64."
unfoldable pub full : State → ℕ → Bool
full s n = leb most_jobs (length s.jobs) || ltb most_points (total s.jobs + n)

abbrev pub new_points : Offer → ℕ
new_points o = suc (length o.steps)

-- the number of pn, where p0 is point `live_count s`
abbrev pub last_point : State → Offer → ℕ
last_point s o = live_count s + length o.steps

abbrev pub job_from : Offer → Job
job_from o = new_job (new_points o) o.batch o.due

unfoldable pub joining : State → Offer → Placed → Draft
joining s o (stop c) = stop c
joining s o (done ls rs) =
    go
    (with_lines (with_jobs s (s.jobs ++ (job_from o ∷ []))) ls)
    (new_points o)
    (not_before (live_count s) (s.clock + s.settings.lead)
    ∷ durations (live_count s) o.steps ++ rs
    ++ (batch_rules (tray_gap s.settings) (job_batch (job_from o)) (last_point s o) s.jobs ++ due_rules o.due (last_point s o)))

unfoldable pub drafted : State → Offer → Draft
drafted s o = cond (full s (new_points o)) (stop (plain 14)) (joining s o (placed s.settings (live_count s) 0 o.allocations s.lines []))

-- ---- send: "every point of the unsent jobs up to there is set equal to its least value over all possible timetables"

-- the job at this place is there and unsent; else 18
unfoldable pub unsent_at : ℕ → List Job → Bool
unsent_at k [] = false
unsent_at zero (j ∷ js) = not j.sent
unsent_at (suc k) (j ∷ js) = unsent_at k js

-- the n points from x on
unfoldable pub range : ℕ → ℕ → List ℕ
range x zero = []
range x (suc n) = x ∷ range (suc x) n

-- the points of the unsent ones among the first n jobs; x is the first point of the list's first job
unfoldable pub unsent_points : ℕ → ℕ → List Job → List ℕ
unsent_points x zero js = []
unsent_points x (suc n) [] = []
unsent_points x (suc n) (j ∷ js) = cond j.sent [] (range x j.points) ++ unsent_points (x + j.points) n js

-- the first n jobs are sent
unfoldable pub sent_up_to : ℕ → List Job → List Job
sent_up_to zero js = js
sent_up_to (suc n) [] = []
sent_up_to (suc n) (j ∷ js) = sent_job j ∷ sent_up_to n js

unfoldable pub sent_state : State → ℕ → State
sent_state s k = with_jobs s (sent_up_to (suc k) s.jobs)

-- each of these points is set equal to its value
unfoldable pub freeze : (ℕ → ℕ) → List ℕ → List Rule
freeze v [] = []
freeze v (x ∷ xs) = not_before x (v x) ∷ not_after x (v x) ∷ freeze v xs

-- ---- clock: "c becomes the clock, and p0 of each unsent job is at least c + D"

-- not 19: "The clock would go back or pass H."
unfoldable pub clock_ok : State → ℕ → Bool
clock_ok s c = leb s.clock c && leb c s.settings.horizon

unfoldable pub clock_state : State → ℕ → State
clock_state s c = with_clock s c

-- p0 of each unsent job is at p or later; x is the first point of the list's first job
unfoldable pub starts : ℕ → ℕ → List Job → List Rule
starts p x [] = []
starts p x (j ∷ js) = cond j.sent [] (not_before x p ∷ []) ++ starts p (x + j.points) js

-- ---- retire: "the oldest job leaves the list and the lines; later points are renumbered down"

-- the m points from f on leave: point x is one of them
unfoldable pub goes : ℕ → ℕ → ℕ → Bool
goes f m x = leb f x && ltb x (f + m)

-- the new number of a point that stays
unfoldable pub new_number : ℕ → ℕ → ℕ → ℕ
new_number f m x = cond (ltb x f) x (x - m)

-- a line without the uses of those points
unfoldable pub staying : ℕ → ℕ → List Use → List Use
staying f m [] = []
staying f m (u ∷ us) =
    cond (goes f m u.point) [] (record { point = new_number f m u.point; offset = u.offset; length = u.length } ∷ []) ++ staying f m us

-- the jobs that stay are js
unfoldable pub without : ℕ → ℕ → List Job → State → State
without f m js s = with_lines (with_jobs s js) (map (staying f m) s.lines)

-- the rules that the uses of those points end by c
unfoldable pub ends_by : Settings → ℕ → ℕ → ℕ → List Use → List Rule
ends_by s c f m [] = []
ends_by s c f m (u ∷ us) = cond (goes f m u.point) (over_by u.point (end_of s u) c ∷ []) [] ++ ends_by s c f m us

unfoldable pub all_end_by : Settings → ℕ → ℕ → ℕ → List (List Use) → List Rule
all_end_by s c f m [] = []
all_end_by s c f m (l ∷ ls) = ends_by s c f m l ++ all_end_by s c f m ls

-- "There is no job to retire, or the oldest is unsent": stop. Else the number of its points, the rules that its last point, with the tray
-- gap, and its uses end by the clock, and the state to be
pub data Leaving : Type 0 where
  stop : Leaving
  go : ℕ → List Rule → State → Leaving

unfoldable pub leaving_from : State → List Job → Leaving
leaving_from s [] = stop
leaving_from s (j ∷ js) =
    cond j.sent
    (go j.points
    (over_by j.points (tray_gap s.settings) s.clock ∷ all_end_by s.settings s.clock 1 j.points s.lines)
    (without 1 j.points js s))
    stop

unfoldable pub leaving : State → Leaving
leaving s = leaving_from s s.jobs
