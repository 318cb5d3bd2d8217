-- In time (document 02: "A due time adds one rule: pn is no later. The job record keeps it."): a live job ends no later than its record's due time says.
-- The origin is point 0 and the jobs' points follow in their order: where x points stand between the origin and a job, its last point is x + points.
--   EndsInTime u j y  in the timetable u the job j, whose last point is y, ends no later than its due time, if it has one
--   InTime u x js     each of the jobs js does, where x points stand between the origin and the first of them
--   AllInTime k       each live job of the book k does, in every timetable that is possible by it
use Rattle.std.specs.Prelude.{◌≡◌, List, [], ◌∷◌, ℕ, ◌+◌, pos, ◌≤ℤ◌}
use Rattle.spec_plain.specs.declared.Job.{Job}
use Rattle.spec_plain.specs.Rules.{Times}
use Rattle.spec_rulebook.specs.Book.{Book, Possible}

-- "0 means none"
abbrev pub EndsInTime : Times → Job → ℕ → Type 0
EndsInTime u j y = ¬ (j.due ≡ 0) → u y ≤ℤ pos j.due

abbrev pub InTime : Times → ℕ → List Job → Type 0
InTime u x [] = Unit {0}
InTime u x (j ∷ js) = EndsInTime u j (x + j.points) × InTime u (x + j.points) js

abbrev pub AllInTime : Book → Type 0
AllInTime k = (u : Times) → Possible k u → InTime u 0 k.state.jobs
