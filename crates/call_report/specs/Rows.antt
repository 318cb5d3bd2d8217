-- The report (document 01): "The report fills the caller's list of rows, one per live point but the origin, in number order: job's place,
-- point's place in the job (0 first), earliest, latest. Rows beyond stay unwritten."
--   row_of c p k x      the row of the point numbered x, which is point k of the job at place p, in the table c
--   job_rows, rows_from  the rows of a job's points, and of a list of jobs: p and x are the place and the first point of the list's first job
--   rows_in l js        the rows of the jobs js in the table that the cells l hold;  rows_of b: the rows of a board
--   no_row              a row of zeros: what a place past the rows is said to hold
--   laid rs l          the list l with rs laid over its front: the rows are written in front, and those beyond stay as they were
--   report_ruling b n   the ruling on a report of the board b into a list of n rows
--   reported b l       the answer to a report into the list l: the ruling, and the list after the call
--   ruling_in w n, reported_in w l   the same of the board that the words w hold; 6 where they are not as many as a board has
--   reported_into w n l a report into the first n rows of an array of 64, all of them where n is more: the ruling, and the array after the call
--   asked w n          what a report into a list of n rows comes to, before a row is stored: how many rows are to be stored, or why it is refused
--   granted r n        n where r is accepted, else the cause of the refusal
--   cursor w k         where row k stands in the words w: its job's place, its point's place in the job;  next_cursor w c: where the row after it does
use Rattle.std.specs.Prelude.{ℕ, zero, suc, ◌+◌, min, cond, not, List, [], ◌∷◌, ◌++◌, length, take, drop, ltb, eqb, Result, Ok, Err}
use Rattle.base_rulings.specs.declared.Cause.{Cause}
use Rattle.base_rulings.specs.declared.Ruling.{Ruling}
use Rattle.base_rulings.specs.declared.Ruling.TheVariants.{Accepted, Refused}
use Rattle.base_rulings.specs.Answer.{refuse}
use Rattle.base_rulings.specs.Order.{if_accepted}
use Rattle.spec_plain.specs.Limits.{most_points}
use Rattle.spec_plain.specs.declared.Job.{Job}
use Rattle.part_lines.specs.ArrayLists.{jobs_of}
use Rattle.spec_stn.specs.Table.{Table, earliest, latest}
use Rattle.part_gaps.specs.Cells.{table_of}
use Rattle.part_boardwords.specs.Board.{Board}
use Rattle.part_boardwords.specs.Layout.{board_size}
use Rattle.part_boardwords.specs.Words.{Words, job_at, board_in}
use Rattle.part_sound.specs.Sound.{sound}
use Rattle.call_report.specs.declared.Row.{Row}
use Rattle.call_report.specs.declared.Reported.{Reported}
use Rattle.call_report.specs.declared.Cursor.{Cursor}

-- ---- the rows

-- "job's place, point's place in the job (0 first), earliest, latest"
abbrev pub row_of : Table → ℕ → ℕ → ℕ → Row
row_of c p k x = record { job = p; point = k; earliest = earliest c x; latest = latest c x }

-- n points of the job at place p, from its point k on, which is numbered x
unfoldable pub job_rows : Table → ℕ → ℕ → ℕ → ℕ → List Row
job_rows c p k x zero = []
job_rows c p k x (suc n) = row_of c p k x ∷ job_rows c p (suc k) (suc x) n

unfoldable pub rows_from : Table → ℕ → ℕ → List Job → List Row
rows_from c p x [] = []
rows_from c p x (j ∷ js) = job_rows c p 0 x j.points ++ rows_from c (suc p) (x + j.points) js

-- "one per live point but the origin, in number order": the first job's first point is point 1
unfoldable pub rows_in : List ℕ → List Job → List Row
rows_in l js = rows_from (table_of l) 0 1 js

abbrev pub rows_of : Board → List Row
rows_of b = rows_in b.gaps (jobs_of b.jobs)

abbrev pub no_row : Row
no_row = record { job = 0; point = 0; earliest = 0; latest = 0 }

-- ---- the report

-- "Rows beyond stay unwritten."
unfoldable pub laid : List Row → List Row → List Row
laid [] l = l
laid (r ∷ rs) [] = []
laid (r ∷ rs) (x ∷ l) = r ∷ laid rs l

-- a call's ruling, and the list after it
pub record Report : Type 0 where
  pub ruling : Ruling
  pub rows : List Row

-- 6, "The list is shorter than the rows." (22), or accepted
unfoldable pub report_ruling : Board → ℕ → Ruling
report_ruling b n = cond (not (sound b)) (refuse 6) (cond (ltb n (length (rows_of b))) (refuse 22) Accepted)

unfoldable pub reported : Board → List Row → Report
reported b l = record {
  ruling = report_ruling b (length l);
  rows = if_accepted (report_ruling b (length l)) (laid (rows_of b) l) l;
}

-- ---- of a board that is lent as its words

unfoldable pub ruling_in : List ℕ → ℕ → Ruling
ruling_in w n = cond (eqb (length w) board_size) (report_ruling (board_in w) n) (refuse 6)

unfoldable pub reported_in : List ℕ → List Row → Report
reported_in w l = cond (eqb (length w) board_size) (reported (board_in w) l) (record { ruling = refuse 6; rows = l })

-- the rows past the n first are no part of the list, and stay as they were
unfoldable pub reported_into : List ℕ → ℕ → List Row → Reported
reported_into w n l =
    record { ruling = (reported_in w (take (min n most_points) l)).ruling; rows = (reported_in w (take (min n most_points) l)).rows ++ drop (min n most_points) l }

-- ---- row by row

-- n where accepted, and otherwise the cause of the refusal
abbrev pub granted : Ruling → ℕ → Result ℕ Cause
granted Accepted n = Ok n
granted (Refused c) n = Err c

unfoldable pub asked : List ℕ → ℕ → Result ℕ Cause
asked w n = granted (ruling_in w n) (length (rows_of (board_in w)))

-- the job's next point, or the first of the next job
unfoldable pub next_cursor : Words → Cursor → Cursor
next_cursor w c = cond (ltb (c.point + 1) (job_at w c.place).points)
    (record { place = c.place; point = c.point + 1 }) (record { place = c.place + 1; point = 0 })

unfoldable pub cursor : Words → ℕ → Cursor
cursor w zero = record { place = 0; point = 0 }
cursor w (suc k) = next_cursor w (cursor w k)
