-- The words of a board (docs/FORMATS.md): settings, clock, job count; the jobs; the lines, each its count and its uses; the cells as stored. Those
-- before the cells are the board's frame. specs/Layout says which word is which.
-- Words are a function from a word's number, so that a part of the board is that part of any words.
--   word_in l k         word k of the list l; 0 past its end
--   zeros              words that are all 0
--   down_by_job l k      word k of the list l moved down by a job: the one a job further on;  up_by_use l k: moved up by a use
--   settings_read w     what the board was made with
--   job_read, use_read, line_read w at   the job, use, line whose first word is number `at`
--   job_at, line_at, cell_at w k   job k, line k, cell k;  use_at w at k: use k of the line whose first word is number `at`
--   jobs_read w         all of them;  uses_read, lines_read, cells_read;  held_jobs w: the jobs with their count
--   lines_in l          what the lines of a list of words hold
--   is_marked c k m     of c jobs, job k is past the end or its mark m is 0 or 1;  all_marked w: every job is
--   frame_read w l      the board of the frame of these words, with the gaps l
--   board_read w        the board of these words
--   board_in l          the board of a list of words
--   lent_board l        the board that a call on the words l rules on: words that are not as many as a board has stand for the board of zeros,
--                      which isn't sound
use Rattle.std.specs.Prelude.{ℕ, ◌+◌, ◌-◌, Bool, cond, ◌||◌, List, length, get_or, eqb, leb}
use Rattle.spec_plain.specs.declared.Settings.{Settings}
use Rattle.spec_plain.specs.Limits.{most_jobs, resources, most_uses, cell_count}
use Rattle.spec_plain.specs.declared.Job.{Job}
use Rattle.spec_plain.specs.declared.Use.{Use}
use Rattle.part_lines.specs.declared.Jobs.{Jobs}
use Rattle.part_lines.specs.declared.Line.{Line}
use Rattle.part_lines.specs.ArrayLists.{lines_of}
use Rattle.base_lists.specs.Loops.{build, all_below}
use Rattle.part_boardwords.specs.Board.{Board}
use Rattle.part_boardwords.specs.Layout.{horizon_at, lead_at, clock_at, count_at, batch_in, sent_in, due_in, offset_in, length_in, job_size, use_size}
use Rattle.part_boardwords.specs.Layout.{cells_at, board_size, job_start, mark_at, line_start, use_start}

abbrev pub Words : Type 0
Words = ℕ → ℕ

abbrev pub word_in : List ℕ → Words
word_in l k = get_or l k 0

abbrev pub zeros : Words
zeros k = 0

abbrev pub down_by_job : List ℕ → Words
down_by_job l k = word_in l (k + job_size)

abbrev pub up_by_use : List ℕ → Words
up_by_use l k = word_in l (k - use_size)

abbrev pub settings_read : Words → Settings
settings_read w = record { horizon = w horizon_at; lead = w lead_at }

-- a mark of 1 is sent, 0 unsent; `is_marked` says that it is one of the two
abbrev pub job_read : Words → ℕ → Job
job_read w at = record { points = w at; batch = w (at + batch_in); sent = eqb (w (at + sent_in)) 1; due = w (at + due_in) }

abbrev pub job_at : Words → ℕ → Job
job_at w k = job_read w (job_start k)

abbrev pub jobs_read : Words → List Job
jobs_read w = build (job_at w) most_jobs

abbrev pub held_jobs : Words → Jobs
held_jobs w = record { count = w count_at; jobs = jobs_read w }

abbrev pub use_read : Words → ℕ → Use
use_read w at = record { point = w at; offset = w (at + offset_in); length = w (at + length_in) }

abbrev pub use_at : Words → ℕ → ℕ → Use
use_at w at k = use_read w (use_start at k)

abbrev pub uses_read : Words → ℕ → List Use
uses_read w at = build (use_at w at) most_uses

abbrev pub line_read : Words → ℕ → Line
line_read w at = record { count = w at; uses = uses_read w at }

abbrev pub line_at : Words → ℕ → Line
line_at w k = line_read w (line_start k)

abbrev pub lines_read : Words → List Line
lines_read w = build (line_at w) resources

abbrev pub lines_in : List ℕ → List (List Use)
lines_in l = lines_of (lines_read (word_in l))

abbrev pub cell_at : Words → ℕ → ℕ
cell_at w k = w (cells_at + k)

abbrev pub cells_read : Words → List ℕ
cells_read w = build (cell_at w) cell_count

unfoldable pub is_marked : ℕ → ℕ → ℕ → Bool
is_marked c k m = leb c k || leb m 1

unfoldable pub all_marked : Words → Bool
all_marked w = all_below (λ k. is_marked (w count_at) k (w (mark_at k))) most_jobs

abbrev pub frame_read : Words → List ℕ → Board
frame_read w l =
    record { settings = settings_read w; clock = w clock_at; jobs = held_jobs w; marked = all_marked w; lines = lines_read w; gaps = l }

abbrev pub board_read : Words → Board
board_read w = frame_read w (cells_read w)

abbrev pub board_in : List ℕ → Board
board_in l = board_read (word_in l)

unfoldable pub lent_board : List ℕ → Board
lent_board l = cond (eqb (length l) board_size) (board_in l) (board_read zeros)
