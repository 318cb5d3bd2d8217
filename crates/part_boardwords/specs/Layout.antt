-- Where the words of a board stand (docs/FORMATS.md): the one place that says it. src/layout.rt has the same numbers for the code, and a contract
-- that names one of these of code that uses another is not proved. All are abbreviations: a check sees numerals, and no proof names one.
-- A word more in the head: a line `..At` behind its neighbour, and the next one counts from it. A word more in a job or a use: the same with `..In`.
--   horizon_at, lead_at, clock_at, count_at   the words of the head;  head_size: how many they are
--   batch_in, sent_in, due_in batch, mark and due time of a job, counted from its first word, the points;  job_size: how many a job has
--   offset_in, length_in     offset and length of a use, counted from its first word, the point;  use_size: how many a use has
--   uses_in                 the uses of a line, counted from its first word, the count;  uses_size, line_size: how many all its uses, and a line, have
--   jobs_at, lines_at, cells_at   the first word of the jobs, of the lines, of the cells;  jobs_size, lines_size: how many the first two have
--   board_size, board_bytes  the words of a board, and its bytes
--   job_start k, mark_at k, line_start k   the first word of job k, its mark, the first word of line k
--   use_start at k          the first word of use k of the line that begins at word `at`;  line_end at: the word behind that line
-- Other crates name a place by these, and add no sizes; their laws compute with them.
use Rattle.std.specs.Prelude.{ℕ, ◌+◌, ◌*◌}
use Rattle.spec_plain.specs.Limits.{most_jobs, resources, most_uses, cell_count}

abbrev pub horizon_at : ℕ
horizon_at = 0

abbrev pub lead_at : ℕ
lead_at = horizon_at + 1

abbrev pub clock_at : ℕ
clock_at = lead_at + 1

abbrev pub count_at : ℕ
count_at = clock_at + 1

abbrev pub head_size : ℕ
head_size = count_at + 1

abbrev pub batch_in : ℕ
batch_in = 1

abbrev pub sent_in : ℕ
sent_in = batch_in + 1

abbrev pub due_in : ℕ
due_in = sent_in + 1

abbrev pub job_size : ℕ
job_size = due_in + 1

abbrev pub offset_in : ℕ
offset_in = 1

abbrev pub length_in : ℕ
length_in = offset_in + 1

abbrev pub use_size : ℕ
use_size = length_in + 1

abbrev pub uses_in : ℕ
uses_in = 1

abbrev pub uses_size : ℕ
uses_size = use_size * most_uses

abbrev pub line_size : ℕ
line_size = uses_in + uses_size

abbrev pub jobs_size : ℕ
jobs_size = job_size * most_jobs

abbrev pub lines_size : ℕ
lines_size = line_size * resources

abbrev pub jobs_at : ℕ
jobs_at = head_size

abbrev pub lines_at : ℕ
lines_at = jobs_at + jobs_size

abbrev pub cells_at : ℕ
cells_at = lines_at + lines_size

abbrev pub board_size : ℕ
board_size = cells_at + cell_count

abbrev pub board_bytes : ℕ
board_bytes = 4 * board_size

abbrev pub job_start : ℕ → ℕ
job_start k = jobs_at + job_size * k

abbrev pub mark_at : ℕ → ℕ
mark_at k = job_start k + sent_in

abbrev pub line_start : ℕ → ℕ
line_start k = lines_at + line_size * k

abbrev pub line_end : ℕ → ℕ
line_end at = at + line_size

abbrev pub use_start : ℕ → ℕ → ℕ
use_start at k = at + uses_in + use_size * k
