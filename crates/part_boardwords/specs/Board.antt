-- A board (document 01): settings and clock, the jobs under way, the lines of their uses, and the gap table. The code has it as words (specs/Words).
--   Board            jobs and lines are arrays with their counts, as the words have them; `gaps` are the table's cells in row order, each its gap plus
--                    the bias
--   marked           each job in use is marked as sent or as unsent
--   board_with b c jobs lines gaps   the board b with another clock, other jobs, lines and gaps: what a call changes
--   state_of b        the plain machine's state that a board holds: jobs, lines, clock and settings
--   board_of s l      the board that holds the state s and the cells l, with 0 in every place not in use
--   Arrays b         the board's arrays have their lengths, as those of every board of words do
use Rattle.std.specs.Prelude.{ℕ, ◌<◌, ◌≡◌, Bool, true, List, length, get_or}
use Rattle.spec_plain.specs.Limits.{most_jobs, resources, most_uses, cell_count}
use Rattle.spec_plain.specs.declared.Settings.{Settings}
use Rattle.spec_plain.specs.Plain.{State}
use Rattle.part_lines.specs.declared.Jobs.{Jobs}
use Rattle.part_lines.specs.declared.Line.{Line}
use Rattle.part_lines.specs.ArrayLists.{jobs_of, jobs_from, lines_of, lines_from, no_line}

pub record Board : Type 0 where
  pub settings : Settings
  pub clock : ℕ
  pub jobs : Jobs
  pub marked : Bool
  pub lines : List Line
  pub gaps : List ℕ

abbrev pub board_with : Board → ℕ → Jobs → List Line → List ℕ → Board
board_with b c js ls gs = record { settings = b.settings; clock = c; jobs = js; marked = true; lines = ls; gaps = gs }

abbrev pub state_of : Board → State
state_of b = record { jobs = jobs_of b.jobs; lines = lines_of b.lines; clock = b.clock; settings = b.settings }

abbrev pub board_of : State → List ℕ → Board
board_of s l =
    record {
      settings = s.settings;
      clock = s.clock;
      jobs = jobs_from s.jobs;
      marked = true;
      lines = lines_from s.lines;
      gaps = l;
    }

pub record Arrays (b : Board) : Type 0 where
  pub jobs : length b.jobs.jobs ≡ most_jobs
  pub lines : length b.lines ≡ resources
  pub uses : (k : ℕ) → k < resources → length (get_or b.lines k no_line).uses ≡ most_uses
  pub gaps : length b.gaps ≡ cell_count
