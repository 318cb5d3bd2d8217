-- What the code asks of its arguments, so that no index is out of range and no sum wraps. Soundness and reading show it.
--   Sized jobs       as many jobs and points as document 01 allows
--   Short u          a use's offset and length are not above their limits, so its end fits a u32;  AllShort us: each use of a line
--   Lined lines      no line holds more than 32, and each use is Short
--   Ready lines      the same of 16 lines that have 0 in every place not in use (so that none holds more than 32)
--   Room n rules     n more rules fit
--   Readable p       an allocation's numbers are not above their limits; its place may be any
use Rattle.std.specs.Prelude.{ℕ, ◌+◌, ◌≤◌, ◌<◌, ◌≡◌, List, [], length, get_or}
use Rattle.spec_plain.specs.Limits.{most_jobs, most_points, resources, most_steps, most_uses}
use Rattle.spec_plain.specs.Plain.{no_use, total}
use Rattle.part_lines.specs.ArrayLists.{jobs_of, lines_of, lines_from, rules_of, rules_from, no_line, most_rules}
use Rattle.part_lines.specs.declared.Jobs.{Jobs}
use Rattle.spec_plain.specs.declared.Use.{Use}
use Rattle.part_lines.specs.declared.Line.{Line}
use Rattle.part_lines.specs.declared.rulelist.Rules.{Rules}
use Rattle.spec_plain.specs.declared.Allocation.{Allocation}

-- "At most 16 jobs and, beside the origin, 64 points are live."
pub record Sized (jobs : Jobs) : Type 0 where
  pub count : jobs.count ≤ most_jobs
  pub points : total (jobs_of jobs) ≤ most_points

-- offsets and lengths are at most 1,000,000
pub record Short (u : Use) : Type 0 where
  pub offset : u.offset ≤ 1000000
  pub length : u.length ≤ 1000000

abbrev pub AllShort : List Use → Type 0
AllShort us = (k : ℕ) → Short (get_or us k no_use)

-- "A line holds at most 32."
pub record Lined (lines : List Line) : Type 0 where
  pub counts : (k : ℕ) → (get_or lines k no_line).count ≤ most_uses
  pub short : (i : ℕ) → AllShort (get_or (lines_of lines) i [])

pub record Ready (lines : List Line) : Type 0 where
  pub sixteen : length lines ≡ resources
  pub tidy : lines ≡ lines_from (lines_of lines)
  pub short : (i : ℕ) → AllShort (get_or (lines_of lines) i [])

pub record Room (n : ℕ) (rules : Rules) : Type 0 where
  -- the array has the places
  pub fits : rules.count + n ≤ most_rules
  -- and 0 in those not in use
  pub tidy : rules ≡ rules_from (rules_of rules)

-- "n allocations of resource (0 to 15), offset (0 to 1,000,000), length (1 to 1,000,000)", in one of at most 8 steps
pub record Readable (p : Allocation) : Type 0 where
  pub resource : p.resource < resources
  pub step : p.step ≤ most_steps
  pub offset : p.offset ≤ 1000000
  pub length : p.length ≤ 1000000
