-- How much a board holds (document 01): "At most 16 jobs and, beside the origin, 64 points are live", sixteen resources, "A line holds at most 32".
-- How much an offer brings: "n steps (1 to 8)", each an action of "n (0 to 4)" allocations.
-- src/limits.rt has the same numbers for the code. All are abbreviations: a check sees numerals.
--   most_jobs, most_points   the most jobs, and the most live points beside the origin
--   resources, most_uses    how many resources, and so lines, there are; the most uses in a line
--   most_steps          the most steps of an offer;  step_allocations, most_allocations: the most allocations of a step, and of an offer
--   side, cell_count        rows and columns of the gap table, one for each point and the origin; how many cells that makes
use Rattle.std.specs.Prelude.{ℕ, ◌+◌, ◌*◌}

abbrev pub most_jobs : ℕ
most_jobs = 16

abbrev pub most_points : ℕ
most_points = 64

abbrev pub resources : ℕ
resources = 16

abbrev pub most_uses : ℕ
most_uses = 32

abbrev pub most_steps : ℕ
most_steps = 8

abbrev pub step_allocations : ℕ
step_allocations = 4

abbrev pub most_allocations : ℕ
most_allocations = step_allocations * most_steps

abbrev pub side : ℕ
side = most_points + 1

abbrev pub cell_count : ℕ
cell_count = side * side
