-- Lines at the moment of an allocation.
--   line_then x w ps r  line r of the words w once the allocations ps are put in, where p0 of their job is point x
--   lines_at m, line_at m r   the lines at the moment m; line r
use Rattle.std.specs.Prelude.{ℕ, List, [], get_or}
use Rattle.spec_plain.specs.declared.Allocation.{Allocation}
use Rattle.spec_plain.specs.declared.Use.{Use}
use Rattle.part_lines.specs.Placing.{all_with}
use Rattle.part_boardwords.specs.Words.{lines_in}
use Rattle.part_drafts.specs.declared.moment.Moment.{Moment}

abbrev pub line_then : ℕ → List ℕ → List Allocation → ℕ → List Use
line_then x w ps r = get_or (all_with x (lines_in w) ps) r []

abbrev pub line_at : Moment → ℕ → List Use
line_at m r = line_then m.first m.w.now m.earlier.list.now r

abbrev pub lines_at : Moment → List (List Use)
lines_at m = all_with m.first (lines_in m.w.now) m.earlier.list.now
