-- Jobs whose points are counted.
--   FewPoints j   the job j has at most 9 points, so that the points of 16 such jobs are no large number
use Rattle.std.specs.Prelude.{◌≤◌}
use Rattle.spec_plain.specs.declared.Job.{Job}

-- "A job of n steps (1 to 8) brings points p0..pn"
abbrev pub FewPoints : Job → Type 0
FewPoints j = j.points ≤ 9
