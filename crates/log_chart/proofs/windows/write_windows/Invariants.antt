-- The first point of the next job, with the points of the jobs to come, is one more than all points.
use Rattle.std.proofs.Common.{◌≡◌, ◌+◌, drop}
use Rattle.spec_plain.specs.Plain.{total}
use Rattle.part_lines.specs.ArrayLists.{jobs_of}
use Rattle.part_boardwords.specs.Words.{word_in, held_jobs}
use Rattle.log_chart.proofs.windows.write_windows.Given as goal

abbrev pub invariant-loop-k : goal.invariant-loop-k
invariant-loop-k g l = let js = jobs_of (held_jobs (word_in l.w)) in l.x + total (drop l.k js) ≡ 1 + total js
