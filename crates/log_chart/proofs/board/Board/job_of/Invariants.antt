-- Point x of all is point k of the jobs that are left.
use Rattle.std.proofs.Common.{◌≡◌, ◌+◌, drop}
use Rattle.part_lines.specs.ArrayLists.{jobs_of}
use Rattle.part_boardwords.specs.Words.{word_in, held_jobs}
use Rattle.log_chart.specs.Chart.{job_of}
use Rattle.log_chart.proofs.board.Board.job_of.Given as goal

abbrev pub invariant-loop-place : goal.invariant-loop-place
invariant-loop-place l = let js = jobs_of (held_jobs (word_in l.w)) in job_of js l.x ≡ l.place + job_of (drop l.place js) l.k
