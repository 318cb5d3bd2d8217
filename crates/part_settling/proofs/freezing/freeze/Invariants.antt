-- The points of the jobs before the one at hand are set: they and those of the jobs left are all of them, and x is the first of those left.
use Rattle.std.proofs.Common.{◌≡◌, ◌+◌, ◌-◌, drop}
use Rattle.spec_plain.specs.Plain.{total, unsent_points}
use Rattle.part_settling.proofs.Frozen.{Freezing}
use Rattle.part_settling.proofs.freezing.freeze.Given as goal

abbrev pub invariant-loop-job : goal.invariant-loop-job
invariant-loop-job l = record {
  set : Freezing l.fn.t l.n (unsent_points 1 l.count l.fn.jobs) l.t (unsent_points l.x (l.count - l.job-index) (drop l.job-index l.fn.jobs));
  next : l.x + total (drop l.job-index l.fn.jobs) ≡ l.n;
}
