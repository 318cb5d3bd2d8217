-- The points before the one at hand are set: they and those left are all of them.
use Rattle.std.proofs.Common.{◌+◌, ◌-◌}
use Rattle.spec_plain.specs.Plain.{range}
use Rattle.part_settling.proofs.Frozen.{Freezing}
use Rattle.part_settling.proofs.freezing.freeze_points.Given as goal

abbrev pub invariant-loop-point : goal.invariant-loop-point
invariant-loop-point l = Freezing l.fn.t l.n (range l.x l.m) l.t (range l.point (l.x + l.m - l.point))
