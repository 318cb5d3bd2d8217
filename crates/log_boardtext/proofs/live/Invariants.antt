-- No more than 64 are counted.
use Rattle.std.proofs.Common.{◌≤◌}
use Rattle.spec_plain.specs.Limits.{most_points}
use Rattle.log_boardtext.proofs.live.Given as goal

abbrev pub invariant-loop-k : goal.invariant-loop-k
invariant-loop-k l = l.points ≤ most_points
