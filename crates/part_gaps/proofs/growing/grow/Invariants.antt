-- k points are there.
use Rattle.std.proofs.Common.{◌≡◌}
use Rattle.part_gaps.specs.Cells.{grown}
use Rattle.part_gaps.proofs.growing.grow.Given as goal

abbrev pub invariant-loop-k : goal.invariant-loop-k
invariant-loop-k l = l.t ≡ grown l.fn.t l.n l.k l.most
