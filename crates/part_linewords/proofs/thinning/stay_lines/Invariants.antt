-- The lines before k are written (`turned`), and the others as they came.
use Rattle.std.proofs.Common.{◌≡◌}
use Rattle.part_lines.proofs.LeavingLaws.{stays_of}
use Rattle.part_linewords.proofs.Lines.{turned}
use Rattle.part_linewords.proofs.thinning.stay_lines.Given as goal

abbrev pub invariant-loop-k : goal.invariant-loop-k
invariant-loop-k l = l.w ≡ turned (stays_of l.f l.m) l.fn.w l.k
