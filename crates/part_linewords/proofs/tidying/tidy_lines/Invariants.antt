-- The lines before k are written (`turned`), and the others as they came.
use Rattle.std.proofs.Common.{◌≡◌}
use Rattle.part_lines.proofs.LineLaws.{tidied}
use Rattle.part_linewords.proofs.Lines.{turned}
use Rattle.part_linewords.proofs.tidying.tidy_lines.Given as goal

abbrev pub invariant-loop-k : goal.invariant-loop-k
invariant-loop-k l = l.w ≡ turned tidied l.fn.w l.k
