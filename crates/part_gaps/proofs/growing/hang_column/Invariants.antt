-- The rows before i have their cell of the new point's column.
use Rattle.std.proofs.Common.{◌≡◌, ◌*◌}
use Rattle.spec_plain.specs.Limits.{side}
use Rattle.base_lists.specs.Loops.{rewritten}
use Rattle.part_gaps.specs.Cells.{hung_cell}
use Rattle.part_gaps.proofs.growing.hang_column.Given as goal

abbrev pub invariant-loop-i : goal.invariant-loop-i
invariant-loop-i l = l.t ≡ rewritten (hung_cell l.fn.t l.n l.most) l.fn.t 0 (l.i * side)
