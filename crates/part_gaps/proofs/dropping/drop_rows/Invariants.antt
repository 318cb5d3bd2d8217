-- The rows before a are written, the others hold what they held.
use Rattle.std.proofs.Common.{◌≡◌, ◌*◌}
use Rattle.spec_plain.specs.Limits.{side}
use Rattle.base_lists.specs.Loops.{rewritten}
use Rattle.part_gaps.specs.Cells.{dropped_cell}
use Rattle.part_gaps.proofs.dropping.drop_rows.Given as goal

abbrev pub invariant-loop-a : goal.invariant-loop-a
invariant-loop-a l = l.t ≡ rewritten (dropped_cell l.fn.t l.f l.m l.left) l.fn.t 0 (l.a * side)
