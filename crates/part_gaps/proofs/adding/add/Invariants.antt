-- The rows before a are those of the table with the rule added, the others are as they were.
use Rattle.std.proofs.Common.{◌≡◌, ◌*◌}
use Rattle.spec_plain.specs.Limits.{side}
use Rattle.base_lists.specs.Loops.{rewritten}
use Rattle.part_gaps.specs.Cells.{added_cell}
use Rattle.part_gaps.proofs.adding.add.Given as goal

abbrev pub invariant-loop-a : goal.invariant-loop-a
invariant-loop-a l = l.t ≡ rewritten (added_cell l.fn.t l.n l.r) l.fn.t 0 (l.a * side)
