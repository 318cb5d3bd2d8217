-- The first b cells of the row are relaxed.
use Rattle.std.proofs.Common.{◌≡◌, ◌+◌, ◌*◌}
use Rattle.spec_plain.specs.Limits.{side}
use Rattle.base_lists.specs.Loops.{rewritten}
use Rattle.part_gaps.specs.Cells.{relaxed}
use Rattle.part_gaps.proofs.adding.relax.Given as goal

abbrev pub invariant-loop-b : goal.invariant-loop-b
invariant-loop-b l = l.t ≡ rewritten (relaxed l.fn.t l.row l.via l.cut) l.fn.t (l.a * side) (l.a * side + l.b)
