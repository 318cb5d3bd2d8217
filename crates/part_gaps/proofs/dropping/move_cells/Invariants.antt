-- The first k cells are moved.
use Rattle.std.proofs.Common.{◌≡◌, ◌+◌, ◌-◌, get_or}
use Rattle.base_lists.specs.Loops.{rewritten}
use Rattle.part_gaps.proofs.dropping.move_cells.Given as goal

abbrev pub invariant-loop-k : goal.invariant-loop-k
invariant-loop-k l = l.t ≡ rewritten (λ i. get_or l.fn.t (l.from + (i - l.to)) 0) l.fn.t l.to (l.to + l.k)
