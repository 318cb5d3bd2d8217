-- n counts the bytes passed that are x, so it is at most as many as they are.
use Rattle.std.proofs.Common.{◌≡◌, ◌≤◌, get_or, eqb}
use Rattle.log_text.specs.Counted.{count_below}
use Rattle.log_text.proofs.search.count.Given as goal

abbrev pub invariant-loop-b : goal.invariant-loop-b
invariant-loop-b l = (l.n ≤ l.b-index) × (l.n ≡ count_below (λ k. eqb (get_or l.s k 0) l.x) l.b-index)
