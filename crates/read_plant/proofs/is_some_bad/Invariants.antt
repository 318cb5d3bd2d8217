-- `is_some_bad`: of the first k allocations one is out of range exactly where their resources together are above 15.
use Rattle.std.proofs.Common.{◌≡◌, ltb}
use Rattle.read_plant.specs.Plant.{some_bad_allocation}
use Rattle.read_plant.proofs.is_some_bad.Given as goal

abbrev pub invariant-loop-k : goal.invariant-loop-k
invariant-loop-k l = some_bad_allocation l.s l.at l.k ≡ ltb 15 l.resources
