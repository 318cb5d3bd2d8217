-- `insert_all`: after each turn the allocations up to here are put in (`PutIn`).
use Rattle.part_linewords.proofs.PutIn.{PutIn}
use Rattle.part_linewords.proofs.inserting.insert_all.Given as goal

abbrev pub invariant-loop-allocation : goal.invariant-loop-allocation
invariant-loop-allocation l = PutIn l.first l.allocations.list.now l.initial.w l.w l.allocation-index
