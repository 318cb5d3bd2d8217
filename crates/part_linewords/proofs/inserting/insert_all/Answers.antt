-- `insert_all`: the next allocation fits, goes in, and at the end all are in (proofs/PutIn).
use native.Mathlib.Omega.{arith}
use Rattle.part_linewords.proofs.PutIn.{next_fits, next_in, all_in}
use Rattle.part_linewords.proofs.inserting.insert_all.Goals as goal

pub insert-requires-clause-at_in_bounds : goal.insert-requires-clause-at_in_bounds
insert-requires-clause-at_in_bounds c =
    let next = next_fits c.loop-allocation.invariant (omega arith) c.args.allocations.read _ _ c.line_start.ensures in
    (omega (arith, next.1, c.line_start.ensures), next.0.0, next.0.1)

pub insert-requires-clause-tidy : goal.insert-requires-clause-tidy
insert-requires-clause-tidy c = (next_fits c.loop-allocation.invariant (omega arith) c.args.allocations.read _ _ c.line_start.ensures).0.2

pub loop-allocation-preserved : goal.loop-allocation-preserved
loop-allocation-preserved c =
    next_in c.loop-allocation.invariant (omega arith) c.args.allocations.read _ _ c.used_from.ensures _ (omega arith) _ c.line_start.ensures
    c.insert.ensures.line c.insert.ensures.others

pub returns : goal.returns
returns c = all_in c.loop-allocation.invariant (omega arith) (omega arith)
