-- One row more.
use Rattle.std.proofs.Common.{arith}
use Rattle.base_lists.proofs.Rewritten.{rewritten_none}
use Rattle.part_gaps.proofs.Dropped.{rows_next}
use Rattle.part_gaps.proofs.dropping.drop_rows.Goals as goal

pub loop-a-init : goal.loop-a-init
loop-a-init c = rewritten_none _ _ 0 _ (omega arith)

pub loop-a-preserved : goal.loop-a-preserved
loop-a-preserved c =
    let A = c.args in
    let L = c.loop-a in
    rows_next A.t.now L.t c.drop_columns.new.t A.f A.m A.left L.a (omega arith) (omega arith) (omega arith) L.invariant c.drop_columns.ensures
