-- Each row is relaxed. What that requires, and gives, is the turn of the row (`Turn`).
use Rattle.std.proofs.Common.{arith}
use Rattle.base_lists.proofs.Rewritten.{rewritten_none, done}
use Rattle.part_gaps.specs.Cells.{added, overlaid}
use Rattle.part_gaps.proofs.Added.{Turn, turn, row_copied}
use Rattle.part_gaps.proofs.adding.add.Goals as goal
use Rattle.part_gaps.proofs.adding.add.Goals.{In-loop-a}

turn_at : (c : In-loop-a) → Turn c.args.t.now c.args.n c.args.r c.first_cells-row.result c.loop-a.t c.loop-a.a
turn_at c =
    let A = c.args in
    let L = c.loop-a in
    let P = c.requires in
    turn A.t.now A.n A.r (omega arith) (omega arith) P.t_len.2 P.closed P.whole c.first_cells-row.result
    (row_copied A.t.now c.first_cells-row.result A.r.early _ (omega arith) c.first_cells-row.ensures.first) L.t L.a (omega arith) L.invariant

pub loop-a-init : goal.loop-a-init
loop-a-init c = rewritten_none _ _ 0 _ (omega arith)

pub overflow_add-via-in-loop-a : goal.overflow_add-via-in-loop-a
overflow_add-via-in-loop-a c = omega (arith, (turn_at (goal.at.overflow_add-via-in-loop-a c).In-loop-a).via_small)

pub relax_row-requires : goal.relax_row-requires
relax_row-requires c =
    let T = turn_at (goal.at.relax_row-requires c).In-loop-a in
    record {
      t_len = (omega arith, omega arith, omega arith, omega arith, omega (arith, T.via_small), omega arith);
      by_index = T.cells_small;
      by_index_2 = T.row_small;
      by_index_3 = T.row_whole;
      by_index_4 = T.row_behind;
    }

pub loop-a-preserved : goal.loop-a-preserved
loop-a-preserved c = (turn_at (goal.at.loop-a-preserved c).In-loop-a).next c.relax_row.new.t c.relax_row.ensures

pub returns : goal.returns
unfolding added overlaid
returns c = done _ _ _ 0 _ c.loop-a.invariant _ (omega arith)
