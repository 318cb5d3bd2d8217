-- The columns before the points dropped, the later ones, and the cells past them.
use Rattle.std.proofs.Common.{◌+◌, ◌-◌, ◌*◌, arith}
use Rattle.spec_plain.specs.Limits.{side}
use Rattle.base_lists.proofs.Parts.{part_filled}
use Rattle.part_gaps.proofs.Dropped.{columns_dropped}
use Rattle.part_gaps.proofs.dropping.drop_columns.Goals as goal

pub returns : goal.returns
returns c =
    let A = c.args in
    let to = A.a * side in
    columns_dropped A.t.now c.move_cells.new.t c.move_cells-2.new.t _ A.f A.m A.left A.a c.old_number-from.result (omega arith) (omega arith) (omega arith)
    (omega arith) c.old_number-from.ensures.number c.move_cells.ensures c.move_cells-2.ensures
    (part_filled _ _ _ _ _ (to + A.left + (side - A.left)) c.fill.ensures.after (omega arith) (omega arith))
