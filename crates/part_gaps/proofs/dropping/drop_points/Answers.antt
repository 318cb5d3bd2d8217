-- The rows that are left are written, and all past them is cleared.
use Rattle.std.proofs.Common.{◌+◌, ◌-◌, ◌*◌, arith}
use Rattle.spec_plain.specs.Limits.{side, cell_count}
use Rattle.base_lists.proofs.Parts.{part_filled}
use Rattle.part_gaps.proofs.Dropped.{rest_cleared}
use Rattle.part_gaps.proofs.dropping.drop_points.Goals as goal

pub returns : goal.returns
returns c =
    let A = c.args in
    let from = (A.n - A.m) * side in
    rest_cleared A.t.now c.drop_rows.new.t _ A.f A.m A.n (omega arith) (omega arith) c.drop_rows.ensures
    (part_filled _ _ _ _ _ (from + (cell_count - from)) c.fill.ensures.after (omega arith) (omega arith))
