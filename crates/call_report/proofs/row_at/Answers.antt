-- `row_at` meets its contract.
use Rattle.std.proofs.Common.{◌+◌}
use Rattle.call_report.proofs.RowByRow.{row_lent}
use Rattle.call_report.proofs.row_at.Goals as goal

pub returns : goal.returns
returns c =
    let A = c.args in row_lent A.w.now A.at.place A.at.point (A.k + 1) _ _ c.requires.0 c.earliest-early.ensures c.latest-late.ensures
