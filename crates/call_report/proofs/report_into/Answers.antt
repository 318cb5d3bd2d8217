-- `report_into` meets its contract: the report into the front of the array, and the rest of it as it was.
use Rattle.call_report.specs.Rows.{reported_into}
use Rattle.call_report.proofs.report_into.Goals as goal

pub returns : goal.returns
unfolding reported_into
returns c = rw (c.report-ruling.ensures.0, c.report-ruling.ensures.1, c.min-room.ensures)
