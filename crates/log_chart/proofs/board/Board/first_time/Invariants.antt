-- The least time so far is that of the points passed.
use Rattle.std.proofs.Common.{◌≡◌, ◌≤◌}
use Rattle.part_gaps.specs.Cells.{table_of}
use Rattle.log_chart.specs.Chart.{first_time}
use Rattle.log_chart.proofs.board.Board.first_time.Given as goal

abbrev pub invariant-loop-k : goal.invariant-loop-k
invariant-loop-k l = (l.first ≡ first_time (table_of l.t) l.k l.time) × (l.first ≤ l.time)
