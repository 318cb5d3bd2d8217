-- One point more is in the least. Assumes nothing.
use Rattle.std.proofs.Common.{refl, ◌∙◌, arith}
use Rattle.log_chart.specs.Chart.{first_time}
use Rattle.log_chart.proofs.ChartLaws.{first_next}
use Rattle.log_chart.proofs.board.Board.first_time.Goals as goal

pub loop-k-init : goal.loop-k-init
unfolding first_time
loop-k-init c = (refl, omega arith)

pub loop-k-preserved : goal.loop-k-preserved
loop-k-preserved c = (c.min-first.ensures ∙ first_next _ _ _ _ _ (c.from.ensures ∙ c.earliest.ensures) c.loop-k.invariant.0, omega arith)
