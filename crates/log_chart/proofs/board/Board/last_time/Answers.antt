-- One point more is in the largest. Assumes nothing.
use Rattle.std.proofs.Common.{refl, ◌∙◌}
use Rattle.log_chart.specs.Chart.{last_time}
use Rattle.log_chart.proofs.ChartLaws.{last_next}
use Rattle.log_chart.proofs.board.Board.last_time.Goals as goal

pub loop-k-init : goal.loop-k-init
unfolding last_time
loop-k-init c = refl

pub loop-k-preserved : goal.loop-k-preserved
loop-k-preserved c = c.max-last.ensures ∙ last_next _ _ _ _ _ (c.from.ensures ∙ c.earliest.ensures) c.loop-k.invariant
