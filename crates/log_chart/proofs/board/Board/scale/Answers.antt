-- The span, the width and the beginning are those defined. Assumes nothing.
use Rattle.std.proofs.Common.{arith}
use Rattle.log_chart.proofs.ChartLaws.{scale_is}
use Rattle.log_chart.proofs.board.Board.scale.Goals as goal

pub returns : goal.returns
returns c =
    let width = c.width_of-width.ensures in
    let begin = c.begin_of.ensures in (
      scale_is _ _ _ _ _ _ _ _ _ _ c.from-now.ensures c.first_time-left.ensures.0 c.last_time.ensures c.lines_end-right.ensures width.0 begin.0,
      record { begin = omega arith; some = width.1; column = width.2 },
    )
