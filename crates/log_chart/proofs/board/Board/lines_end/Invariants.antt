-- The last end so far, with the lines that are left, gives the last end of all.
use Rattle.std.proofs.Common.{◌≡◌, drop}
use Rattle.part_gaps.specs.Cells.{table_of}
use Rattle.part_boardwords.specs.Words.{word_in, lines_read}
use Rattle.log_chart.specs.Chart.{lines_end}
use Rattle.log_chart.proofs.board.Board.lines_end.Given as goal

abbrev pub invariant-loop-k : goal.invariant-loop-k
invariant-loop-k l =
    let c = table_of l.self.t.now in
    let ls = lines_read (word_in l.self.w.now) in
    lines_end c (drop l.k ls) l.last ≡ lines_end c ls l.time
