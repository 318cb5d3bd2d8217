-- The last end so far, with the uses that are left, gives the last end of all.
use Rattle.std.proofs.Common.{◌≡◌, drop}
use Rattle.part_lines.specs.ArrayLists.{line_of}
use Rattle.part_gaps.specs.Cells.{table_of}
use Rattle.part_boardwords.specs.Words.{word_in, line_read}
use Rattle.log_chart.specs.Chart.{last_end}
use Rattle.log_chart.proofs.board.Board.last_end.Given as goal

abbrev pub invariant-loop-k : goal.invariant-loop-k
invariant-loop-k l =
    let us = line_of (line_read (word_in l.w) l.at) in
    last_end (table_of l.self.t.now) (drop l.k us) l.last ≡ last_end (table_of l.self.t.now) us l.time
