-- The mark so far, with the uses that are left, gives the mark of all.
use Rattle.std.proofs.Common.{◌≡◌, drop}
use Rattle.part_lines.specs.ArrayLists.{jobs_of, line_of}
use Rattle.part_gaps.specs.Cells.{table_of}
use Rattle.part_boardwords.specs.Words.{word_in, held_jobs, line_read}
use Rattle.log_chart.specs.Chart.{glyph_over}
use Rattle.log_chart.proofs.board.Board.mark_at.Given as goal

abbrev pub invariant-loop-k : goal.invariant-loop-k
invariant-loop-k l =
    let c = table_of l.self.t.now in
    let js = jobs_of (held_jobs (word_in l.w)) in
    let us = line_of (line_read (word_in l.w) l.at) in
    glyph_over c js (drop l.k us) l.from l.to l.mark ≡ glyph_over c js us l.from l.to 32
