-- A use that is read is the next of its line. Assumes nothing.
use Rattle.std.proofs.Common.{arith}
use Rattle.part_lines.specs.ArrayLists.{line_of}
use Rattle.part_boardwords.specs.Words.{word_in, line_read}
use Rattle.part_sound.proofs.InWords.{use_next, use_over}
use Rattle.log_chart.proofs.ChartLaws.{mark_next, mark_end}
use Rattle.log_chart.proofs.board.Board.mark_at.Goals as goal

pub loop-k-preserved : goal.loop-k-preserved
loop-k-preserved c =
    let L = c.loop-k in
    let A = c.args in
    let f = word_in A.self.now.w.now in
    let next = use_next f A.at c.requires.1.count L.k _ c.loop-k-test.true c.use_at-u.ensures in
    mark_next _ _ (line_of (line_read f A.at)) A.from A.to 32 L.k L.mark L.invariant _ _ next c.mark_over-mark.ensures

pub returns : goal.returns
returns c =
    let L = c.loop-k in
    let A = c.args in
    let f = word_in A.self.now.w.now in
    mark_end _ _ (line_of (line_read f A.at)) A.from A.to 32 L.k L.mark L.invariant (use_over f A.at c.requires.1.count L.k (omega arith))
