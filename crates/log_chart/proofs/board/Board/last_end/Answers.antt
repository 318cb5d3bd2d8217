-- A use that is read is the next of its line. Assumes nothing.
use Rattle.std.proofs.Common.{ℕ, ◌∙◌, ap, max, arith}
use Rattle.part_lines.specs.ArrayLists.{line_of}
use Rattle.part_boardwords.specs.Words.{word_in, line_read}
use Rattle.part_sound.proofs.InWords.{use_next, use_over}
use Rattle.log_chart.proofs.ChartLaws.{end_next, end_done}
use Rattle.log_chart.proofs.board.Board.last_end.Goals as goal

pub loop-k-preserved : goal.loop-k-preserved
loop-k-preserved c =
    let L = c.loop-k in
    let f = word_in c.args.self.now.w.now in
    let next = use_next f c.args.at c.requires.1.count L.k _ c.loop-k-test.true c.use_at-u.ensures in
    end_next _ (line_of (line_read f c.args.at)) c.args.time L.k L.last L.invariant _ _ next (c.max-last.ensures ∙ ap (λ (e : ℕ). max L.last e) c.end.ensures)

pub returns : goal.returns
returns c =
    let L = c.loop-k in
    let f = word_in c.args.self.now.w.now in
    end_done _ (line_of (line_read f c.args.at)) c.args.time L.k L.last L.invariant (use_over f c.args.at c.requires.1.count L.k (omega arith))
