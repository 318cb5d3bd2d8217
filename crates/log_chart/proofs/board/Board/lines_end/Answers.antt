-- A line that is read is the next of the lines. Assumes nothing.
use Rattle.std.proofs.Common.{sym, ◌∙◌, ap, arith}
use Rattle.spec_plain.specs.Limits.{resources}
use Rattle.part_lines.specs.declared.Line.{Line}
use Rattle.part_lines.specs.ArrayLists.{line_of}
use Rattle.base_lists.proofs.Build.{build_length}
use Rattle.part_gaps.specs.Cells.{table_of}
use Rattle.part_boardwords.specs.Words.{word_in, line_read, line_at, lines_read}
use Rattle.part_boardwords.proofs.Boards.{line_of_lem}
use Rattle.log_chart.specs.Chart.{last_end}
use Rattle.log_chart.proofs.ChartLaws.{lines_next, lines_done}
use Rattle.log_chart.proofs.board.Board.lines_end.Goals as goal

pub loop-k-preserved : goal.loop-k-preserved
loop-k-preserved c =
    let L = c.loop-k in
    let w = word_in c.args.self.now.w.now in
    let is = ap (line_read w) c.line_start.ensures ∙ sym (line_of_lem w L.k (omega arith)) in
    let line = ap (λ (l : Line). last_end (table_of c.args.self.now.t.now) (line_of l) L.last) is in
    lines_next _ (lines_read w) c.args.time L.k L.last L.invariant _ (omega (arith, build_length (line_at w) resources)) (c.last_end-last.ensures ∙ line)

pub returns : goal.returns
returns c =
    let L = c.loop-k in
    let w = word_in c.args.self.now.w.now in
    lines_done _ (lines_read w) c.args.time L.k L.last L.invariant (omega (arith, build_length (line_at w) resources))
