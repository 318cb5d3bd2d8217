use Rattle.std.proofs.Common.{arith}
use Rattle.part_boardwords.proofs.Overwritten.{overwritten_none}
use Rattle.part_boardwords.specs.Words.{word_in, lines_read}
use Rattle.part_lines.proofs.LineLaws.{tidied, tidied_all}
use Rattle.part_linewords.proofs.Lines.{lines_turn, lines_few, lines_done}
use Rattle.part_linewords.proofs.tidying.tidy_lines.Goals as goal

pub loop-k-init : goal.loop-k-init
loop-k-init c = overwritten_none _ _ _

pub tidy_line-requires : goal.tidy_line-requires
tidy_line-requires c =
    let L = c.loop-k in
    (omega arith, lines_few tidied c.args.w.now L.w L.k _ L.invariant (omega arith) c.line_start.ensures c.requires.by_index)

pub loop-k-preserved : goal.loop-k-preserved
loop-k-preserved c =
    let L = c.loop-k in
    lines_turn tidied c.args.w.now L.w _ L.k _ L.invariant (omega arith) c.line_start.ensures c.tidy_line.ensures

pub returns : goal.returns
returns c =
    let L = c.loop-k in
    lines_done tidied c.args.w.now L.w L.k _ L.invariant (omega arith) (tidied_all (lines_read (word_in c.args.w.now)))
