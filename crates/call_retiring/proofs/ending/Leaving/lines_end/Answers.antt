-- `lines_end` meets its contract.
use Rattle.std.proofs.Common.{sym, ◌∙◌, arith}
use Rattle.part_boardwords.specs.Words.{word_in}
use Rattle.call_retiring.proofs.Ended.{lined_read, read_line_next, read_line_stops, read_line_end}
use Rattle.call_retiring.proofs.ending.Leaving.lines_end.Goals as goal

pub line_ends-requires : goal.line_ends-requires
line_ends-requires c =
    let start = c.line_start.ensures in
    let line = lined_read (word_in c.args.w.now) c.loop-k.k _ (omega arith) start c.requires.1 in
    (omega (arith, start), line.0, line.1)

pub returns-then-not-line_ends : goal.returns-then-not-line_ends
returns-then-not-line_ends c =
    let L = c.args.self in
    read_line_stops L.table.now L.settings L.clock L.f L.m (word_in c.args.w.now) c.loop-k.k c.loop-k.invariant _ (omega arith)
    c.line_start.ensures (sym c.line_ends.ensures ∙ c.if-not-line_ends.true)

pub loop-k-preserved : goal.loop-k-preserved
loop-k-preserved c =
    let L = c.args.self in
    read_line_next L.table.now L.settings L.clock L.f L.m (word_in c.args.w.now) c.loop-k.k c.loop-k.invariant _ (omega arith)
    c.line_start.ensures (sym c.line_ends.ensures ∙ c.if-not-line_ends.false)

pub returns : goal.returns
returns c =
    let L = c.args.self in
    read_line_end L.table.now L.settings L.clock L.f L.m (word_in c.args.w.now) c.loop-k.k c.loop-k.invariant (omega arith)
