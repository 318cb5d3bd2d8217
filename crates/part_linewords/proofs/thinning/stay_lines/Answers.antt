use Rattle.std.proofs.Common.{arith}
use Rattle.part_boardwords.proofs.Overwritten.{overwritten_none}
use Rattle.part_boardwords.specs.Words.{word_in, lines_read}
use Rattle.part_lines.proofs.LeavingLaws.{stays_of, stayed_all}
use Rattle.part_linewords.proofs.Lines.{lines_turn, lines_few, lines_done}
use Rattle.part_linewords.proofs.thinning.stay_lines.Goals as goal

pub loop-k-init : goal.loop-k-init
loop-k-init c = overwritten_none _ _ _

pub stay_line-requires : goal.stay_line-requires
stay_line-requires c =
    let A = c.args in
    let L = c.loop-k in
    let few = lines_few (stays_of A.f A.m) A.w.now L.w L.k _ L.invariant (omega arith) c.line_start.ensures c.requires.by_index in
    (omega arith, few, omega arith)

pub loop-k-preserved : goal.loop-k-preserved
loop-k-preserved c =
    let A = c.args in
    let L = c.loop-k in
    lines_turn (stays_of A.f A.m) A.w.now L.w _ L.k _ L.invariant (omega arith) c.line_start.ensures c.stay_line.ensures

pub returns : goal.returns
returns c =
    let A = c.args in
    let L = c.loop-k in
    lines_done (stays_of A.f A.m) A.w.now L.w L.k _ L.invariant (omega arith) (stayed_all A.f A.m (lines_read (word_in A.w.now)))
