-- `line_ends` meets its contract.
use Rattle.std.proofs.Common.{sym, ◌∙◌, subst, arith}
use Rattle.part_lines.specs.ArrayLists.{line_of}
use Rattle.part_lines.specs.Asked.{Short}
use Rattle.part_lines.proofs.Lists.{held_over}
use Rattle.part_boardwords.specs.Words.{word_in, uses_read, line_read}
use Rattle.call_retiring.proofs.Ended.{uses_next, uses_stop, uses_end_lem, read_at, read_next}
use Rattle.call_retiring.proofs.ending.Leaving.line_ends.Goals as goal

pub use_ends-requires : goal.use_ends-requires
use_ends-requires c =
    let A = c.args in
    let is = read_at (word_in A.w.now) A.at c.loop-k.k (omega arith) (omega arith) c.use_at-u.result c.use_at-u.ensures in
    subst Short is (c.requires.2 c.loop-k.k)

pub returns-then-not-use_ends : goal.returns-then-not-use_ends
returns-then-not-use_ends c =
    let A = c.args in
    let L = A.self in
    let w = word_in A.w.now in
    let next = read_next w A.at c.loop-k.k (omega arith) (omega arith) c.use_at-u.result c.use_at-u.ensures in
    uses_stop L.table.now L.settings L.clock L.f L.m (line_of (line_read w A.at)) c.loop-k.k c.loop-k.invariant c.use_at-u.result next
    (sym c.use_ends.ensures ∙ c.if-not-use_ends.true)

pub loop-k-preserved : goal.loop-k-preserved
loop-k-preserved c =
    let A = c.args in
    let L = A.self in
    let w = word_in A.w.now in
    let next = read_next w A.at c.loop-k.k (omega arith) (omega arith) c.use_at-u.result c.use_at-u.ensures in
    uses_next L.table.now L.settings L.clock L.f L.m (line_of (line_read w A.at)) c.loop-k.k c.loop-k.invariant c.use_at-u.result next
    (sym c.use_ends.ensures ∙ c.if-not-use_ends.false)

pub returns : goal.returns
returns c =
    let A = c.args in
    let L = A.self in
    let w = word_in A.w.now in
    uses_end_lem L.table.now L.settings L.clock L.f L.m (line_of (line_read w A.at)) c.loop-k.k c.loop-k.invariant
    (held_over (w A.at) (uses_read w A.at) c.loop-k.k (omega arith))
