-- The test of the uses that are left is the test of them all.
use Rattle.std.proofs.Common.{◌≡◌, drop}
use Rattle.part_lines.specs.ArrayLists.{line_of}
use Rattle.part_boardwords.specs.Words.{word_in, line_read}
use Rattle.call_retiring.proofs.Ended.{uses_end}
use Rattle.call_retiring.proofs.ending.Leaving.line_ends.Given as goal

abbrev pub invariant-loop-k : goal.invariant-loop-k
invariant-loop-k l =
    let all = uses_end l.self.table.now l.self.settings l.self.clock l.self.f l.self.m in
    let uses = line_of (line_read (word_in l.w) l.at) in
    all (drop l.k uses) ≡ all uses
