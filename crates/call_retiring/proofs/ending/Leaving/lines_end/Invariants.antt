-- The test of the lines that are left is the test of them all.
use Rattle.std.proofs.Common.{◌≡◌, drop}
use Rattle.part_boardwords.specs.Words.{word_in, lines_read}
use Rattle.call_retiring.proofs.Ended.{lines_end}
use Rattle.call_retiring.proofs.ending.Leaving.lines_end.Given as goal

abbrev pub invariant-loop-k : goal.invariant-loop-k
invariant-loop-k l =
    let all = lines_end l.self.table.now l.self.settings l.self.clock l.self.f l.self.m in
    all (drop l.k (lines_read (word_in l.w))) ≡ all (lines_read (word_in l.w))
