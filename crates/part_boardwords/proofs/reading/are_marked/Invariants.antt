-- The jobs passed are marked, or the flag says that one isn't.
use Rattle.std.proofs.Common.{◌≡◌}
use Rattle.base_lists.specs.Loops.{all_below}
use Rattle.part_boardwords.specs.Layout.{mark_at}
use Rattle.part_boardwords.specs.Words.{word_in, is_marked}
use Rattle.part_boardwords.proofs.reading.are_marked.Given as goal

abbrev pub invariant-loop-k : goal.invariant-loop-k
invariant-loop-k l = l.ok ≡ all_below (λ i. is_marked l.count i (word_in l.s (mark_at i))) l.k
