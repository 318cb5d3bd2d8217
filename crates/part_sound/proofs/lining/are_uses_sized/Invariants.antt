-- The uses passed are sized, or the flag says that one isn't.
use Rattle.std.proofs.Common.{◌≡◌}
use Rattle.base_lists.specs.Loops.{all_below}
use Rattle.part_boardwords.specs.Words.{word_in, use_at}
use Rattle.part_sound.specs.Sound.{sized_use}
use Rattle.part_sound.proofs.lining.are_uses_sized.Given as goal

abbrev pub invariant-loop-k : goal.invariant-loop-k
invariant-loop-k l = l.ok ≡ all_below (λ i. sized_use l.n (use_at (word_in l.w) l.at i)) l.k
