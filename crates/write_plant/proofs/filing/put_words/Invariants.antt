-- After k turns the first k numbers are stored.
use Rattle.std.proofs.Common.{◌≡◌, get_or}
use Rattle.std.proofs.lemmas.List.Edits.{sets}
use Rattle.base_words.specs.Word.{u32s}
use Rattle.base_lists.specs.Loops.{build}
use Rattle.write_plant.proofs.filing.put_words.Given as goal

abbrev pub invariant-loop-k : goal.invariant-loop-k
invariant-loop-k l = l.s ≡ sets l.initial.s l.at (u32s (build (λ i. get_or l.ns i 0) l.k))
