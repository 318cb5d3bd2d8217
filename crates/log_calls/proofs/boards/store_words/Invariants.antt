-- After k turns the first k words are those of the bytes, and the others as they were.
use Rattle.std.proofs.Common.{◌≡◌}
use Rattle.base_lists.specs.Loops.{rewritten}
use Rattle.log_calls.specs.Bytes.{word_at}
use Rattle.log_calls.proofs.boards.store_words.Given as goal

abbrev pub invariant-loop-k : goal.invariant-loop-k
invariant-loop-k l = l.w ≡ rewritten (word_at l.bytes) l.fn.w 0 l.k
