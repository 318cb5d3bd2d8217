-- The pairs passed are hex digits, and the buffer begins with their bytes.
use Rattle.std.proofs.Common.{◌≡◌, true, take}
use Rattle.base_lists.specs.Loops.{all_below}
use Rattle.log_text.specs.Hex.{bytes_to, pair_at}
use Rattle.log_text.proofs.hexadecimal.decode_pairs.Given as goal

abbrev pub invariant-loop-i : goal.invariant-loop-i
invariant-loop-i l = (all_below (pair_at l.s) l.i ≡ true) × (take l.i l.out ≡ bytes_to l.s l.i)
