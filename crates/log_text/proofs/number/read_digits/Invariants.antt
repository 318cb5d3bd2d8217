-- The bytes passed are digits, and value, which fits 32 bits, is what they spell.
use Rattle.std.proofs.Common.{◌≡◌, ◌≤◌, true}
use Rattle.base_lists.specs.Loops.{all_below}
use Rattle.log_text.specs.Decimal.{digit_at, value_to}
use Rattle.log_text.proofs.number.read_digits.Given as goal

abbrev pub invariant-loop-b : goal.invariant-loop-b
invariant-loop-b l =
    (l.value ≤ 4294967295) × (l.value ≡ value_to l.s l.b-index) × (all_below (digit_at l.s) l.b-index ≡ true)
