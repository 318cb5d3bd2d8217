-- Decimal numbers as text: which bytes spell a number, and which number. Assumes nothing.
--   is_digit b       b is one of `0` to `9`
--   digit_at s k     byte k of s is a digit
--   value_to s n     the number that the first n bytes of s spell
--   digits_read s    the number that the bytes of s spell, where all are digits and it fits 32 bits
--   zero_led s       s has a zero in front of other bytes
--   number_read s    s as a number: neither empty nor with a zero in front
use Rattle.std.specs.Prelude.{ℕ, zero, suc, ◌+◌, ◌-◌, ◌*◌, Bool, cond, ◌&&◌, List, get_or, length, eqb, leb, ltb, Option, Some, None}
use Rattle.base_lists.specs.Loops.{all_below}

unfoldable pub is_digit : ℕ → Bool
is_digit b = leb 48 b && leb b 57

abbrev pub digit_at : List ℕ → ℕ → Bool
digit_at s k = is_digit (get_or s k 0)

unfoldable pub value_to : List ℕ → ℕ → ℕ
value_to s zero = 0
value_to s (suc n) = value_to s n * 10 + (get_or s n 0 - 48)

unfoldable pub digits_read : List ℕ → Option ℕ
digits_read s =
    cond (all_below (digit_at s) (length s) && leb (value_to s (length s)) 4294967295)
    (Some (value_to s (length s)))
    None

unfoldable pub zero_led : List ℕ → Bool
zero_led s = ltb 1 (length s) && eqb (get_or s 0 0) 48

unfoldable pub number_read : List ℕ → Option ℕ
number_read s = cond (eqb (length s) 0) None (cond (zero_led s) None (digits_read s))
