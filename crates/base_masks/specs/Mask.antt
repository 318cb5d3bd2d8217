-- Sets of facts in a u32 (document 01: "mask"): bit k stands for fact k.
-- The operations are those of the machine; proofs/MaskLaws says fact by fact, by `has` alone, what each of them is, and all else is
-- proved from those laws.
--   has m k      fact k is in the mask m;  bit k: the mask of fact k alone
--   share a b    some fact is in both
--   join a b     the facts of either
--   strike a b   the facts of a that are not in b
--   lowest a     the lowest fact of a, and 32 where it has none
use Rattle.std.specs.Prelude.{ℕ, ◌/◌, ◌%◌, ◌^◌, Bool, not, eqb}
use Rattle.std.specs.Int.Bits.{bit_and, bit_or, bit_xor}
use Rattle.std.specs.Int.Count.{count_trailing_zeros}

abbrev pub bit : ℕ → ℕ → ℕ
bit m k = m / 2 ^ k % 2

unfoldable pub has : ℕ → ℕ → Bool
has m k = eqb (bit m k) 1

unfoldable pub share : ℕ → ℕ → Bool
share a b = not (eqb (bit_and a b) 0)

unfoldable pub join : ℕ → ℕ → ℕ
join a b = bit_or a b

unfoldable pub strike : ℕ → ℕ → ℕ
strike a b = bit_xor a (bit_and a b)

unfoldable pub lowest : ℕ → ℕ
lowest a = count_trailing_zeros 32 a
