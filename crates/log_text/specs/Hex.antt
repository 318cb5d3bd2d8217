-- Bytes as hex: two lower-case digits for each byte, and `-` for no bytes. Assumes nothing.
--   digit_value b        the value of a hex digit, and 16 for any other byte;  digit_of b: the same, and none for any other byte
--   pair_at s k          byte k has two hex digits, of the values high_at s k and low_at s k
--   byte_at s k          the byte that they spell
--   bytes_to s n         the first n bytes
--   is_dash s            s is `-`
--   pairs_decoded s n    what decoding n pairs of s answers
--   hex_decoded s room   what decoding s into so much room answers
--   HoldsBytes s out r  what stands in the buffer after the answer r
--   pair_of b            the two digits of a byte
--   encoded_to s n       the hex of the first n bytes of s
--   encoded s           s as hex
use Rattle.std.specs.Prelude.{ℕ, zero, suc, ◌+◌, ◌-◌, ◌*◌, ◌/◌, ◌%◌, ◌≤◌, ◌≡◌, Bool, cond, ◌&&◌, List, [], ◌∷◌, ◌++◌, get_or, length, take, eqb, leb, ltb, Option, Some, None, Result, Ok, Err}
use Rattle.io.specs.Digits.{hex_digit_ascii}
use Rattle.base_lists.specs.Loops.{build, all_below}
use Rattle.log_text.specs.declared.hexadecimal.HexError.{HexError}
use Rattle.log_text.specs.declared.hexadecimal.HexError.TheVariants.{Empty, Odd, BadDigit, NoRoom}

unfoldable pub digit_value : ℕ → ℕ
digit_value b =
    cond (ltb b 48) 16
    (cond (leb b 57) (b - 48) (cond (ltb b 97) 16 (cond (leb b 102) (b - 87) 16)))

abbrev pub digit_of : ℕ → Option ℕ
digit_of b = cond (leb (digit_value b) 15) (Some (digit_value b)) None

-- the values of the two digits of byte k
abbrev pub high_at : List ℕ → ℕ → ℕ
high_at s k = digit_value (get_or s (2 * k) 0)

abbrev pub low_at : List ℕ → ℕ → ℕ
low_at s k = digit_value (get_or s (2 * k + 1) 0)

abbrev pub pair_at : List ℕ → ℕ → Bool
pair_at s k = leb (high_at s k) 15 && leb (low_at s k) 15

abbrev pub byte_at : List ℕ → ℕ → ℕ
byte_at s k = high_at s k * 16 + low_at s k

abbrev pub bytes_to : List ℕ → ℕ → List ℕ
bytes_to s n = build (byte_at s) n

unfoldable pub is_dash : List ℕ → Bool
is_dash s = eqb (length s) 1 && eqb (get_or s 0 0) 45

unfoldable pub pairs_decoded : List ℕ → ℕ → Result ℕ HexError
pairs_decoded s n = cond (all_below (pair_at s) n) (Ok n) (Err BadDigit)

unfoldable pub hex_decoded : List ℕ → ℕ → Result ℕ HexError
hex_decoded s room =
    cond (is_dash s) (Ok 0)
    (cond (eqb (length s) 0) (Err Empty)
    (cond (eqb (length s % 2) 1) (Err Odd)
    (cond (ltb room (length s / 2)) (Err NoRoom) (pairs_decoded s (length s / 2)))))

abbrev pub HoldsBytes : List ℕ → List ℕ → Result ℕ HexError → Type 0
HoldsBytes s out (Ok n) = (n ≤ length out) × (take n out ≡ bytes_to s n)
HoldsBytes s out (Err e) = Unit {0}

abbrev pub pair_of : ℕ → List ℕ
pair_of b = hex_digit_ascii (b / 16 % 16) ∷ hex_digit_ascii (b % 16) ∷ []

unfoldable pub encoded_to : List ℕ → ℕ → List ℕ
encoded_to s zero = []
encoded_to s (suc n) = encoded_to s n ++ pair_of (get_or s n 0)

unfoldable pub encoded : List ℕ → List ℕ
encoded s = cond (eqb (length s) 0) (45 ∷ []) (encoded_to s (length s))
