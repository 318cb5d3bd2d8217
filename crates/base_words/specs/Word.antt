-- Numbers in byte slices (document 01: "All fields are u32, low byte first"). A slice is the list of its bytes.
--   Bytes s     each element of s is a byte, as every slice of u8 is
--   word s at   the u32 whose low byte is at place `at`; a byte past the end counts as 0, and no reader looks there
--   u32 n       the four bytes of n, low byte first;  u32s ns: of several numbers, one after the other
use Rattle.std.specs.Prelude.{ℕ, ◌+◌, ◌*◌, ◌/◌, ◌%◌, ◌<◌, List, [], ◌∷◌, ◌++◌, get_or}

abbrev pub Bytes : List ℕ → Type 0
Bytes s = (i : ℕ) → get_or s i 0 < 256

unfoldable pub word : List ℕ → ℕ → ℕ
word s at = get_or s at 0 + 256 * get_or s (at + 1) 0 + 65536 * get_or s (at + 2) 0 + 16777216 * get_or s (at + 3) 0

abbrev pub u32 : ℕ → List ℕ
u32 n = n % 256 ∷ n / 256 % 256 ∷ n / 65536 % 256 ∷ n / 16777216 % 256 ∷ []

abbrev pub u32s : List ℕ → List ℕ
u32s [] = []
u32s (n ∷ ns) = u32 n ++ u32s ns
