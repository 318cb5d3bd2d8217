-- Laws of the number that the first bytes of a word spell. Assumes nothing.
--   value_none, value_more   no byte, and one byte more;  value_grows: more bytes spell no smaller number
--   no_digit, too_large      why a word is no number;  all_digits: when it is one
use Prim.Native.Nat.{ℕ, zero, suc, ◌+◌, ◌-◌, ◌*◌, ◌<◌, ◌≤◌}
use mathlib.Core.Path.{◌≡◌, refl}
use mathlib.Core.Bool.{Bool, true, false, and-false}
use mathlib.Core.List.{List}
use native.Mathlib.Numerals.{add-one}
use native.Mathlib.Omega.{arith}
use lib.ListN.{get_or, length}
use lib.Dec.{eqb}
use borrow.Author.Tests.{eqb-true, eqb-false, lt-leb, le-leb}
use Rattle.base_lists.specs.Loops.{all_below}
use Rattle.base_lists.proofs.AllBelow.{all_below_fails}
use Rattle.log_text.specs.Decimal.{digit_at, digits_read, is_digit, value_to}
use Rattle.std.specs.Prelude.{Some, None}

pub value_none : (s : List ℕ) → value_to s 0 ≡ 0
unfolding value_to
value_none s = refl

pub value_more : (s : List ℕ) (n : ℕ) → value_to s (n + 1) ≡ value_to s n * 10 + (get_or s n 0 - 48)
unfolding value_to
value_more s n = rw add-one

-- more bytes spell no smaller number
pub value_grows : (s : List ℕ) (m n : ℕ) → m ≤ n → value_to s m ≤ value_to s n
unfolding value_to
value_grows s m zero h = rw (zero_is m h) (omega arith)
  where
    zero_is : (k : ℕ) → k ≤ 0 → k ≡ 0
    zero_is k l = omega arith
value_grows s m (suc n) h = go (λ l. value_grows s m n l) (eqb m (suc n)) refl
  where
    go : (m ≤ n → value_to s m ≤ value_to s n) → (q : Bool) → eqb m (suc n) ≡ q → value_to s m ≤ value_to s n * 10 + (get_or s n 0 - 48)
    go ih true e = rw (eqb-true m (suc n) e) (omega arith)
    go ih false e = omega (arith, ih (omega (arith, eqb-false m (suc n) e)))

-- a byte that is no digit
pub no_digit : (s : List ℕ) (k : ℕ) → k < length s → is_digit (get_or s k 0) ≡ false → None ≡ digits_read s
unfolding digits_read
no_digit s k h e = rw (← all_below_fails (digit_at s) (length s) k h e)

-- a first part that already spells too large a number
pub too_large : (s : List ℕ) (n : ℕ) → n ≤ length s → 4294967295 < value_to s n → None ≡ digits_read s
unfolding digits_read
too_large s n h e =
    rw (lt-leb (value_to s (length s)) 4294967295 (omega (arith, value_grows s n (length s) h)), and-false (all_below (digit_at s) (length s)))

pub all_digits : (s : List ℕ) → all_below (digit_at s) (length s) ≡ true → value_to s (length s) ≤ 4294967295 → Some (value_to s (length s)) ≡ digits_read s
unfolding digits_read
all_digits s e h = rw (e, le-leb (value_to s (length s)) 4294967295 h)
