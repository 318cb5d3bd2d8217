-- Laws of pairs of hex digits. Assumes nothing.
--   bad_high, bad_low        a pair whose first or second byte is no digit
--   pair_more, byte_more     a good pair more, and its byte in the buffer;  all_pairs: all are good
--   encoded_none, encoded_more   pairs written one after the other;  pair_written: what `{:02x}` writes of a byte
use Rattle.std.proofs.Common.{ℕ, ◌≡◌, refl, ◌+◌, ◌*◌, ◌%◌, ◌/◌, ◌<◌, Bool, true, false, cond, List, [], ◌++◌, length, get_or, take, add-one, arith}
use Rattle.std.specs.Prelude.{Some, None, Ok, Err, leb}
use Rattle.std.proofs.lemmas.Fmt.{hex_byte}
use Rattle.std.specs.Fmt.{digits, format_spec, padded_integral}
use mathlib.Core.Bool.{and-false}
use lib.ListN.{set}
use lib.Seq.{take-suc-set}
use Rattle.base_lists.specs.Loops.{all_below}
use Rattle.base_lists.proofs.Build.{build_more}
use Rattle.base_lists.proofs.AllBelow.{all_below_passes, all_below_fails}
use Rattle.log_text.specs.Hex.{byte_at, bytes_to, digit_of, digit_value, encoded_to, high_at, pair_at, pair_of, pairs_decoded}
use Rattle.log_text.specs.declared.hexadecimal.HexError.TheVariants.{BadDigit}

none_is : (b : ℕ) → digit_of b ≡ None → leb (digit_value b) 15 ≡ false
none_is b e = go (leb (digit_value b) 15) e
  where
    go : (q : Bool) → cond q (Some (digit_value b)) None ≡ None → q ≡ false
    go true f = cc
    go false f = refl

some_is : (b v : ℕ) → digit_of b ≡ Some v → (leb (digit_value b) 15 ≡ true) × (v ≡ digit_value b)
some_is b v e = go (leb (digit_value b) 15) e
  where
    go : (q : Bool) → cond q (Some (digit_value b)) None ≡ Some v → (q ≡ true) × (v ≡ digit_value b)
    go true f = (refl, cc)
    go false f = absurd cc

pub bad_high : (s : List ℕ) (n k : ℕ) → k < n → digit_of (get_or s (2 * k) 0) ≡ None → Err BadDigit ≡ pairs_decoded s n
unfolding pairs_decoded
bad_high s n k h e = rw (← all_below_fails (pair_at s) n k h (rw (none_is (get_or s (2 * k) 0) e)))

pub bad_low : (s : List ℕ) (n k : ℕ) → k < n → digit_of (get_or s (2 * k + 1) 0) ≡ None → Err BadDigit ≡ pairs_decoded s n
unfolding pairs_decoded
bad_low s n k h e =
    rw (← all_below_fails (pair_at s) n k h (rw (none_is (get_or s (2 * k + 1) 0) e, and-false (leb (high_at s k) 15))))

pub pair_more :
    (s : List ℕ) (k a b : ℕ) → all_below (pair_at s) k ≡ true → digit_of (get_or s (2 * k) 0) ≡ Some a → digit_of (get_or s (2 * k + 1) 0) ≡ Some b
    → all_below (pair_at s) (k + 1) ≡ true
pair_more s k a b e f g =
    all_below_passes (pair_at s) k e (rw ((some_is (get_or s (2 * k) 0) a f).0, (some_is (get_or s (2 * k + 1) 0) b g).0))

pub byte_more :
    (s out : List ℕ) (k a b : ℕ) → k < length out → take k out ≡ bytes_to s k → digit_of (get_or s (2 * k) 0) ≡ Some a → digit_of (get_or s (2 * k + 1) 0) ≡ Some b
    → take (k + 1) (set out k (a * 16 + b)) ≡ bytes_to s (k + 1)
byte_more s out k a b h e f g =
    rw (
      build_more (byte_at s) k,
      add-one k,
      take-suc-set out k (a * 16 + b) h,
      e,
      (some_is (get_or s (2 * k) 0) a f).1,
      (some_is (get_or s (2 * k + 1) 0) b g).1,
    )

pub all_pairs : (s : List ℕ) (n : ℕ) → all_below (pair_at s) n ≡ true → Ok n ≡ pairs_decoded s n
unfolding pairs_decoded
all_pairs s n e = rw e

pub encoded_none : (s : List ℕ) → encoded_to s 0 ≡ []
unfolding encoded_to
encoded_none s = refl

pub encoded_more : (s : List ℕ) (n : ℕ) → encoded_to s (n + 1) ≡ encoded_to s n ++ pair_of (get_or s n 0)
unfolding encoded_to
encoded_more s n = rw add-one

pub pair_written : (b : ℕ) → b < 256 → padded_integral (format_spec 32 0 4 2 18446744073709551615) false [] (digits 16 false b) ≡ pair_of b
pair_written b small =
    let high : b / 16 % 16 ≡ b / 16 = omega arith in
    rw high (hex_byte false b small)
