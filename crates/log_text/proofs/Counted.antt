-- Laws of counting. Assumes nothing.
--   count_none, count_more   the start; a turn
--   count_step               a turn that adds a test's 1 or 0, which is small (byte_small)
use Rattle.std.proofs.Common.{ℕ, ◌+◌, ◌≤◌, ◌≡◌, refl, Bool, true, false, cond, arith, add-one}
use mir.Val.{bool_byte}
use Rattle.log_text.specs.Counted.{count_below}

pub count_none : (f : ℕ → Bool) → count_below f 0 ≡ 0
unfolding count_below
count_none f = refl

pub count_more : (f : ℕ → Bool) (n : ℕ) → count_below f (n + 1) ≡ count_below f n + cond (f n) 1 0
unfolding count_below
count_more f n = rw add-one

-- a turn that adds a test's 1 or 0
pub count_step : (f : ℕ → Bool) (n m : ℕ) → m ≡ count_below f n → m + bool_byte (f n) ≡ count_below f (n + 1)
count_step f n m e = rw (count_more f n, e, byte_is (f n))
  where
    byte_is : (b : Bool) → bool_byte b ≡ cond b 1 0
    byte_is true = refl
    byte_is false = refl

pub byte_small : (b : Bool) → bool_byte b ≤ 1
byte_small true = omega arith
byte_small false = omega arith
