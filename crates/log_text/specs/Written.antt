-- Writing into a buffer at a place. Assumes nothing.
--   Written before at s after end   s was written into `before` at `at`, as much of it as there is room for:
--                                   the buffer is then `after`, and `end` is the place past what was written
--   start_at, fitting                where writing at `at` begins, and how many bytes of s there is room for
--   WrittenNumber before at n ..    the same of the decimal digits of n
use Rattle.std.specs.Prelude.{ℕ, ◌+◌, ◌-◌, min, ◌≡◌, List, length}
use Rattle.std.proofs.Math.Seq.{paste}
use Rattle.io.specs.Digits.{last_digits, IsDigitCount}

-- a place past the end counts as the end
unfoldable pub start_at : List ℕ → ℕ → ℕ
start_at before at = min at (length before)

-- how many bytes of s there is room for
unfoldable pub fitting : List ℕ → ℕ → List ℕ → ℕ
fitting before at s = min (length s) (length before - start_at before at)

pub record Written (before : List ℕ) (at : ℕ) (s after : List ℕ) (end : ℕ) : Type 0 where
  pub place : end ≡ start_at before at + fitting before at s
  pub bytes : after ≡ paste before (start_at before at) s (fitting before at s)

pub record WrittenNumber (before : List ℕ) (at n : ℕ) (after : List ℕ) (end : ℕ) : Type 0 where
  -- how many digits there are: the fewest that hold n
  pub count : ℕ
  pub fewest : IsDigitCount 10 1 n count
  pub written : Written before at (last_digits 10 count n) after end
