-- Uses that were moved to the front where they lie, in words.
--   Thinned w x at n us   the words x are w, but for the first n uses of the line at word `at`: there the uses us stand at the front, any words
--                         behind
use Rattle.std.specs.Prelude.{ℕ, ◌≤◌, ◌<◌, ◌≡◌, List, length, get_or}
use Rattle.spec_plain.specs.declared.Use.{Use}
use Rattle.spec_plain.specs.Plain.{no_use}
use Rattle.part_boardwords.specs.Layout.{use_start}
use Rattle.part_boardwords.specs.Words.{word_in, use_at}

pub record Thinned (w x : List ℕ) (at n : ℕ) (us : List Use) : Type 0 where
  -- the uses, one by one
  pub uses : (i : ℕ) → i < length us → use_at (word_in x) at i ≡ get_or us i no_use
  -- the words before the first use, the line's count among them
  pub before : (k : ℕ) → k < use_start at 0 → word_in x k ≡ word_in w k
  -- and those of the uses that come later
  pub behind : (k : ℕ) → use_start at n ≤ k → word_in x k ≡ word_in w k
