-- Where a byte stands first. Assumes nothing.
--   index_of x s   the place of the first x in s, or the length where there is none
--   first_of x s   the same, and none where there is none
use Rattle.std.specs.Prelude.{ℕ, List, eqb, ltb, length, cond, Option, Some, None}
use Rattle.std.specs.List.{position_or_len}

abbrev pub index_of : ℕ → List ℕ → ℕ
index_of x s = position_or_len (λ b. eqb b x) s

abbrev pub first_of : ℕ → List ℕ → Option ℕ
first_of x s = cond (ltb (index_of x s) (length s)) (Some (index_of x s)) None
