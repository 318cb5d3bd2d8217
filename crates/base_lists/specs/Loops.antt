-- What a loop over a slice leaves behind, as a function on lists. A loop's invariant is such a function at the number of turns made, and
-- its contract the same at the end.
--   build f n           f 0, .., f (n - 1): an array that was filled
--   rewritten f l p q   l with f k at each place k from p on and before q: a slice that was written to
--   all_below f n        whether f holds of each k below n: a flag that was kept
use Rattle.std.specs.Prelude.{Bool, true, cond, ◌&&◌, List, [], ◌∷◌, ◌++◌, ℕ, zero, suc, leb, ltb, length, get_or}

unfoldable pub build : {A : Type 0} → (ℕ → A) → ℕ → List A
build f zero = []
build f (suc n) = build f n ++ (f n ∷ [])

unfoldable pub rewritten : (ℕ → ℕ) → List ℕ → ℕ → ℕ → List ℕ
rewritten f l p q = build (λ k. cond (leb p k && ltb k q) (f k) (get_or l k 0)) (length l)

unfoldable pub all_below : (ℕ → Bool) → ℕ → Bool
all_below f zero = true
all_below f (suc n) = all_below f n && f n
