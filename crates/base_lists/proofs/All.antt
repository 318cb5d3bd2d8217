-- Laws of what holds of each element of a list. Assumes nothing.
--   all_at, all_from   element by element;  all_get: past the end what stands there
--   all_append         of two lists, one after the other
--   all_map            one statement for another
--   all_set            an element put in the place of another
use Prim.Native.Nat.{ℕ, zero, suc, ◌<◌}
use mathlib.Core.List.{List, [], ◌∷◌, ◌++◌}
use native.Mathlib.Omega.{arith}
use lib.ListN.{length, get_or, set}
use Rattle.base_lists.specs.All.{All}

module _ {A : Type 0} (P : A → Type 0) where
  pub all_at : (l : List A) (z : A) → All P l → (k : ℕ) → k < length l → P (get_or l k z)
  all_at [] z p k h = absurd (omega arith)
  all_at (a ∷ l) z p zero h = p.0
  all_at (a ∷ l) z p (suc k) h = all_at l z p.1 k (omega arith)

  pub all_from : (l : List A) (z : A) → ((k : ℕ) → k < length l → P (get_or l k z)) → All P l
  all_from [] z h = tt
  all_from (a ∷ l) z h = (h zero (omega arith), all_from l z (λ k lt. h (suc k) (omega arith)))

  pub all_get : (l : List A) (k : ℕ) (z : A) → All P l → P z → P (get_or l k z)
  all_get [] k z p q = q
  all_get (a ∷ l) zero z p q = p.0
  all_get (a ∷ l) (suc k) z p q = all_get l k z p.1 q

  pub all_append : (l m : List A) → All P l → All P m → All P (l ++ m)
  all_append [] m p q = q
  all_append (a ∷ l) m p q = (p.0, all_append l m p.1 q)

  pub all_set : (l : List A) (k : ℕ) (a : A) → All P l → P a → All P (set l k a)
  all_set [] k a p q = tt
  all_set (b ∷ l) zero a p q = (q, p.1)
  all_set (b ∷ l) (suc k) a p q = (p.0, all_set l k a p.1 q)

pub all_map : {A : Type 0} (P Q : A → Type 0) → ((a : A) → P a → Q a) → (l : List A) → All P l → All Q l
all_map P Q f [] p = tt
all_map P Q f (a ∷ l) p = (f a p.0, all_map P Q f l p.1)
