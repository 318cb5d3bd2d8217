-- A use put into a list.
--   inserted_below, inserted_here, inserted_behind   what stands before its place, at it, and behind it
--   inserted_short                                   where the others are Short and it is, all are
use Prim.Native.Nat.{ℕ, zero, suc, ◌≤◌, ◌<◌}
use mathlib.Core.Path.{◌≡◌, refl}
use mathlib.Core.List.{List, [], ◌∷◌}
use lib.ListN.{length, get_or}
use native.Mathlib.Omega.{arith}
use Rattle.spec_plain.specs.Plain.{no_use, inserted}
use Rattle.spec_plain.specs.declared.Use.{Use}
use Rattle.part_lines.specs.Asked.{Short, AllShort}

module _ (u : Use) where
  pub inserted_below : (l : List Use) (p k : ℕ) → k < p → p ≤ length l → get_or (inserted p u l) k no_use ≡ get_or l k no_use
  unfolding inserted
  inserted_below l zero k h hl = absurd (omega arith)
  inserted_below [] (suc p) k h hl = absurd (omega arith)
  inserted_below (b ∷ l) (suc p) zero h hl = refl
  inserted_below (b ∷ l) (suc p) (suc k) h hl = inserted_below l p k (omega arith) (omega arith)

  pub inserted_here : (l : List Use) (p : ℕ) → p ≤ length l → get_or (inserted p u l) p no_use ≡ u
  unfolding inserted
  inserted_here l zero hl = refl
  inserted_here [] (suc p) hl = absurd (omega arith)
  inserted_here (b ∷ l) (suc p) hl = inserted_here l p (omega arith)

  pub inserted_behind : (l : List Use) (p k : ℕ) → p ≤ k → p ≤ length l → get_or (inserted p u l) (suc k) no_use ≡ get_or l k no_use
  unfolding inserted
  inserted_behind l zero k h hl = refl
  inserted_behind [] (suc p) k h hl = absurd (omega arith)
  inserted_behind (b ∷ l) (suc p) zero h hl = absurd (omega arith)
  inserted_behind (b ∷ l) (suc p) (suc k) h hl = inserted_behind l p k (omega arith) (omega arith)

pub inserted_short : (l : List Use) (p : ℕ) (u : Use) → Short u → AllShort l → AllShort (inserted p u l)
unfolding inserted
inserted_short l zero u s all zero = s
inserted_short l zero u s all (suc k) = all k
inserted_short [] (suc p) u s all zero = s
inserted_short [] (suc p) u s all (suc k) = all k
inserted_short (b ∷ l) (suc p) u s all zero = all zero
inserted_short (b ∷ l) (suc p) u s all (suc k) = inserted_short l p u s (λ i. all (suc i)) k
