-- The first cell that differs, in two tables of as many cells: laws of `first_difference`.
--   Alike l m k             the cells before place k are equal
--   alike_none, alike_next  no cell yet; one cell more
--   first_at, first_none    the place that the loop stops at, and the number of cells where it comes to the end
--   first_within            it is no more than the number of cells
--   first_least             the cells before it are equal, and those at it differ
--   first_same, same_first  it is the number of cells exactly when the tables are equal
use Prim.Native.Nat.{ℕ, zero, suc, ◌+◌, ◌≤◌, ◌<◌}
use mathlib.Core.Bool.{Bool, true, false, cond}
use mathlib.Core.List.{List, [], ◌∷◌}
use mathlib.Core.Path.{◌≡◌, refl, sym, ap}
use native.Mathlib.Decide.{dec_lt}
use native.Mathlib.Omega.{arith}
use lib.Dec.{eqb}
use lib.ListN.{length, get_or}
use borrow.Author.Tests.{eqb-true, eqb-false, eq-eqb, ne_eqb}
use Rattle.log_tables.specs.Compared.{first_difference}

abbrev pub Alike : List ℕ → List ℕ → ℕ → Type 0
Alike l m k = (i : ℕ) → i < k → get_or l i 0 ≡ get_or m i 0

pub alike_none : (l m : List ℕ) → Alike l m 0
alike_none l m i h = absurd (omega arith)

pub alike_next : (l m : List ℕ) (k n : ℕ) → Alike l m k → get_or l k 0 ≡ get_or m k 0 → n ≡ k + 1 → Alike l m n
alike_next l m k n a e next i h = go (dec_lt i k)
  where
    go : Dec (i < k) → get_or l i 0 ≡ get_or m i 0
    go (yes lt) = a i lt
    go (no ge) = let s : i ≡ k = omega arith in rw s e

pub first_at :
    (l m : List ℕ) (k : ℕ) → length l ≡ length m → k < length l → Alike l m k → (get_or l k 0 ≡ get_or m k 0 → ⊥) → k ≡ first_difference l m
unfolding first_difference
first_at [] m k e h a d = absurd (omega arith)
first_at (x ∷ l) [] k e h a d = absurd (omega (arith, e))
first_at (x ∷ l) (y ∷ m) zero e h a d = rw (ne_eqb x y d)
first_at (x ∷ l) (y ∷ m) (suc k) e h a d =
    rw (eq-eqb x y (a 0 (omega arith))) (ap suc (first_at l m k (omega (arith, e)) (omega arith) (λ i lt. a (suc i) (omega arith)) d))

pub first_none : (l m : List ℕ) → length l ≡ length m → Alike l m (length l) → length l ≡ first_difference l m
unfolding first_difference
first_none [] m e a = refl
first_none (x ∷ l) [] e a = absurd (omega (arith, e))
first_none (x ∷ l) (y ∷ m) e a =
    rw (eq-eqb x y (a 0 (omega arith))) (ap suc (first_none l m (omega (arith, e)) (λ i lt. a (suc i) (omega arith))))

pub first_within : (l m : List ℕ) → first_difference l m ≤ length l
unfolding first_difference
first_within [] m = omega arith
first_within (x ∷ l) [] = omega arith
first_within (x ∷ l) (y ∷ m) = go (eqb x y) (first_difference l m) (first_within l m)
  where
    go : (b : Bool) (k : ℕ) → k ≤ length l → cond b (suc k) 0 ≤ suc (length l)
    go true k h = omega arith
    go false k h = omega arith

pub first_least :
    (l m : List ℕ) → length l ≡ length m → first_difference l m < length l
    → Alike l m (first_difference l m) × (get_or l (first_difference l m) 0 ≡ get_or m (first_difference l m) 0 → ⊥)
unfolding first_difference
first_least [] m e h = absurd (omega arith)
first_least (x ∷ l) [] e h = absurd (omega (arith, e))
first_least (x ∷ l) (y ∷ m) e h = go (eqb x y) refl (first_difference l m) (first_least l m (omega (arith, e))) h
  where
    Least : List ℕ → List ℕ → ℕ → Type 0
    Least l m k = Alike l m k × (get_or l k 0 ≡ get_or m k 0 → ⊥)

    go : (b : Bool) → eqb x y ≡ b → (k : ℕ) → (k < length l → Least l m k) → cond b (suc k) 0 < suc (length l)
        → Least (x ∷ l) (y ∷ m) (cond b (suc k) 0)
    go true q k rest h = (later (rest (omega arith)).0, (rest (omega arith)).1)
      where
        later : Alike l m k → Alike (x ∷ l) (y ∷ m) (suc k)
        later a zero lt = eqb-true x y q
        later a (suc i) lt = a i (omega arith)
    go false q k rest h = (alike_none (x ∷ l) (y ∷ m), eqb-false x y q)

pub first_same : (l m : List ℕ) → length l ≡ length m → l ≡ m → first_difference l m ≡ length l
first_same l m e s = sym (first_none l m e (λ i h. ap (λ (t : List ℕ). get_or t i 0) s))

pub same_first : (l m : List ℕ) → length l ≡ length m → first_difference l m ≡ length l → l ≡ m
unfolding first_difference
same_first [] [] e s = refl
same_first [] (y ∷ m) e s = absurd (omega (arith, e))
same_first (x ∷ l) [] e s = absurd (omega (arith, e))
same_first (x ∷ l) (y ∷ m) e s = go (eqb x y) refl (first_difference l m) (same_first l m (omega (arith, e))) s
  where
    go : (b : Bool) → eqb x y ≡ b → (k : ℕ) → (k ≡ length l → l ≡ m) → cond b (suc k) 0 ≡ suc (length l) → (x ∷ l) ≡ (y ∷ m)
    go true q k rest h = let t = rest (omega (arith, h)) in λ i. eqb-true x y q i ∷ t i
    go false q k rest h = absurd (omega (arith, h))
