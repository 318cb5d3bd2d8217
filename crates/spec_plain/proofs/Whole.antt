-- Whole numbers as naturals. A whole number is its upper part less its lower part, one of them 0; so an order between whole numbers is
-- one between sums of naturals, which `omega` reads. Every proof about times goes over this bridge; no definition does.
--   up a, dn a     the upper and the lower part: a is up a − dn a
--   Below a b      a ≤ b, as omega reads it
--   below_of, of_below   the library's order is Below
--   sub_spec, add_spec, sum_spec   what the parts of p − q, a + p and a + b are, for naturals p, q and whole numbers a, b
--   whole_eq       equal differences, equal numbers
-- Assumes nothing.
use mathlib.Core.Path.{◌≡◌, refl, ap}
use mathlib.Core.Bool.{Bool, true, false, cond}
use Prim.Native.Nat.{ℕ, suc, ◌+◌, ◌-◌, ◌≤◌}
use native.Mathlib.Omega.{arith}
use lib.Dec.{ltb, leb→le, le→leb}
use lib.IntN.{ℤ, pos, negsuc, ◌+ℤ◌, sub_ℕ}
use lib.Signed.{◌≤ℤ◌}
use borrow.Author.Tests.{ltb-true, ltb-false}

abbrev pub up : ℤ → ℕ
up (pos n) = n
up (negsuc n) = 0

abbrev pub dn : ℤ → ℕ
dn (pos n) = 0
dn (negsuc n) = suc n

abbrev pub Below : ℤ → ℤ → Type 0
Below a b = up a + dn b ≤ up b + dn a

pub below_of : (a b : ℤ) → a ≤ℤ b → Below a b
below_of (pos m) (pos n) h = omega (arith, leb→le m n h.le)
below_of (pos m) (negsuc n) h = absurd h.le
below_of (negsuc m) (pos n) h = omega arith
below_of (negsuc m) (negsuc n) h = omega (arith, leb→le n m h.le)

pub of_below : (a b : ℤ) → Below a b → a ≤ℤ b
of_below (pos m) (pos n) h = record { le = le→leb m n (omega arith) }
of_below (pos m) (negsuc n) h = absurd (omega arith)
of_below (negsuc m) (pos n) h = record { le = tt }
of_below (negsuc m) (negsuc n) h = record { le = le→leb n m (omega arith) }

-- the library's p − q asks whether p < q: either answer gives the same equation
difference :
    (b : Bool) (p q : ℕ) → ltb p q ≡ b
    → let d : ℤ = cond b (negsuc (q - suc p)) (pos (p - q)) in up d + q ≡ p + dn d
difference true p q e = omega (arith, ltb-true p q e)
difference false p q e = omega (arith, ltb-false p q e)

pub sub_spec : (p q : ℕ) → up (sub_ℕ p q) + q ≡ p + dn (sub_ℕ p q)
sub_spec p q = difference (ltb p q) p q refl

pub add_spec : (a : ℤ) (p : ℕ) → up (a +ℤ pos p) + dn a ≡ up a + p + dn (a +ℤ pos p)
add_spec (pos n) p = omega arith
add_spec (negsuc n) p = omega (arith, sub_spec p (suc n))

pub sum_spec : (a b : ℤ) → up (a +ℤ b) + dn a + dn b ≡ up a + up b + dn (a +ℤ b)
sum_spec (pos m) (pos n) = omega arith
sum_spec (pos m) (negsuc n) = omega (arith, sub_spec m (suc n))
sum_spec (negsuc m) (pos n) = omega (arith, sub_spec n (suc m))
sum_spec (negsuc m) (negsuc n) = omega arith

pub whole_eq : (a b : ℤ) → up a + dn b ≡ up b + dn a → a ≡ b
whole_eq (pos m) (pos n) h = ap pos (omega arith)
whole_eq (pos m) (negsuc n) h = absurd (omega arith)
whole_eq (negsuc m) (pos n) h = absurd (omega arith)
whole_eq (negsuc m) (negsuc n) h = ap negsuc (omega arith)
