-- What the operations on masks are, fact by fact. Assumes nothing.
-- The bits of a sum of powers are taken apart from below (`bit_zero`, `bit_suc`); a law of the library says what each operation does
-- to one bit, and `eqb_max`, `eqb_min`, `eqb_differ` read that off as Booleans.
--   has_join, has_strike   a fact of the joined or struck mask
--   share_false, apart     share a b ≡ false is: no fact is in both
--   no_fact, zero_none     a mask is 0 exactly when it has no fact
--   lowest_has, _least     lowest is a fact of the mask, and no lower one is
--   join_lt, strike_lt     the masks stay within 32 bits
use Prim.Native.Nat.{ℕ, zero, suc, ◌/◌, ◌%◌, ◌^◌, ◌<◌, min, max}
use mathlib.Core.Path.{◌≡◌, refl, sym, ap, ap₂, ◌∙◌, subst}
use mathlib.Core.Bool.{Bool, true, false, false≢true, not, ◌&&◌, ◌||◌}
use native.Mathlib.Omega.{arith}
use native.Mathlib.Nat.{pow-succ', div-div-eq-div-mul, div-one, lt_of_le_of_lt, zero-div}
use lib.Dec.{eqb}
use lib.Count.{count_trailing_zeros, under}
use lib.Arith.{bin_ind, lt-one}
use lib.Bits.{bit_and, bit_or, bit_xor, differ, and_shr, or_shr, xor_shr, and_step, or_step, xor_step, or_lt, xor_lt, and_le_l}
use borrow.Author.Tests.{eq-eqb, eqb-true, not-false}
use Rattle.base_masks.specs.Mask.{bit, has, share, join, strike, lowest}

bit_two : (a k : ℕ) → bit a k < 2
bit_two a k = omega arith

differ_two : (x y : ℕ) → x < 2 → y < 2 → differ x y < 2
differ_two zero y p q = q
differ_two (suc x) zero p q = p
differ_two (suc x) (suc y) p q = differ_two x y (omega arith) (omega arith)

and_bit : (a b k : ℕ) → bit (bit_and a b) k ≡ min (bit a k) (bit b k)
and_bit a b k = rw (and_shr a b k, and_step (a / 2 ^ k) (b / 2 ^ k)) (omega arith)

or_bit : (a b k : ℕ) → bit (bit_or a b) k ≡ max (bit a k) (bit b k)
or_bit a b k = rw (or_shr a b k, or_step (a / 2 ^ k) (b / 2 ^ k)) (omega arith)

xor_bit : (a b k : ℕ) → bit (bit_xor a b) k ≡ differ (bit a k) (bit b k)
xor_bit a b k =
    rw (xor_shr a b k, xor_step (a / 2 ^ k) (b / 2 ^ k)) (let l = differ_two (bit a k) (bit b k) (bit_two a k) (bit_two b k) in omega (arith, l))

-- bit by bit from below
bit_zero : (a : ℕ) → bit a 0 ≡ a % 2
bit_zero a = ap (λ (x : ℕ). x % 2) (div-one a)

bit_suc : (a k : ℕ) → bit a (suc k) ≡ bit (a / 2) k
bit_suc a k = ap (λ (x : ℕ). x % 2) (ap (λ (x : ℕ). a / x) (pow-succ' 2 k) ∙ sym (div-div-eq-div-mul a 2 (2 ^ k)))

-- ---- fact by fact

eqb_max : (x y : ℕ) → x < 2 → y < 2 → eqb (max x y) 1 ≡ (eqb x 1 || eqb y 1)
eqb_max zero zero p q = refl
eqb_max zero (suc zero) p q = refl
eqb_max zero (suc (suc y)) p q = absurd (omega arith)
eqb_max (suc zero) zero p q = refl
eqb_max (suc zero) (suc zero) p q = refl
eqb_max (suc zero) (suc (suc y)) p q = absurd (omega arith)
eqb_max (suc (suc x)) y p q = absurd (omega arith)

eqb_min : (x y : ℕ) → x < 2 → y < 2 → eqb (min x y) 1 ≡ (eqb x 1 && eqb y 1)
eqb_min zero zero p q = refl
eqb_min zero (suc zero) p q = refl
eqb_min zero (suc (suc y)) p q = absurd (omega arith)
eqb_min (suc zero) zero p q = refl
eqb_min (suc zero) (suc zero) p q = refl
eqb_min (suc zero) (suc (suc y)) p q = absurd (omega arith)
eqb_min (suc (suc x)) y p q = absurd (omega arith)

-- the facts of either
pub has_join : (a b k : ℕ) → has (join a b) k ≡ (has a k || has b k)
unfolding has join
has_join a b k = ap (λ (x : ℕ). eqb x 1) (or_bit a b k) ∙ eqb_max (bit a k) (bit b k) (bit_two a k) (bit_two b k)

-- the facts of both
has_and : (a b k : ℕ) → has (bit_and a b) k ≡ (has a k && has b k)
unfolding has
has_and a b k = ap (λ (x : ℕ). eqb x 1) (and_bit a b k) ∙ eqb_min (bit a k) (bit b k) (bit_two a k) (bit_two b k)

-- the facts of a that are not in b
eqb_differ : (x y : ℕ) → x < 2 → y < 2 → eqb (differ x (min x y)) 1 ≡ (eqb x 1 && not (eqb y 1))
eqb_differ zero zero p q = refl
eqb_differ zero (suc zero) p q = refl
eqb_differ zero (suc (suc y)) p q = absurd (omega arith)
eqb_differ (suc zero) zero p q = refl
eqb_differ (suc zero) (suc zero) p q = refl
eqb_differ (suc zero) (suc (suc y)) p q = absurd (omega arith)
eqb_differ (suc (suc x)) y p q = absurd (omega arith)

pub has_strike : (a b k : ℕ) → has (strike a b) k ≡ (has a k && not (has b k))
unfolding has strike
has_strike a b k =
    ap (λ (x : ℕ). eqb x 1) (xor_bit a (bit_and a b) k ∙ ap (differ (bit a k)) (and_bit a b k))
    ∙ eqb_differ (bit a k) (bit b k) (bit_two a k) (bit_two b k)

-- a number with no bit is 0
no_bit : (a : ℕ) → ((k : ℕ) → bit a k ≡ 0) → a ≡ 0
no_bit =
    bin_ind (λ (n : ℕ). ((k : ℕ) → bit n k ≡ 0) → n ≡ 0) (λ h. refl)
    (λ n ih h.
    let e : n / 2 ≡ 0 = ih (λ k. sym (bit_suc n k) ∙ h (suc k)) in
    let z : n % 2 ≡ 0 = sym (bit_zero n) ∙ h 0 in omega arith)

pub no_fact : (a : ℕ) → ((k : ℕ) → has a k ≡ true → ⊥) → a ≡ 0
unfolding has
no_fact a h =
    no_bit a
    (λ k. let l = bit_two a k in let n : bit a k ≡ 1 → ⊥ = λ e. h k (eq-eqb _ _ e) in omega (arith, l, n))

pub zero_none : (k : ℕ) → has 0 k ≡ true → ⊥
unfolding has
zero_none k e = let z : bit 0 k ≡ 0 = ap (λ (x : ℕ). x % 2) (zero-div (2 ^ k)) in let o : bit 0 k ≡ 1 = eqb-true _ _ e in omega (arith, z, o)

-- no fact in both
pub share_false : (a b : ℕ) → share a b ≡ false → (k : ℕ) → has a k ≡ true → has b k ≡ true → ⊥
unfolding share
share_false a b e k p q =
    let z : bit_and a b ≡ 0 = eqb-true _ _ (not-false _ e) in
    zero_none k (subst (λ (x : ℕ). has x k ≡ true) z (has_and a b k ∙ ap₂ ◌&&◌ p q))

pub apart : (a b : ℕ) → ((k : ℕ) → has a k ≡ true → has b k ≡ true → ⊥) → share a b ≡ false
unfolding share
apart a b h =
    ap (λ (x : ℕ). not (eqb x 0))
    (no_fact (bit_and a b) (λ k e. split k (has a k) (has b k) refl refl (sym (has_and a b k) ∙ e)))
  where
    split : (k : ℕ) (x y : Bool) → has a k ≡ x → has b k ≡ y → (x && y) ≡ true → ⊥
    split k true true p q e = h k p q
    split k true false p q e = false≢true e
    split k false y p q e = false≢true e

-- the lowest fact
low_bit : (n m : ℕ) → m < 2 ^ n → (m ≡ 0 → ⊥) → bit m (count_trailing_zeros n m) ≡ 1
unfolding count_trailing_zeros
low_bit zero m h f = absurd (f (lt-one h))
low_bit (suc n) m h f = go (m % 2) refl (low_bit n (m / 2) (let p = pow-succ' 2 n in omega (arith, p)))
  where
    go : (d : ℕ) → m % 2 ≡ d → ((m / 2 ≡ 0 → ⊥) → bit (m / 2) (count_trailing_zeros n (m / 2)) ≡ 1) → bit m (under d (count_trailing_zeros n (m / 2))) ≡ 1
    go zero e ih = bit_suc m _ ∙ ih (λ z. f (omega arith))
    go (suc d) e ih = bit_zero m ∙ omega arith

below_low : (n m j : ℕ) → j < count_trailing_zeros n m → bit m j ≡ 0
unfolding count_trailing_zeros
below_low zero m j l = absurd (omega arith)
below_low (suc n) m j l = go (m % 2) refl j l (below_low n (m / 2))
  where
    go : (d : ℕ) → m % 2 ≡ d → (j : ℕ) → j < under d (count_trailing_zeros n (m / 2)) → ((i : ℕ) → i < count_trailing_zeros n (m / 2) → bit (m / 2) i ≡ 0) → bit m j ≡ 0
    go zero e zero l ih = bit_zero m ∙ e
    go zero e (suc j) l ih = bit_suc m j ∙ ih j (omega arith)
    go (suc d) e j l ih = absurd (omega arith)

-- `lowest` is a fact of the mask, and no lower one is
pub lowest_has : (m : ℕ) → m < 2 ^ 32 → (m ≡ 0 → ⊥) → has m (lowest m) ≡ true
unfolding has lowest
lowest_has m h f = eq-eqb _ _ (low_bit 32 m h f)

pub lowest_least : (m j : ℕ) → j < lowest m → has m j ≡ false
unfolding has lowest
lowest_least m j l = ap (λ (x : ℕ). eqb x 1) (below_low 32 m j l)

-- ---- they stay within 32 bits

pub join_lt : (a b : ℕ) → a < 2 ^ 32 → b < 2 ^ 32 → join a b < 2 ^ 32
unfolding join
join_lt a b p q = or_lt 32 a b p q

pub strike_lt : (a b : ℕ) → a < 2 ^ 32 → strike a b < 2 ^ 32
unfolding strike
strike_lt a b p = xor_lt 32 a (bit_and a b) p (lt_of_le_of_lt (and_le_l a b) p)
