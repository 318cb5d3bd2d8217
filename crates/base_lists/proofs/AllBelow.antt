-- A flag that is true as long as a test holds: the laws of `all_below`.
--   all_below_none, all_below_next   no turn yet; one turn more, from the flag and the test made in it
--   all_below_to, all_below_of       what the flag says of each place, and the other way
--   all_below_passes, all_below_fails   where a failed test ends the loop: one turn more, and a test that fails
--   all_below_split, all_below_blocks   the tests of a first part and of the rest; the tests of m parts of b places each
--   bool_same                      two flags that say the same
--   all_below_same                  the same test at each place;  all_below_both: two tests at each
--   all_below_live                  only the places below n are tested
--   both_true                      what two flags joined say
use mathlib.Core.Bool.{Bool, true, false, false≢true, ◌&&◌, ◌||◌}
use mathlib.Core.Path.{◌≡◌, refl, sym, ◌∙◌, ap, ap₂}
use Prim.Native.Nat.{ℕ, zero, suc, ◌+◌, ◌*◌, ◌≤◌, ◌<◌}
use native.Mathlib.Decide.{dec_lt}
use native.Mathlib.Numerals.{add-one}
use native.Mathlib.Omega.{arith}
use lib.Dec.{leb}
use borrow.Author.Tests.{le-leb, lt-leb}
use Rattle.base_lists.specs.Loops.{all_below}

pub both_true : (a b : Bool) → (a && b) ≡ true → (a ≡ true) × (b ≡ true)
both_true true b h = (refl, h)
both_true false b h = absurd (false≢true h)

pub all_below_none : (f : ℕ → Bool) → true ≡ all_below f 0
unfolding all_below
all_below_none f = refl

pub all_below_next : (f : ℕ → Bool) (n : ℕ) (ok test : Bool) → ok ≡ all_below f n → test ≡ f n → (ok && test) ≡ all_below f (n + 1)
unfolding all_below
all_below_next f n ok test e t = rw (add-one n, e, t)

pub all_below_passes : (f : ℕ → Bool) (n : ℕ) → all_below f n ≡ true → f n ≡ true → all_below f (n + 1) ≡ true
all_below_passes f n before here = sym (all_below_next f n true true (sym before) (sym here))

pub all_below_to : (f : ℕ → Bool) (n : ℕ) → all_below f n ≡ true → (k : ℕ) → k < n → f k ≡ true
unfolding all_below
all_below_to f zero h k l = absurd (omega arith)
all_below_to f (suc n) h k l = go (both_true (all_below f n) (f n) h) (all_below_to f n) (dec_lt k n)
  where
    go : (all_below f n ≡ true) × (f n ≡ true) → (all_below f n ≡ true → (k : ℕ) → k < n → f k ≡ true) → Dec (k < n) → f k ≡ true
    go both before (yes lt) = before both.0 k lt
    go both before (no ge) = let e : k ≡ n = omega arith in rw e both.1

pub all_below_of : (f : ℕ → Bool) (n : ℕ) → ((k : ℕ) → k < n → f k ≡ true) → all_below f n ≡ true
unfolding all_below
all_below_of f zero h = refl
all_below_of f (suc n) h = rw (all_below_of f n (λ k l. h k (omega arith))) (h n (omega arith))

-- where all tests of f passed, a test that failed is none of them
fails : (f : ℕ → Bool) (n : ℕ) (b : Bool) → b ≡ false → (all_below f n ≡ true → b ≡ true) → false ≡ all_below f n
fails f n b failed passed = go (all_below f n) refl
  where
    go : (all : Bool) → all_below f n ≡ all → false ≡ all
    go true e = absurd (false≢true (sym failed ∙ passed e))
    go false e = refl

pub all_below_fails : (f : ℕ → Bool) (n k : ℕ) → k < n → f k ≡ false → false ≡ all_below f n
all_below_fails f n k l failed = fails f n (f k) failed (λ e. all_below_to f n e k l)

pub all_below_split : (f : ℕ → Bool) (p m : ℕ) → all_below f (p + m) ≡ (all_below f p && all_below (λ k. f (p + k)) m)
unfolding all_below
all_below_split f p zero = ap (all_below f) {x = p + 0} {y = p} (omega arith) ∙ and_true (all_below f p)
  where
    and_true : (a : Bool) → a ≡ (a && true)
    and_true true = refl
    and_true false = refl
all_below_split f p (suc m) =
    ap (all_below f) {x = p + suc m} {y = suc (p + m)} (omega arith)
    ∙ ap (λ (b : Bool). b && f (p + m)) (all_below_split f p m)
    ∙ regroup (all_below f p) (all_below (λ k. f (p + k)) m) (f (p + m))
  where
    regroup : (a b c : Bool) → ((a && b) && c) ≡ (a && (b && c))
    regroup true b c = refl
    regroup false b c = refl

pub all_below_blocks : (f : ℕ → Bool) (b m : ℕ) → all_below (λ p. all_below (λ k. f (p * b + k)) b) m ≡ all_below f (m * b)
unfolding all_below
all_below_blocks f b zero = ap (all_below f) {x = 0} {y = 0 * b} (omega arith)
all_below_blocks f b (suc m) =
    ap (λ (a : Bool). a && all_below (λ k. f (m * b + k)) b) (all_below_blocks f b m)
    ∙ sym (all_below_split f (m * b) b)
    ∙ ap (all_below f) {x = m * b + b} {y = suc m * b} (omega arith)

pub bool_same : (a b : Bool) → (a ≡ true → b ≡ true) → (b ≡ true → a ≡ true) → a ≡ b
bool_same true b f g = sym (f refl)
bool_same false true f g = g refl
bool_same false false f g = refl

pub all_below_same : (f g : ℕ → Bool) (n : ℕ) → ((k : ℕ) → k < n → f k ≡ g k) → all_below f n ≡ all_below g n
unfolding all_below
all_below_same f g zero e = refl
all_below_same f g (suc n) e = ap₂ ◌&&◌ (all_below_same f g n (λ k h. e k (omega arith))) (e n (omega arith))

pub all_below_both : (f g : ℕ → Bool) (n : ℕ) → all_below (λ k. f k && g k) n ≡ (all_below f n && all_below g n)
unfolding all_below
all_below_both f g zero = refl
all_below_both f g (suc n) = rw (all_below_both f g n) (swap (all_below f n) (all_below g n) (f n) (g n))
  where
    swap : (a b c d : Bool) → ((a && b) && (c && d)) ≡ ((a && c) && (b && d))
    swap false b c d = refl
    swap true false false d = refl
    swap true false true d = refl
    swap true true c d = refl

pub all_below_live : (f : ℕ → Bool) (n m : ℕ) → n ≤ m → all_below (λ k. leb n k || f k) m ≡ all_below f n
all_below_live f n m few = go (all_below f n) refl
  where
    g : ℕ → Bool
    g k = leb n k || f k

    at : all_below f n ≡ true → (k : ℕ) → Dec (k < n) → g k ≡ true
    at e k (yes h) = rw (lt-leb n k h) (all_below_to f n e k h)
    at e k (no h) = rw (le-leb n k (omega arith))

    back : all_below g m ≡ true → (k : ℕ) → k < n → f k ≡ true
    back e k h = rw (lt-leb n k h) at (all_below_to g m e k (omega arith))

    go : (all : Bool) → all_below f n ≡ all → all_below g m ≡ all
    go true e = all_below_of g m (λ k h. at e k (dec_lt k n))
    go false e = sym (fails g m (all_below f n) e (λ d. all_below_of f n (back d)))
