-- What `all` over an iterator says, as `all_below`. The fact that they take is what the library's `cases_from_all` gives, with
-- `λ i. f i ≡ true` and `λ i. f i ≡ false` for the two answers of the closure.
--   all_ranged   `(0..n).all(|i| ..)`
--   all_listed   `s.iter().all(|x| ..)`
use mathlib.Core.Bool.{Bool, true, false}
use mathlib.Core.List.{List}
use mathlib.Core.Path.{◌≡◌, sym, ◌∙◌, ap}
use Prim.Native.Nat.{ℕ, ◌<◌}
use native.Mathlib.Omega.{arith}
use lib.ListN.{length, get_or}
use Rattle.std.specs.Bool.{MatchBool}
use Rattle.std.specs.List.{AllWithin, HoldsAt, range_with_len}
use Rattle.std.proofs.lemmas.List.FromFn.{length-range_with_len, get_or-range_with_len}
use Rattle.base_lists.specs.Loops.{all_below}
use Rattle.base_lists.proofs.AllBelow.{all_below_of, all_below_fails}

module _ {A : Type 0} (f : A → Bool) (l : List A) (z : A) where
  pub all_listed :
      (r : Bool) → MatchBool r (AllWithin (λ x. f x ≡ true) l 0 (length l)) ((k : ℕ) × (k < length l) × HoldsAt (λ x. f x ≡ false) l k)
      → r ≡ all_below (λ k. f (get_or l k z)) (length l)
  all_listed true h = sym (all_below_of (λ k. f (get_or l k z)) (length l) (λ k lt. h k z (omega arith) lt))
  all_listed false h = all_below_fails (λ k. f (get_or l k z)) (length l) h.0 h.1 (h.2 z)

pub all_ranged :
    (f : ℕ → Bool) (n : ℕ) (r : Bool)
    → MatchBool r (AllWithin (λ i. f i ≡ true) (range_with_len 0 n) 0 (length (range_with_len 0 n)))
    ((k : ℕ) × (k < length (range_with_len 0 n)) × HoldsAt (λ i. f i ≡ false) (range_with_len 0 n) k)
    → r ≡ all_below f n
all_ranged f n true h =
    sym
    (all_below_of f n
    (λ k lt. let at : get_or (range_with_len 0 n) k 0 ≡ k = get_or-range_with_len 0 n k 0 lt ∙ omega arith in
    ap f (sym at) ∙ h k 0 (omega arith) (omega (arith, length-range_with_len 0 n))))
all_ranged f n false h =
    let lt : h.0 < n = omega (arith, h.1, length-range_with_len 0 n) in
    let at : get_or (range_with_len 0 n) h.0 0 ≡ h.0 = get_or-range_with_len 0 n h.0 0 lt ∙ omega arith in
    all_below_fails f n h.0 lt (ap f (sym at) ∙ h.2 0)
