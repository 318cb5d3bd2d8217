-- The tests of `(a..b).all(..)`, made by calls that change nothing they captured: the answer is the flag of all tests. Assumes nothing.
--   all_between   h is the test of a number, and f of how far it is from a;  all_range: of `(0..n).all(..)`
use Prim.Native.Nat.{ℕ, ◌+◌, ◌-◌, ◌<◌}
use mathlib.Core.Path.{◌≡◌, sym, ◌∙◌, ap}
use mathlib.Core.Bool.{Bool, true, false}
use denote.Param.Members.{Mut}
use lib.ListN.{length, get_or}
use native.Mathlib.Omega.{arith}
use Rattle.std.proofs.iter.Yields.{nat_range_steps}
use Rattle.std.proofs.lemmas.Iterator.{YieldsList-from_range, cases_from_all}
use Rattle.std.proofs.lemmas.List.FromFn.{length-range_with_len, get_or-range_with_len}
use Rattle.std.specs.Bool.{MatchBool}
use Rattle.std.specs.Fn.{Called}
use Rattle.std.specs.Iterator.{ChecksAll}
use Rattle.std.specs.declared.ops.Range.{Range}
use Rattle.std.specs.List.{range_with_len, AllWithin, HoldsAt}
use Rattle.base_lists.specs.Loops.{all_below}
use Rattle.base_lists.proofs.AllBelow.{all_below_of, all_below_fails}

number : (a n k : ℕ) → k < n → get_or (range_with_len a n) k 0 ≡ a + k
number a n k h = get_or-range_with_len a n k 0 h

answer :
    (h f : ℕ → Bool) (a n : ℕ) (r : Bool) → ((k : ℕ) → k < n → h (a + k) ≡ f k)
    → MatchBool r (AllWithin (λ k. h k ≡ true) (range_with_len a n) 0 (length (range_with_len a n)))
    ((k : ℕ) × (k < length (range_with_len a n)) × HoldsAt (λ k. h k ≡ false) (range_with_len a n) k)
    → r ≡ all_below f n
answer h f a n true same all =
    let long = length-range_with_len a n in
    sym (all_below_of f n (λ k l. sym (same k l) ∙ ap h (sym (number a n k l)) ∙ all k 0 (omega arith) (omega (arith, long))))
answer h f a n false same one =
    let less : one.0 < n = omega (arith, length-range_with_len a n, one.1) in
    all_below_fails f n one.0 less (sym (same one.0 less) ∙ ap h (sym (number a n one.0 less)) ∙ one.2 0)

module _ {F : Type 0} {g : Mut F (ℕ × Unit {0}) Bool} (h : ℕ → Bool) where
  pub all_between :
      (f : ℕ → Bool) (a b n : ℕ) (s u : Range ℕ) (c : F) (r : Bool) → s ≡ record { start = a; end = b } → b - a ≡ n
      → ((k : ℕ) → k < n → h (a + k) ≡ f k) → ChecksAll nat_range_steps g s c r u
      → ((k : ℕ) (y : Bool) (q : F) → Called g c (k, tt) y q → (q ≡ c) × (y ≡ h k)) → r ≡ all_below f n
  all_between f a b n s u c r from many same ran call =
      answer h f a n r same
      (cases_from_all u c r (λ k. h k ≡ true) (λ k. h k ≡ false) ran (YieldsList-from_range a b n from many)
      (λ k q e. let is = call k true q e in (is.0, sym is.1)) (λ k q e. sym (call k false q e).1))

  pub all_range :
      (n : ℕ) (s u : Range ℕ) (c : F) (r : Bool) → s ≡ record { start = 0; end = n } → ChecksAll nat_range_steps g s c r u
      → ((k : ℕ) (y : Bool) (q : F) → Called g c (k, tt) y q → (q ≡ c) × (y ≡ h k)) → r ≡ all_below h n
  all_range n s u c r from = all_between h 0 n n s u c r from (omega arith) (λ k l. ap h (omega arith))
