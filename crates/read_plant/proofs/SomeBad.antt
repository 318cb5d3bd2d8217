-- The allocations of an action, one after the other. Assumes nothing.
--   over             top has k bits: of two numbers one is above it exactly where all their bits together are
--   some_bad_none, some_bad_next   none; one more, whose offset and length are in range: its resource is tested with the others
--   none_bad, some_bad_here        none is out of range; one of them is, whatever its resource
use Prim.Native.Nat.{ℕ, zero, suc, ◌+◌, ◌^◌, ◌<◌}
use native.Mathlib.Omega.{arith}
use native.Mathlib.Decide.{ℕ_discrete}
use native.Mathlib.Numerals.{add-one}
use mathlib.Core.Path.{◌≡◌, refl, sym, ap, ◌∙◌}
use mathlib.Core.List.{List}
use mathlib.Core.Bool.{Bool, true, false, ◌||◌, or-true, or-false}
use lib.Bits.{bit_or, or_add_and, and_le_l, and_le_r, or_lt}
use lib.Dec.{ltb}
use borrow.Author.Tests.{lt-ltb, le-ltb, ltb-true, ltb-false}
use Rattle.base_masks.specs.Mask.{join}
use Rattle.base_rulings.proofs.RulingLaws.{neither}
use Rattle.read_plant.specs.Plant.{out_of_range, bad_allocation, some_bad_allocation, allocation_start, resource, offset, use_length}

over : (k top a b : ℕ) → top + 1 ≡ 2 ^ k → ltb top (bit_or a b) ≡ (ltb top a || ltb top b)
over k top a b e = go (ltb top a) refl (ltb top b) refl
  where
    go : (x : Bool) → ltb top a ≡ x → (y : Bool) → ltb top b ≡ y → ltb top (bit_or a b) ≡ (x || y)
    go true p y q =
        let above = ltb-true top a p in let sum = or_add_and a b in let part = and_le_r a b in
        lt-ltb top (bit_or a b) (omega (arith, above, sum, part))
    go false p true q =
        let above = ltb-true top b q in let sum = or_add_and a b in let part = and_le_l a b in
        lt-ltb top (bit_or a b) (omega (arith, above, sum, part))
    go false p false q =
        let few = ltb-false top a p in let less = ltb-false top b q in
        let most = or_lt k a b (omega (arith, few, e)) (omega (arith, less, e)) in
        le-ltb top (bit_or a b) (omega (arith, most, e))

module _ (s : List ℕ) (at : ℕ) where
  pub some_bad_none : some_bad_allocation s at 0 ≡ false
  unfolding some_bad_allocation
  some_bad_none = refl

  pub none_bad : (n k : ℕ) → some_bad_allocation s at n ≡ false → k < n → bad_allocation s (allocation_start at k) ≡ false
  unfolding some_bad_allocation
  none_bad zero k e h = absurd (omega arith)
  none_bad (suc n) k e h =
      let p = neither (some_bad_allocation s at n) (bad_allocation s (allocation_start at n)) e in
      go (ℕ_discrete k n) p.1 (λ l. none_bad n k p.0 l)
    where
      go : Dec (k ≡ n) → bad_allocation s (allocation_start at n) ≡ false → (k < n → bad_allocation s (allocation_start at k) ≡ false)
          → bad_allocation s (allocation_start at k) ≡ false
      go (yes q) here before = rw q here
      go (no q) here before = before (omega arith)

  module _ (k : ℕ) where
    -- offset and length of allocation k are out of range
    abbrev pub BadSpan : Bool
    BadSpan = out_of_range 0 (offset s (allocation_start at k)) (use_length s (allocation_start at k))

    pub some_bad_next :
        (resources : ℕ) → some_bad_allocation s at k ≡ ltb 15 resources → BadSpan ≡ false
        → some_bad_allocation s at (k + 1) ≡ ltb 15 (join resources (resource s (allocation_start at k)))
    unfolding some_bad_allocation bad_allocation join
    some_bad_next resources e h =
        rw (add-one k, e, h)
        (ap (λ (b : Bool). ltb 15 resources || b) (or-false (ltb 15 (resource s (allocation_start at k))))
        ∙ sym (over 4 15 resources (resource s (allocation_start at k)) refl))

    bad_here : BadSpan ≡ true → bad_allocation s (allocation_start at k) ≡ true
    unfolding bad_allocation
    bad_here h = rw h (or-true (ltb 15 (resource s (allocation_start at k))))

    pub some_bad_here : (n : ℕ) → k < n → BadSpan ≡ true → some_bad_allocation s at n ≡ true
    some_bad_here n l h = go (some_bad_allocation s at n) refl
      where
        go : (b : Bool) → some_bad_allocation s at n ≡ b → b ≡ true
        go true e = refl
        go false e = sym (none_bad n k e l) ∙ bad_here h
