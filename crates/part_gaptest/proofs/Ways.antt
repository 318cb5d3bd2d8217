-- How the triangle test tells a good cell, and what its loops over pairs of ways and over 16 columns come to.
--   joined_test         bits joined: the top bit is there where both have it
--   lifted_test         the way less the cell, lifted, has the top bit where the cell is good
--   ways_turn           a cell more of two ways
--   few_test            the same in a row of 16 places: those past the live points are good anyhow;  few_fits: and its numbers are small
--   few_turn            a place more of such a row
--   lift_row            the row of what lifts 32 places;  lift_at: what it has for place k
--   pair_next, pair_fails   two ways tested more; a pair that fails
use mathlib.Core.Bool.{Bool, true, false, false≢true, ◌&&◌, ◌||◌}
use mathlib.Core.List.{List}
use mathlib.Core.Logic.{◌⊎◌, inl, inr}
use mathlib.Core.Path.{◌≡◌, refl, sym, ◌∙◌, ap, ap₂}
use Prim.Native.Nat.{ℕ, ◌+◌, ◌-◌, ◌*◌, ◌^◌, ◌≤◌, ◌<◌}
use native.Mathlib.Decide.{dec_lt, dec_le}
use native.Mathlib.Omega.{arith}
use lib.Bits.{bit_and, and_block, and_le_l, and_le_r}
use lib.Dec.{leb}
use lib.ListN.{get_or, replicate}
use borrow.Author.Tests.{lt-ltb, le-ltb, le-leb, lt-leb}
use Rattle.base_lists.specs.Loops.{build, rewritten, all_below}
use Rattle.base_lists.proofs.Build.{build_at}
use Rattle.base_lists.proofs.AllBelow.{both_true, all_below_to, all_below_of, all_below_next}
use Rattle.spec_stn.specs.Table.{bias}
use Rattle.part_gaps.specs.Cells.{cell}
use Rattle.part_gaptest.specs.Test.{limit, holds, top, lift}
use Rattle.part_gaptest.proofs.Test.{limit_live, limit_rest}

pub joined_test :
    (a b : ℕ) → a < 4294967296 → b < 4294967296 → leb top (bit_and a b) ≡ (leb top a && leb top b)
joined_test a b ha hb = go (dec_le top a) (dec_le top b)
  where
    go : Dec (top ≤ a) → Dec (top ≤ b) → leb top (bit_and a b) ≡ (leb top a && leb top b)
    go (yes x) (yes y) =
        let e : a ≡ 1 * 2 ^ 31 + (a - top) = omega arith in
        let d : b ≡ 1 * 2 ^ 31 + (b - top) = omega arith in
        let joined = ap₂ bit_and e d ∙ and_block 31 1 1 (a - top) (b - top) (omega arith) (omega arith) in
        rw (le-leb top a x, le-leb top b y) (le-leb top (bit_and a b) (omega (arith, joined)))
    go (yes x) (no y) =
        rw (le-leb top a x, lt-leb top b (omega arith)) (lt-leb top (bit_and a b) (omega (arith, and_le_r a b)))
    go (no x) d = rw (lt-leb top a (omega arith)) (lt-leb top (bit_and a b) (omega (arith, and_le_l a b)))

pub lifted_test :
    (direct via onward : ℕ) → direct ≤ bias + bias
    → leb top (via + (top - bias) + onward - direct) ≡ leb (direct + bias) (via + onward)
lifted_test direct via onward hd = go (dec_le (direct + bias) (via + onward))
  where
    go : Dec (direct + bias ≤ via + onward) → leb top (via + (top - bias) + onward - direct) ≡ leb (direct + bias) (via + onward)
    go (yes h) = rw (le-leb (direct + bias) (via + onward) h) (le-leb top (via + (top - bias) + onward - direct) (omega arith))
    go (no h) = rw (lt-leb (direct + bias) (via + onward) (omega arith)) (lt-leb top (via + (top - bias) + onward - direct) (omega arith))

-- two ways more in a cell: a and b are the third points, x and y what the two ways leave
pub ways_turn :
    (l : List ℕ) (i a b k all x y : ℕ) → cell l i a ≤ bias + bias → cell l i b ≤ bias + bias → cell l a k ≤ bias + bias → cell l b k ≤ bias + bias
    → cell l i k ≤ bias + bias → all < 4294967296 → leb top all ≡ all_below (λ m. holds l i a m && holds l i b m) k
    → x ≡ cell l i a + lift 0 + cell l a k - cell l i k → y ≡ cell l i b + lift 0 + cell l b k - cell l i k
    → (bit_and all (bit_and x y) < 4294967296) × (leb top (bit_and all (bit_and x y)) ≡ all_below (λ m. holds l i a m && holds l i b m) (k + 1))
ways_turn l i a b k all x y ia ib ak bk ik small before ex ey =
    let left : x < 4294967296 = omega arith in
    let right : y < 4294967296 = omega arith in
    let both : leb top (bit_and x y) ≡ (holds l i a k && holds l i b k) =
    joined_test x y left right
    ∙ ap₂ ◌&&◌ (ap (leb top) ex ∙ lifted_test (cell l i k) (cell l i a) (cell l a k) ik)
    (ap (leb top) ey ∙ lifted_test (cell l i k) (cell l i b) (cell l b k) ik) in (
      omega (arith, and_le_l all (bit_and x y)),
      joined_test all (bit_and x y) small (omega (arith, and_le_l x y))
          ∙ all_below_next (λ m. holds l i a m && holds l i b m) k (leb top all) (leb top (bit_and x y)) before both,
    )

-- ---- a row of 16 places, of which n are live

module _ (n k way direct onward : ℕ) (few : n ≤ 16) (here : direct ≤ limit n k) (there : onward ≤ limit n k) where
  pub few_fits : (direct ≤ lift (16 - n + k)) × (onward ≤ bias + bias) × (lift (16 - n + k) ≤ top)
  few_fits = go (dec_lt k n)
    where
      go : Dec (k < n) → (direct ≤ lift (16 - n + k)) × (onward ≤ bias + bias) × (lift (16 - n + k) ≤ top)
      go (yes h) =
          let live = limit_live n k h in
          rw (lt-ltb (16 - n + k) 16 (omega arith)) (omega (arith, live), omega (arith, live), omega arith)
      go (no h) =
          let rest = limit_rest n k (omega arith) in
          rw (le-ltb (16 - n + k) 16 (omega arith)) (omega (arith, rest), omega (arith, rest), omega arith)

  pub few_test : leb top (way + (lift (16 - n + k) - direct) + onward) ≡ (leb n k || leb (direct + bias) (way + onward))
  few_test = go (dec_lt k n)
    where
      go : Dec (k < n) → leb top (way + (lift (16 - n + k) - direct) + onward) ≡ (leb n k || leb (direct + bias) (way + onward))
      go (yes h) =
          let small : direct ≤ bias + bias = omega (arith, limit_live n k h) in
          let same : way + (top - bias - direct) + onward ≡ way + (top - bias) + onward - direct = omega arith in
          rw (lt-ltb (16 - n + k) 16 (omega arith), lt-leb n k h, same) (lifted_test direct way onward small)
      go (no h) =
          rw (le-ltb (16 - n + k) 16 (omega arith), le-leb n k (omega arith))
          (le-leb top (way + (top - direct) + onward) (omega (arith, limit_rest n k (omega arith))))

-- one place more: x is what the way by j leaves
pub few_turn :
    (l : List ℕ) (n i j k all x : ℕ) → n ≤ 16 → cell l i j ≤ bias + bias → cell l i k ≤ limit n k → cell l j k ≤ limit n k → all < 4294967296
    → leb top all ≡ all_below (λ m. leb n m || holds l i j m) k → x ≡ cell l i j + (lift (16 - n + k) - cell l i k) + cell l j k
    → (bit_and all x < 4294967296) × (leb top (bit_and all x) ≡ all_below (λ m. leb n m || holds l i j m) (k + 1))
few_turn l n i j k all x few ij ik jk small before ex =
    let fits = few_fits n k (cell l i j) (cell l i k) (cell l j k) few ik jk in
    let left : x < 4294967296 = omega (arith, fits.1, fits.2) in (
      omega (arith, and_le_l all x),
      joined_test all x small left
          ∙ all_below_next (λ m. leb n m || holds l i j m) k (leb top all) (leb top x) before
          (ap (leb top) ex ∙ few_test n k (cell l i j) (cell l i k) (cell l j k) few ik jk),
    )

pub lift_at : (lifts : List ℕ) (n k : ℕ) → lifts ≡ build lift 32 → n ≤ 16 → k < 16 → get_or lifts (16 - n + k) 0 ≡ lift (16 - n + k)
lift_at lifts n k is few small = ap (λ (r : List ℕ). get_or r (16 - n + k) 0) is ∙ build_at lift 32 (16 - n + k) 0 (omega arith)

-- what lifts 16 live cells written over the bit
pub lift_row : rewritten (λ i. top - bias) (replicate 32 top) 0 16 ≡ build lift 32
unfolding rewritten build
lift_row = refl

-- ---- pairs of ways

pub pair_fails : (f : ℕ → Bool) (n j k : ℕ) → j < n → k < n → (f j && f k) ≡ false → false ≡ all_below f n
pair_fails f n j k l m failed = go (all_below f n) refl
  where
    go : (all : Bool) → all_below f n ≡ all → false ≡ all
    go true e = absurd (false≢true (sym failed ∙ rw (all_below_to f n e j l, all_below_to f n e k m)))
    go false e = refl

pub pair_next :
    (f : ℕ → Bool) (j k : ℕ) → all_below f j ≡ true → (k ≡ j) ⊎ (k ≡ j + 1) → (f j && f k) ≡ true → all_below f (k + 1) ≡ true
pair_next f j k before which both = all_below_of f (k + 1) (λ m h. at m h (dec_lt m j) (dec_le m j))
  where
    at : (m : ℕ) → m < k + 1 → Dec (m < j) → Dec (m ≤ j) → f m ≡ true
    at m h (yes l) d = all_below_to f j before m l
    at m h (no l) (yes e) = let same : m ≡ j = omega arith in rw same (both_true (f j) (f k) both).0
    at m h (no l) (no e) = let same : m ≡ k = last which in rw same (both_true (f j) (f k) both).1
      where
        last : (k ≡ j) ⊎ (k ≡ j + 1) → m ≡ k
        last (inl a) = absurd (omega arith)
        last (inr a) = omega arith
