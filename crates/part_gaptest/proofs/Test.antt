-- The test of a table says what document 01 asks of it.
--   none_joined                 how `are_clear` tells that all cells are 0;  clear_parts: cells tested part by part
--   limit_live, limit_rest      the limit of a live column and of the others
--   in_range_row                 each cell of a live row is at most its limit;  in_range_bounded: so sums of live cells are small
--   in_range_rest                every other cell is 0
--   good_to, good_of            the test is true exactly where the cells are good;  gap_table_to, gap_table_of: exactly where GapTable holds
use mathlib.Core.Bool.{Bool, true, ◌&&◌}
use mathlib.Core.List.{List, []}
use mathlib.Core.Logic.{◌⊎◌, inl, inr}
use mathlib.Core.Path.{◌≡◌, sym, ◌∙◌, ap, ap₂}
use Prim.Native.Nat.{ℕ, zero, suc, ◌+◌, ◌-◌, ◌*◌, ◌/◌, ◌%◌, ◌≤◌, ◌<◌}
use native.Mathlib.Decide.{dec_lt, dec_le}
use native.Mathlib.Omega.{arith}
use lib.Bits.{bit_or, and_le_l, and_le_r, or_add_and}
use lib.Dec.{leb, eqb}
use lib.ListN.{length, get_or, take, drop, length-drop}
use lib.Seq.{length-take-le, get_or-take, get_or-drop, drop-drop}
use native.Mathlib.Nat.{mul-le-mul_right}
use Rattle.std.specs.Simd.{first_chunks}
use borrow.Author.Tests.{lt-ltb, le-ltb, le-leb, leb-true, eqb-true, eq-eqb, ne_eqb}
use Rattle.spec_plain.specs.Limits.{side, cell_count}
use Rattle.base_lists.specs.Loops.{all_below}
use Rattle.base_lists.proofs.AllBelow.{both_true, all_below_to, all_below_of, all_below_same, all_below_split, all_below_blocks}
use Rattle.spec_stn.specs.Table.{bias}
use Rattle.part_gaps.specs.Cells.{cell, table_of, Bounded}
use Rattle.part_gaps.specs.GapTable.{GapTable}
use Rattle.part_gaps.proofs.GapTable.{GoodCells, cells_of, table_of_lem}
use Rattle.part_gaps.proofs.Overlaid.{at_place}
use Rattle.part_gaptest.specs.Test.{limit, row_in_range, clear, in_range, is_diagonal, in_windows, holds, way_holds, row_holds, is_closed, is_gap_table}

-- ---- the range test

-- cells joined are 0 where each is
pub none_joined : (a b : ℕ) → eqb (bit_or a b) 0 ≡ (eqb a 0 && eqb b 0)
none_joined a b = go (dec_le a 0) (dec_le b 0)
  where
    go : Dec (a ≤ 0) → Dec (b ≤ 0) → eqb (bit_or a b) 0 ≡ (eqb a 0 && eqb b 0)
    go (yes x) (yes y) = rw (eq-eqb a 0 (omega arith), eq-eqb b 0 (omega arith)) (eq-eqb (bit_or a b) 0 (omega (arith, or_add_and a b)))
    go (yes x) (no y) =
        rw (eq-eqb a 0 (omega arith), ne_eqb b 0 (λ e. y (omega arith)))
        (ne_eqb (bit_or a b) 0 (λ e. y (omega (arith, or_add_and a b, and_le_l a b))))
    go (no x) d =
        rw (ne_eqb a 0 (λ e. x (omega arith))) (ne_eqb (bit_or a b) 0 (λ e. x (omega (arith, or_add_and a b, and_le_r a b))))

-- the cells from a place on, tested in parts of b cells each, and what is left of them
chunk_at : (b m : ℕ) (l : List ℕ) (k : ℕ) → k < m → get_or (first_chunks b m l) k [] ≡ take b (drop (k * b) l)
chunk_at b zero l k h = absurd (omega arith)
chunk_at b (suc m) l zero h = ap (λ (i : ℕ). take b (drop i l)) {x = 0} {y = 0 * b} (omega arith)
chunk_at b (suc m) l (suc k) h =
    chunk_at b m (drop b l) k (omega arith)
    ∙ ap (take b) (drop-drop (k * b) b l ∙ ap (λ (i : ℕ). drop i l) {x = b + k * b} {y = suc k * b} (omega arith))

pub clear_parts :
    (l : List ℕ) (from m b n : ℕ) (parts : List (List ℕ)) (rest : List ℕ) (p q : Bool) → from + n ≡ length l → m * b + length rest ≡ n
    → parts ≡ first_chunks b m (drop from l) → length parts ≡ m → rest ≡ drop (m * b) (drop from l)
    → p ≡ all_below (λ k. clear (get_or parts k []) 0 (length (get_or parts k []))) (length parts) → q ≡ clear rest 0 (length rest)
    → (p && q) ≡ clear l from n
clear_parts l from m b n parts rest p q room whole ep many er tp tq =
    ap₂ ◌&&◌ (tp ∙ rw many (all_below_same _ (λ k. all_below (λ i. f (k * b + i)) b) m one ∙ all_below_blocks f b m))
    (tq ∙ same rest (m * b) (length rest) (λ i h. at_rest i))
    ∙ sym (all_below_split f (m * b) (length rest)) ∙ ap (all_below f) whole
  where
    f : ℕ → Bool
    f j = eqb (get_or l (from + j) 0) 0

    same : (x : List ℕ) (at k : ℕ) → ((i : ℕ) → i < k → get_or x i 0 ≡ get_or l (from + (at + i)) 0) → clear x 0 k ≡ all_below (λ i. f (at + i)) k
    same x at k is =
        all_below_same (λ i. eqb (get_or x (0 + i) 0) 0) (λ i. f (at + i)) k
        (λ i h. ap (λ (v : ℕ). eqb v 0) (ap (λ (j : ℕ). get_or x j 0) {x = 0 + i} {y = i} (omega arith) ∙ is i h))

    at_rest : (i : ℕ) → get_or rest i 0 ≡ get_or l (from + (m * b + i)) 0
    at_rest i = ap (λ (x : List ℕ). get_or x i 0) er ∙ get_or-drop (m * b) (drop from l) i 0 ∙ get_or-drop from l (m * b + i) 0

    one : (k : ℕ) → k < m → clear (get_or parts k []) 0 (length (get_or parts k [])) ≡ all_below (λ i. f (k * b + i)) b
    one k h =
        let part : List ℕ = take b (drop (k * b) (drop from l)) in
        let is : get_or parts k [] ≡ part = ap (λ (x : List (List ℕ)). get_or x k []) ep ∙ chunk_at b m (drop from l) k h in
        let near : (k + 1) * b ≤ m * b = mul-le-mul_right b (let le : k + 1 ≤ m = omega arith in le) in
        let fits : length part ≡ b =
        length-take-le b (drop (k * b) (drop from l)) (omega (arith, near, length-drop (k * b) (drop from l), length-drop from l)) in
        ap (λ (x : List ℕ). clear x 0 (length x)) is ∙ ap (clear part 0) fits
        ∙ same part (k * b) b (λ i lt. get_or-take b (drop (k * b) (drop from l)) i 0 lt ∙ get_or-drop (k * b) (drop from l) i 0 ∙ get_or-drop from l (k * b + i) 0)

module _ (n j : ℕ) where
  pub limit_live : j < n → limit n j ≡ bias + bias
  limit_live x = rw (lt-ltb j n x)

  pub limit_rest : n ≤ j → limit n j ≡ 0
  limit_rest x = rw (le-ltb j n x)

module _ (l : List ℕ) (n : ℕ) (few : n ≤ side) where
  -- the rows of live points, and the cells past them
  parts : in_range l n ≡ true → (all_below (row_in_range l n) n ≡ true) × (clear l (n * side) (cell_count - n * side) ≡ true)
  unfolding in_range
  parts h = both_true (all_below (row_in_range l n) n) (clear l (n * side) (cell_count - n * side)) h

  pub in_range_row : in_range l n ≡ true → (i j : ℕ) → i < n → j < side → cell l i j ≤ limit n j
  in_range_row h i j hi hj = leb-true _ _ (all_below_to (λ j. leb (cell l i j) (limit n j)) side (all_below_to (row_in_range l n) n (parts h).0 i hi) j hj)

  pub in_range_bounded : in_range l n ≡ true → Bounded n (table_of l)
  in_range_bounded h i j hi hj = omega (arith, in_range_row h i j hi (omega arith), limit_live n j hj)

  pub in_range_rest : in_range l n ≡ true → (i j : ℕ) → i < side → j < side → n ≤ i ⊎ n ≤ j → cell l i j ≡ 0
  in_range_rest h i j hi hj past = go (dec_lt i n) past
    where
      go : Dec (i < n) → n ≤ i ⊎ n ≤ j → cell l i j ≡ 0
      go (yes x) (inl p) = absurd (omega arith)
      go (yes x) (inr p) = omega (arith, in_range_row h i j x hj, limit_rest n j p)
      go (no x) p =
          let k = (i - n) * side + j in
          let here : n * side + k ≡ i * side + j = omega arith in
          rw (← here) (eqb-true _ _ (all_below_to (λ k. eqb (get_or l (n * side + k) 0) 0) (cell_count - n * side) (parts h).1 k (omega arith)))

  in_range_of :
      Bounded n (table_of l) → ((i j : ℕ) → i < side → j < side → n ≤ i ⊎ n ≤ j → cell l i j ≡ 0) → in_range l n ≡ true
  unfolding in_range
  in_range_of bounded rest = rw (rows, past)
    where
      within : (i j : ℕ) → i < n → j < side → Dec (j < n) → cell l i j ≤ limit n j
      within i j hi hj (yes x) = omega (arith, limit_live n j x, bounded i j hi x)
      within i j hi hj (no x) = omega (arith, rest i j (omega arith) hj (inr (omega arith)))

      rows : all_below (row_in_range l n) n ≡ true
      rows = all_below_of (row_in_range l n) n (λ i hi. all_below_of _ side (λ j hj. le-leb _ _ (within i j hi hj (dec_lt j n))))

      past : clear l (n * side) (cell_count - n * side) ≡ true
      past = all_below_of _ (cell_count - n * side) λ k hk.
          let p = n * side + k in
          eq-eqb _ _ (sym (at_place l p) ∙ rest (p / side) (p % side) (omega arith) (omega arith) (inl (omega arith)))

-- ---- the whole test

module _ (l : List ℕ) (n H : ℕ) (few : n ≤ side) where
  good_to : is_gap_table l n H ≡ true → GoodCells l n H
  unfolding is_diagonal in_windows is_closed
  good_to h =
      let p = both_true (in_range l n) (is_diagonal l n && (in_windows l n H && is_closed l n)) h in
      let q = both_true (is_diagonal l n) (in_windows l n H && is_closed l n) p.1 in
      let s = both_true (in_windows l n H) (is_closed l n) q.1 in
      let window : (i : ℕ) → i < n → (leb (cell l i 0) bias ≡ true) × (leb (cell l 0 i) (bias + H) ≡ true) =
      λ i hi. both_true (leb (cell l i 0) bias) (leb (cell l 0 i) (bias + H)) (all_below_to _ n s.0 i hi) in
      record {
        closed =
            record {
              diagonal = λ i hi. eqb-true _ _ (all_below_to (λ i. eqb (cell l i i) bias) n q.0 i hi);
              triangle = λ i j k hi hj hk.
                  leb-true _ _
                  (all_below_to (holds l i j) n
                  (all_below_to (way_holds l n i) n (all_below_to (row_holds l n) n s.1 i hi) j hj) k hk);
              bounded = in_range_bounded l n few p.0;
              floor = λ i hi. leb-true _ _ (window i hi).0;
            };
        rest = in_range_rest l n few p.0;
        roof = λ i hi. leb-true _ _ (window i hi).1;
      }

  good_of : GoodCells l n H → is_gap_table l n H ≡ true
  unfolding is_diagonal in_windows is_closed
  good_of g =
      let range : in_range l n ≡ true = in_range_of l n few g.closed.bounded g.rest in
      let diagonal : is_diagonal l n ≡ true = all_below_of (λ i. eqb (cell l i i) bias) n λ i hi. eq-eqb _ _ (g.closed.diagonal i hi) in
      let windows : in_windows l n H ≡ true =
      all_below_of (λ i. leb (cell l i 0) bias && leb (cell l 0 i) (bias + H)) n
      λ i hi. rw (le-leb (cell l i 0) bias (g.closed.floor i hi), le-leb (cell l 0 i) (bias + H) (g.roof i hi)) in
      let closed : is_closed l n ≡ true =
      all_below_of (row_holds l n) n
      λ i hi.
      all_below_of (way_holds l n i) n
      λ j hj.
      all_below_of (holds l i j) n λ k hk. le-leb _ _ (g.closed.triangle i j k hi hj hk) in
      rw (range, diagonal, windows, closed)

  pub gap_table_to : is_gap_table l n H ≡ true → GapTable l n H
  gap_table_to h = table_of_lem l n H (good_to h)

  pub gap_table_of : 0 < n → H ≤ bias → GapTable l n H → is_gap_table l n H ≡ true
  gap_table_of some small g = good_of (cells_of l n H some small g)
