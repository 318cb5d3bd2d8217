-- Points added to a list of cells are points added to its table.
--   column_next         one more row has its cell of the new point's column
--   hung_overlaid       the new point's column and row make the table with one more point
--   grown_none, _next   no point yet; one point more
--   grown_column        no gap to the origin is larger than before, so that sums stay small
--   grown_length        the list keeps its length
--   grown_agree         its first n + m points hold stn's table with m more points;  grown_rest: else it is as it was;  grown_past: every row past them too
use mathlib.Core.List.{List}
use mathlib.Core.Logic.{◌⊎◌}
use mathlib.Core.Path.{◌≡◌, sym, ◌∙◌, ap}
use Prim.Native.Nat.{ℕ, zero, suc, ◌+◌, ◌*◌, ◌%◌, ◌≤◌, ◌<◌}
use native.Mathlib.Decide.{dec_lt}
use native.Mathlib.Numerals.{add-one}
use native.Mathlib.Omega.{arith}
use lib.ListN.{length, get_or, set, length-set}
use lib.Seq.{get_or-set_same, get_or-set_other}
use borrow.Author.Tests.{eq-eqb, ne_eqb}
use Rattle.spec_plain.specs.Limits.{side, cell_count}
use Rattle.base_lists.proofs.Rewritten.{rewritten_length, rewritten_in, rewritten_below, rewritten_from, ahead}
use Rattle.base_lists.specs.Loops.{rewritten}
use Rattle.spec_stn.specs.Table.{bias, Table, Agree, grow, grow_all}
use Rattle.part_gaps.specs.Cells.{cell, table_of, hung_cell, overlaid, grown}
use Rattle.part_gaps.proofs.Overlaid.{origin_row, row_next, overlay_in, overlaid_length, overlaid_agree, overlaid_rest}
use Rattle.part_gaps.proofs.Overlaid.{overlaid_past, overlaid_self, overlaid_same, overlaid_twice}

-- ---- one point

module _ (H n : ℕ) (c : Table) where
  grow_old : (a b : ℕ) → a < n → b < n → grow H n c a b ≡ c a b
  unfolding grow
  grow_old a b ha hb = simp (ne_eqb a n (λ e. omega arith), ne_eqb b n (λ e. omega arith))

  grow_to : (a b : ℕ) → a < n → b ≡ n → grow H n c a b ≡ c a 0 + H
  unfolding grow
  grow_to a b ha hb = simp (ne_eqb a n (λ e. omega arith), eq-eqb b n hb)

  grow_from : (a b : ℕ) → a ≡ n → b < n → grow H n c a b ≡ c 0 b
  unfolding grow
  grow_from a b ha hb = simp (eq-eqb a n ha, ne_eqb b n (λ e. omega arith))

  grow_self : (a b : ℕ) → a ≡ n → b ≡ n → grow H n c a b ≡ bias
  unfolding grow
  grow_self a b ha hb = simp (eq-eqb a n ha, eq-eqb b n hb)

agree_grow : (H n : ℕ) (c d : Table) → 0 < n → Agree n c d → Agree (n + 1) (grow H n c) (grow H n d)
agree_grow H n c d z same i j hi hj = go (dec_lt i n) (dec_lt j n)
  where
    go : Dec (i < n) → Dec (j < n) → grow H n c i j ≡ grow H n d i j
    go (yes x) (yes y) = omega (arith, grow_old H n c i j x y, grow_old H n d i j x y, same i j x y)
    go (yes x) (no y) = omega (arith, grow_to H n c i j x (omega arith), grow_to H n d i j x (omega arith), same i 0 x z)
    go (no x) (yes y) = omega (arith, grow_from H n c i j (omega arith) y, grow_from H n d i j (omega arith) y, same 0 j z y)
    go (no x) (no y) = omega (arith, grow_self H n c i j (omega arith) (omega arith), grow_self H n d i j (omega arith) (omega arith))

module _ (l : List ℕ) (n H : ℕ) (size : length l ≡ cell_count) (room : n < side) where
  pub column_next :
      (m : List ℕ) (i v : ℕ) → i < n → m ≡ rewritten (hung_cell l n H) l 0 (i * side) → length m ≡ cell_count
      → v ≡ cell l i 0 + H → set m (i * side + n) v ≡ rewritten (hung_cell l n H) l 0 ((i + 1) * side)
  column_next m i v hi is len e =
      row_next (n + 1) (grow H n (table_of l)) l size (omega arith) m (set m (i * side + n) v) i (omega arith) is (simp length-set len)
      (λ b hb. row b hb (dec_lt b n)) (λ k h. get_or-set_other m (i * side + n) k v 0 (λ s. omega arith))
      (λ k h. get_or-set_other m (i * side + n) k v 0 (λ s. omega arith))
    where
      row : (b : ℕ) → b < n + 1 → Dec (b < n) → cell (set m (i * side + n) v) i b ≡ grow H n (table_of l) i b
      row b hb (yes h) =
          get_or-set_other m (i * side + n) (i * side + b) v 0 (λ s. omega arith)
          ∙ ahead (hung_cell l n H) l m 0 (i * side) is (i * side + b) (omega arith)
          ∙ sym (grow_old H n (table_of l) i b hi h)
      row b hb (no h) =
          let s : b ≡ n = omega arith in
          rw s (get_or-set_same m (i * side + n) v 0 (omega arith) ∙ e ∙ sym (grow_to H n (table_of l) i n hi (omega arith)))

  -- The row is a copy of the origin's, of which the column's cell is not copied
  pub hung_overlaid :
      (m x : List ℕ) → 0 < n → m ≡ rewritten (hung_cell l n H) l 0 (n * side) → length m ≡ cell_count
      → x ≡ rewritten (λ k. get_or m (k % side) 0) m (n * side) (n * side + n) → set x (n * side + n) bias ≡ overlaid (n + 1) (grow H n (table_of l)) l
  unfolding overlaid
  hung_overlaid m x z is len out =
      row_next (n + 1) (grow H n (table_of l)) l size (omega arith) m (set x (n * side + n) bias) n room is (simp length-set long)
      (λ b hb. row b hb (dec_lt b n))
      (λ k h. get_or-set_other x (n * side + n) k bias 0 (λ s. omega arith) ∙ rw out (rewritten_below f m (n * side) (n * side + n) k h))
      (λ k h. get_or-set_other x (n * side + n) k bias 0 (λ s. omega arith) ∙ rw out (rewritten_from f m (n * side) (n * side + n) k (omega arith)))
    where
      f : ℕ → ℕ
      f k = get_or m (k % side) 0

      long : length x ≡ cell_count
      long = ap length out ∙ rewritten_length f m (n * side) (n * side + n) ∙ len

      origin : (b : ℕ) → b < n → cell m 0 b ≡ cell l 0 b
      origin b h =
          rw is
          (rewritten_in (hung_cell l n H) l 0 (n * side) (0 * side + b) (omega arith) (omega arith) (omega arith)
          ∙ overlay_in (n + 1) (grow H n (table_of l)) l 0 b (omega arith) (omega arith)
          ∙ grow_old H n (table_of l) 0 b z h)

      row : (b : ℕ) → b < n + 1 → Dec (b < n) → cell (set x (n * side + n) bias) n b ≡ grow H n (table_of l) n b
      row b hb (yes h) =
          let column : (n * side + b) % side ≡ b = omega arith in
          get_or-set_other x (n * side + n) (n * side + b) bias 0 (λ s. omega arith)
          ∙ rw out (rewritten_in f m (n * side) (n * side + n) (n * side + b) (omega arith) (omega arith) (omega arith))
          ∙ ap (λ (k : ℕ). get_or m k 0) column
          ∙ origin_row m b
          ∙ origin b h
          ∙ sym (grow_from H n (table_of l) n b (omega arith) h)
      row b hb (no h) =
          let s : b ≡ n = omega arith in
          rw s
          (get_or-set_same x (n * side + n) bias 0 (omega (arith, long)) ∙ sym (grow_self H n (table_of l) n n (omega arith) (omega arith)))

-- ---- k points

grow_all_next : (H n k : ℕ) (c : Table) → grow_all H n (suc k) c ≡ grow H (n + k) (grow_all H n k c)
unfolding grow_all
grow_all_next H n zero c = ap (λ (p : ℕ). grow H p c) (omega arith)
grow_all_next H n (suc k) c =
    grow_all_next H (suc n) k (grow H n c) ∙ ap (λ (p : ℕ). grow H p (grow_all H (suc n) k (grow H n c))) (omega arith)

grow_all_column :
    (H n k u : ℕ) (c : Table) → 0 < n → ((i : ℕ) → i < n → c i 0 ≤ u) → (i : ℕ) → i < n + k → grow_all H n k c i 0 ≤ u
unfolding grow_all
grow_all_column H n zero u c z h i hi = h i (omega arith)
grow_all_column H n (suc k) u c z h i hi =
    grow_all_column H (suc n) k u (grow H n c) (omega arith) (λ j hj. one j hj (dec_lt j n)) i (omega arith)
  where
    one : (j : ℕ) → j < suc n → Dec (j < n) → grow H n c j 0 ≤ u
    one j hj (yes x) = omega (arith, grow_old H n c j 0 x z, h j x)
    one j hj (no x) = omega (arith, grow_from H n c j 0 (omega arith) z, h 0 z)

pub grown_none : (l : List ℕ) (n H : ℕ) → length l ≡ cell_count → n ≤ side → l ≡ grown l n 0 H
unfolding grown grow_all
grown_none l n H size few = overlaid_self (n + 0) l size (omega arith)

module _ (l : List ℕ) (n k H : ℕ) (size : length l ≡ cell_count) (few : n + k ≤ side) where
  pub grown_length : length (grown l n k H) ≡ cell_count
  unfolding grown
  grown_length = overlaid_length (n + k) (grow_all H n k (table_of l)) l size few

  pub grown_agree : Agree (n + k) (table_of (grown l n k H)) (grow_all H n k (table_of l))
  unfolding grown
  grown_agree = overlaid_agree (n + k) (grow_all H n k (table_of l)) l size few

  pub grown_rest : (a b : ℕ) → b < side → n + k ≤ a ⊎ n + k ≤ b → cell (grown l n k H) a b ≡ cell l a b
  unfolding grown
  grown_rest = overlaid_rest (n + k) (grow_all H n k (table_of l)) l size few

  pub grown_past : (at : ℕ) → (n + k) * side ≤ at → get_or (grown l n k H) at 0 ≡ get_or l at 0
  unfolding grown
  grown_past = overlaid_past (n + k) (grow_all H n k (table_of l)) l size few

  pub grown_column : (u : ℕ) → 0 < n → ((i : ℕ) → i < n → cell l i 0 ≤ u) → (i : ℕ) → i < n + k → cell (grown l n k H) i 0 ≤ u
  grown_column u z h i hi = omega (arith, grown_agree i 0 hi (omega arith), grow_all_column H n k u (table_of l) z h i hi)

pub grown_next :
    (l m : List ℕ) (n k H : ℕ) → length l ≡ cell_count → 0 < n → n + k < side → m ≡ grown l n k H
    → overlaid (n + k + 1) (grow H (n + k) (table_of m)) m ≡ grown l n (k + 1) H
unfolding grown
grown_next l m n k H size z room is =
    rw is
    (overlaid_twice (n + k) (n + k + 1) (grow H (n + k) (table_of (grown l n k H))) d l size (omega arith) (omega arith)
    ∙ overlaid_same (n + k + 1) (grow H (n + k) (table_of (grown l n k H))) (grow H (n + k) d) l size (omega arith)
    (agree_grow H (n + k) (table_of (grown l n k H)) d (omega arith) (grown_agree l n k H size (omega arith)))
    ∙ rw (add-one k, grow_all_next H n k (table_of l)) (ap (λ (N : ℕ). overlaid N (grow H (n + k) d) l) (omega arith)))
  where
    d : Table
    d = grow_all H n k (table_of l)
