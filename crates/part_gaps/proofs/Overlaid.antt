-- A table written over the cells of the first n points: the laws of `overlay` and `overlaid`.
--   at_place                    the place k is the cell of row k / 65 and column k % 65
--   origin_row, origin_column   the places of the cells with the origin
--   overlay_in, overlay_out     what is written within the first n columns and past them
--   row_next                    of a list whose rows before a are written: row a is written too
--   overlaid_length             the list keeps its length
--   overlaid_agree              it holds the table that was written, as far as its first n points
--   overlaid_rest               and else what it held;  overlaid_past: so in every row past them
--   overlaid_is                 the list of which this holds is the overlaid one
--   overlaid_self, _same, _twice   its own table written; tables that agree; a table written over another
use mathlib.Core.List.{List}
use mathlib.Core.Logic.{◌⊎◌, inl, inr}
use mathlib.Core.Path.{◌≡◌, refl, sym, ◌∙◌, ap}
use Prim.Native.Nat.{ℕ, ◌+◌, ◌-◌, ◌*◌, ◌/◌, ◌%◌, ◌≤◌, ◌<◌}
use native.Mathlib.Decide.{dec_lt}
use native.Mathlib.Omega.{arith}
use lib.ListN.{length, get_or, get_or-eq_default}
use borrow.Author.Tests.{lt-ltb, le-ltb}
use Rattle.spec_plain.specs.Limits.{side, cell_count}
use Rattle.base_lists.proofs.Rewritten.{rewritten_length, rewritten_in, rewritten_from, rewritten_is, rewritten_more, ahead}
use Rattle.base_lists.specs.Loops.{rewritten}
use Rattle.spec_stn.specs.Table.{Table, Agree}
use Rattle.part_gaps.specs.Cells.{cell, table_of, overlay, overlaid}

pub at_place : (l : List ℕ) (k : ℕ) → cell l (k / side) (k % side) ≡ get_or l k 0
at_place l k = ap (λ (z : ℕ). get_or l z 0) (omega arith)

pub origin_row : (l : List ℕ) (x : ℕ) → get_or l x 0 ≡ cell l 0 x
origin_row l x = ap (λ (z : ℕ). get_or l z 0) (omega arith)

pub origin_column : (l : List ℕ) (x : ℕ) → get_or l (x * side) 0 ≡ cell l x 0
origin_column l x = ap (λ (z : ℕ). get_or l z 0) (omega arith)

row_at : (a b : ℕ) → b < side → (a * side + b) / side ≡ a
row_at a b h = omega arith

column_at : (a b : ℕ) → b < side → (a * side + b) % side ≡ b
column_at a b h = omega arith

-- a point is none of the first n: either way
abbrev Past : ℕ → ℕ → ℕ → Type 0
Past n a b = n ≤ a ⊎ n ≤ b

module _ (n : ℕ) (c : Table) (l : List ℕ) where
  pub overlay_in : (a b : ℕ) → b < side → b < n → overlay n c l (a * side + b) ≡ c a b
  overlay_in a b small h = rw (row_at a b small, column_at a b small, lt-ltb b n h)

  pub overlay_out : (a b : ℕ) → b < side → n ≤ b → overlay n c l (a * side + b) ≡ cell l a b
  overlay_out a b small h = rw (column_at a b small, le-ltb b n h)

module _ (n : ℕ) (c : Table) (l : List ℕ) (size : length l ≡ cell_count) (few : n ≤ side) where
  pub row_next :
      (m x : List ℕ) (a : ℕ) → a < side → m ≡ rewritten (overlay n c l) l 0 (a * side) → length x ≡ cell_count
      → ((b : ℕ) → b < n → cell x a b ≡ c a b) → ((k : ℕ) → k < a * side → get_or x k 0 ≡ get_or m k 0)
      → ((k : ℕ) → a * side + n ≤ k → get_or x k 0 ≡ get_or m k 0) → x ≡ rewritten (overlay n c l) l 0 ((a + 1) * side)
  row_next m x a ha is len row below from =
      rewritten_more (overlay n c l) l m 0 (a * side) is x ((a + 1) * side) (omega arith) (omega arith) (omega arith)
      (λ k lo hi h. one k lo hi (dec_lt (k - a * side) n)) below (λ k h. from k (omega arith))
    where
      one : (k : ℕ) → a * side ≤ k → k < (a + 1) * side → Dec (k - a * side < n) → get_or x k 0 ≡ overlay n c l k
      one k lo hi d = let e : a * side + (k - a * side) ≡ k = omega arith in rw (← e) (at d)
        where
          at : Dec (k - a * side < n) → cell x a (k - a * side) ≡ overlay n c l (a * side + (k - a * side))
          at (yes h) = row (k - a * side) h ∙ sym (overlay_in n c l a (k - a * side) (omega arith) h)
          at (no h) =
              from (a * side + (k - a * side)) (omega arith)
              ∙ ahead (overlay n c l) l m 0 (a * side) is (a * side + (k - a * side)) (omega arith)
              ∙ sym (overlay_out n c l a (k - a * side) (omega arith) (omega arith))

  pub overlaid_length : length (overlaid n c l) ≡ cell_count
  unfolding overlaid
  overlaid_length = rewritten_length _ _ _ _ ∙ size

  pub overlaid_agree : Agree n (table_of (overlaid n c l)) c
  unfolding overlaid
  overlaid_agree a b ha hb =
      rewritten_in (overlay n c l) l 0 (n * side) (a * side + b) (omega arith) (omega arith) (omega arith)
      ∙ overlay_in n c l a b (omega arith) hb

  pub overlaid_rest : (a b : ℕ) → b < side → Past n a b → cell (overlaid n c l) a b ≡ cell l a b
  unfolding overlaid
  overlaid_rest a b small past = go (dec_lt a n) past
    where
      go : Dec (a < n) → Past n a b → cell (rewritten (overlay n c l) l 0 (n * side)) a b ≡ cell l a b
      go (no h) p = rewritten_from (overlay n c l) l 0 (n * side) (a * side + b) (omega arith)
      go (yes h) (inl p) = absurd (omega arith)
      go (yes h) (inr p) =
          rewritten_in (overlay n c l) l 0 (n * side) (a * side + b) (omega arith) (omega arith) (omega arith)
          ∙ overlay_out n c l a b small p

  pub overlaid_past : (k : ℕ) → n * side ≤ k → get_or (overlaid n c l) k 0 ≡ get_or l k 0
  unfolding overlaid
  overlaid_past k h = rewritten_from (overlay n c l) l 0 (n * side) k h

  pub overlaid_is :
      (x : List ℕ) → length x ≡ cell_count → Agree n (table_of x) c → ((a b : ℕ) → a < side → b < side → Past n a b → cell x a b ≡ cell l a b)
      → x ≡ overlaid n c l
  unfolding overlaid
  overlaid_is x len same rest =
      rewritten_is (overlay n c l) l x 0 (n * side) (len ∙ sym size) (λ k lo hi h. sym (at_place x k) ∙ one k hi (dec_lt (k % side) n))
      (λ k h. absurd (omega arith)) (λ k h. past k h (dec_lt k cell_count))
    where
      one : (k : ℕ) → k < n * side → Dec (k % side < n) → cell x (k / side) (k % side) ≡ overlay n c l k
      one k hi (yes h) = same (k / side) (k % side) (omega arith) h ∙ rw (lt-ltb (k % side) n h)
      one k hi (no h) =
          rest (k / side) (k % side) (omega arith) (omega arith) (inr (omega arith)) ∙ at_place l k
          ∙ rw (le-ltb (k % side) n (omega arith))

      past : (k : ℕ) → n * side ≤ k → Dec (k < cell_count) → get_or x k 0 ≡ get_or l k 0
      past k h (yes lt) =
          sym (at_place x k) ∙ rest (k / side) (k % side) (omega arith) (omega arith) (inl (omega arith)) ∙ at_place l k
      past k h (no ge) =
          get_or-eq_default x 0 {n = k} (omega arith) ∙ sym (get_or-eq_default l 0 {n = k} (omega arith))

pub overlaid_self : (n : ℕ) (l : List ℕ) → length l ≡ cell_count → n ≤ side → l ≡ overlaid n (table_of l) l
overlaid_self n l size few = overlaid_is n (table_of l) l size few l size (λ a b ha hb. refl) (λ a b ha hb past. refl)

pub overlaid_same : (n : ℕ) (c d : Table) (l : List ℕ) → length l ≡ cell_count → n ≤ side → Agree n c d → overlaid n c l ≡ overlaid n d l
overlaid_same n c d l size few same =
    overlaid_is n d l size few (overlaid n c l) (overlaid_length n c l size few)
    (λ a b ha hb. overlaid_agree n c l size few a b ha hb ∙ same a b ha hb)
    (λ a b ha hb past. overlaid_rest n c l size few a b hb past)

pub overlaid_twice :
    (n m : ℕ) (c d : Table) (l : List ℕ) → length l ≡ cell_count → n ≤ m → m ≤ side → overlaid m c (overlaid n d l) ≡ overlaid m c l
overlaid_twice n m c d l size le few =
    let len = overlaid_length n d l size (omega arith) in
    overlaid_is m c l size few (overlaid m c (overlaid n d l)) (overlaid_length m c (overlaid n d l) len few)
    (overlaid_agree m c (overlaid n d l) len few)
    (λ a b ha hb past.
    overlaid_rest m c (overlaid n d l) len few a b hb past ∙ overlaid_rest n d l size (omega arith) a b hb (weaker a b past))
  where
    weaker : (a b : ℕ) → Past m a b → Past n a b
    weaker a b (inl h) = inl (omega arith)
    weaker a b (inr h) = inr (omega arith)
