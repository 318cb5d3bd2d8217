-- A rule added to a list of cells is the rule added to its table.
--   row_copied       the copy of a row
--   Turn             one turn of the loop over rows: what relaxing a row requires and gives;  turn shows it
--   relaxed_same     a row that no way across the rule can shorten
--   added_length     the list keeps its length
--   added_agree      the first n points of the list hold stn's table with the rule added;  added_rest: else it is as it was
--   added_past       every row past them too
--   agrees_whole     a rule that agrees with a closed table cuts no way off
--   added_closed     and the table with it is closed again
--   added_known      a rule that every timetable of a closed table keeps already changes no cell
use mathlib.Core.List.{List}
use mathlib.Core.Logic.{◌⊎◌}
use mathlib.Core.Path.{◌≡◌, refl, sym, ◌∙◌, ap}
use Prim.Native.Nat.{ℕ, ◌+◌, ◌*◌, ◌%◌, ◌≤◌, ◌<◌}
use native.Mathlib.Omega.{arith}
use lib.ListN.{length, get_or, take, drop}
use lib.Seq.{get_or-take, get_or-drop}
use Rattle.spec_plain.specs.Limits.{side, cell_count}
use Rattle.spec_plain.specs.declared.Rule.{Rule}
use Rattle.base_lists.proofs.Build.{build_at, build_same}
use Rattle.base_lists.proofs.Rewritten.{rewritten_length, rewritten_in, rewritten_below, rewritten_from, rewritten_is, ahead}
use Rattle.base_lists.specs.Loops.{build, rewritten}
use Rattle.spec_stn.proofs.Add.{add_closed}
use Rattle.spec_stn.proofs.Agree.{agree_closed}
use Rattle.spec_stn.specs.Table.{bias, Table, Closed, IsConsistent, Agree, add}
use Rattle.part_gaps.specs.Cells.{cell, table_of, row_at, added_cell, relaxed, added, Usable, Whole}
use Rattle.part_gaps.proofs.Overlaid.{row_next, overlaid_length, overlaid_agree, overlaid_rest, overlaid_past, overlaid_self, overlaid_same}

-- the copy of row i: the first cells of the n from its place on
pub row_copied : (l row : List ℕ) (i n : ℕ) → side ≤ n → row ≡ build (λ k. get_or (take n (drop (i * side) l)) k 0) side → row ≡ row_at l i
row_copied l row i n room e =
    e
    ∙ build_same (λ k. get_or (take n (drop (i * side) l)) k 0) (λ j. cell l i j) side
    (λ k h. get_or-take n (drop (i * side) l) k 0 (omega arith) ∙ get_or-drop (i * side) l k 0)

pub record Turn (l : List ℕ) (n : ℕ) (r : Rule) (row m : List ℕ) (a : ℕ) : Type 0 where
  -- what relaxing row a requires: sums stay small, and no way is cut off
  pub via_small : cell m a r.late ≤ bias + bias
  pub row_small : (b : ℕ) → b < n → get_or row b 0 ≤ bias + bias
  pub row_whole : (b : ℕ) → b < n → bias + r.more ≤ cell m a r.late + r.slack + get_or row b 0
  pub cells_small : (b : ℕ) → b < n → cell m a b ≤ bias + bias
  -- and no cell of it exceeds the way by the early point
  pub row_behind : (b : ℕ) → b < n → cell m a b + bias ≤ cell m a r.early + get_or row b 0
  -- what it gives: one more row of the table with the rule added
  pub next :
      (x : List ℕ) → x ≡ rewritten (relaxed m row (cell m a r.late + r.slack) (bias + r.more)) m (a * side) (a * side + n)
      → x ≡ rewritten (added_cell l n r) l 0 ((a + 1) * side)

-- The rows before a are relaxed, so that row a of m is still that of l
module _
    (l : List ℕ) (n : ℕ) (r : Rule) (size : length l ≡ cell_count) (few : n ≤ side) (u : Usable n r) (cl : Closed n (table_of l))
    (whole : Whole n r (table_of l)) (row : List ℕ) (copy : row ≡ row_at l r.early) (m : List ℕ) (a : ℕ) (ha : a < n) (is : m ≡ rewritten (added_cell l n r) l 0 (a * side)) where
  still : (b : ℕ) → cell m a b ≡ cell l a b
  still b = ahead (added_cell l n r) l m 0 (a * side) is (a * side + b) (omega arith)

  via : cell m a r.late ≡ cell l a r.late
  via = still r.late

  onward : (b : ℕ) → b < n → get_or row b 0 ≡ cell l r.early b
  onward b hb = rw copy (build_at (λ j. cell l r.early j) side b 0 (omega arith))

  relaxed_next :
      (x : List ℕ) → x ≡ rewritten (relaxed m row (cell m a r.late + r.slack) (bias + r.more)) m (a * side) (a * side + n)
      → x ≡ rewritten (added_cell l n r) l 0 ((a + 1) * side)
  unfolding add
  relaxed_next x out =
      row_next n (add r (table_of l)) l size few m x a (omega arith) is (ap length out ∙ rewritten_length f m (a * side) (a * side + n) ∙ long) one
      (λ k h. rw out (rewritten_below f m (a * side) (a * side + n) k h)) (λ k h. rw out (rewritten_from f m (a * side) (a * side + n) k h))
    where
      f : ℕ → ℕ
      f = relaxed m row (cell m a r.late + r.slack) (bias + r.more)

      long : length m ≡ cell_count
      long = ap length is ∙ rewritten_length _ l 0 (a * side) ∙ size

      one : (b : ℕ) → b < n → cell x a b ≡ add r (table_of l) a b
      one b hb =
          let column : (a * side + b) % side ≡ b = omega arith in
          rw out
          (rewritten_in f m (a * side) (a * side + n) (a * side + b) (omega arith) (omega arith) (omega (arith, long))
          ∙ rw (column, onward b hb, still b, via))

  direct : cell m a r.early ≡ cell l a r.early
  direct = still r.early

  pub turn : Turn l n r row m a
  turn =
      record {
        via_small = omega (arith, via, cl.bounded a r.late ha u.late_live);
        row_small = λ b hb. omega (arith, onward b hb, cl.bounded r.early b u.early_live hb);
        row_whole = λ b hb. omega (arith, via, onward b hb, whole a b ha hb);
        cells_small = λ b hb. omega (arith, still b, cl.bounded a b ha hb);
        row_behind = λ b hb. omega (arith, direct, onward b hb, still b, cl.triangle a r.early b ha u.early_live hb);
        next = relaxed_next;
      }

module _ (l : List ℕ) (n : ℕ) (r : Rule) (size : length l ≡ cell_count) (few : n ≤ side) where
  pub added_length : length (added l n r) ≡ cell_count
  unfolding added
  added_length = overlaid_length n (add r (table_of l)) l size few

  pub added_agree : Agree n (table_of (added l n r)) (add r (table_of l))
  unfolding added
  added_agree = overlaid_agree n (add r (table_of l)) l size few

  pub added_rest : (a b : ℕ) → b < side → n ≤ a ⊎ n ≤ b → cell (added l n r) a b ≡ cell l a b
  unfolding added
  added_rest = overlaid_rest n (add r (table_of l)) l size few

  pub added_past : (k : ℕ) → n * side ≤ k → get_or (added l n r) k 0 ≡ get_or l k 0
  unfolding added
  added_past = overlaid_past n (add r (table_of l)) l size few

  pub added_closed : Closed n (table_of l) → r.early < n → r.late < n → IsConsistent r (table_of l) → Closed n (table_of (added l n r))
  added_closed cl x y ok =
      agree_closed n (add r (table_of l)) (table_of (added l n r)) (λ i j hi hj. sym (added_agree i j hi hj)) (omega arith)
      (add_closed n (table_of l) r cl x y ok)

  -- a way across the rule is no shorter than one that goes from late to early
  pub added_known :
      Closed n (table_of l) → r.early < n → r.late < n → cell l r.late r.early + r.more ≤ bias + r.slack → added l n r ≡ l
  unfolding added add
  added_known cl x y known =
      overlaid_same n (add r (table_of l)) (table_of l) l size few
      (λ a b ha hb. omega (arith, cl.triangle a r.late r.early ha y x, cl.triangle a r.early b ha x hb))
      ∙ sym (overlaid_self n l size few)

-- a row that no way across the rule can shorten is as it was
pub relaxed_same :
    (l row : List ℕ) (a n early via cut : ℕ) → length l ≡ cell_count → n ≤ side → a < n → ((b : ℕ) → b < n → cell l a b + bias ≤ cell l a early + get_or row b 0)
    → cell l a early + cut ≤ via + bias → l ≡ rewritten (relaxed l row via cut) l (a * side) (a * side + n)
relaxed_same l row a n early via cut size few ha behind known =
    rewritten_is (relaxed l row via cut) l l (a * side) (a * side + n) refl (λ k lo hi h. one k lo hi) (λ k h. refl) (λ k h. refl)
  where
    one : (k : ℕ) → a * side ≤ k → k < a * side + n → get_or l k 0 ≡ relaxed l row via cut k
    one k lo hi =
        let b : ℕ = k % side in
        let place : a * side + b ≡ k = omega arith in
        let here : cell l a b ≡ get_or l k 0 = ap (λ (z : ℕ). get_or l z 0) place in
        omega (arith, behind b (omega arith), here)

-- from early to late by b and a is at least the gap of the two, which the rule agrees with, and from b to a is no more than the bias twice
pub agrees_whole : (n : ℕ) (c : Table) (r : Rule) → Closed n c → r.early < n → r.late < n → IsConsistent r c → Whole n r c
unfolding IsConsistent
agrees_whole n c r cl x y ok a b ha hb =
    omega (arith, cl.triangle r.early b r.late x hb y, cl.triangle b a r.late hb ha y, cl.bounded b a hb ha)
