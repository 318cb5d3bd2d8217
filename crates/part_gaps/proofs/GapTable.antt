-- A good table in sums of cells, with the bias on the other side, as the code adds them and `omega` reads them; and what leaves a good one.
--   GoodCells l n H   what `GapTable` says, of cells
--   cells_of          a good table has good cells: that no gap exceeds the largest horizon follows;  table_of_lem: and good cells are a good table
--   added_good        a rule that agrees leaves good cells;  grown_good: and so do new points;  grown_closed: of closed tables alone
use mathlib.Core.List.{List}
use mathlib.Core.Logic.{◌⊎◌, inl, inr}
use mathlib.Core.Path.{◌≡◌, refl, sym, ◌∙◌, ap}
use Prim.Native.Nat.{ℕ, ◌+◌, ◌≤◌, ◌<◌}
use native.Mathlib.Omega.{arith}
use lib.IntN.{ℤ, pos, ◌+ℤ◌}
use lib.ListN.{length}
use Rattle.spec_plain.specs.Limits.{side, cell_count}
use Rattle.spec_plain.specs.declared.Rule.{Rule}
use Rattle.spec_plain.proofs.Whole.{up, dn, below_of, of_below, sub_spec, sum_spec, whole_eq}
use Rattle.spec_stn.proofs.Agree.{agree_closed}
use Rattle.spec_stn.proofs.Grow.{grow_all_closed, grow_all_roof}
use Rattle.spec_stn.specs.Table.{bias, gap, Closed, IsConsistent, add}
use Rattle.part_gaps.specs.Cells.{cell, table_of, added, grown}
use Rattle.part_gaps.specs.GapTable.{GapTable}
use Rattle.part_gaps.proofs.Added.{added_agree, added_rest, added_closed}
use Rattle.part_gaps.proofs.Grown.{grown_agree, grown_rest}

pub record GoodCells (l : List ℕ) (n H : ℕ) : Type 0 where
  pub closed : Closed n (table_of l)
  pub rest : (i j : ℕ) → i < side → j < side → n ≤ i ⊎ n ≤ j → cell l i j ≡ 0
  pub roof : (i : ℕ) → i < n → cell l 0 i ≤ bias + H

module _ (l : List ℕ) (n H : ℕ) where
  -- the gap of a cell
  abbrev d : ℕ → ℕ → ℤ
  d i j = gap (table_of l) i j

  cell_is : (i j : ℕ) → up (d i j) + bias ≡ cell l i j + dn (d i j)
  cell_is i j = sub_spec (cell l i j) bias

  pub cells_of : 0 < n → H ≤ bias → GapTable l n H → GoodCells l n H
  cells_of some small g =
      record {
        closed =
            record {
              diagonal = λ i hi. omega (arith, cell_is i i, ap up (g.diagonal i hi), ap dn (g.diagonal i hi));
              triangle = triangle;
              -- from i to j by the origin is no longer than the horizon
              bounded = λ i j hi hj. omega (arith, triangle i 0 j hi some hj, floor i hi, roof j hj);
              floor = floor;
            };
        rest = g.rest;
        roof = roof;
      }
    where
      triangle : (i j k : ℕ) → i < n → j < n → k < n → cell l i k + bias ≤ cell l i j + cell l j k
      triangle i j k hi hj hk =
          omega (
            arith,
            below_of (d i k) (d i j +ℤ d j k) (g.triangle i j k hi hj hk),
            sum_spec (d i j) (d j k),
            cell_is i k,
            cell_is i j,
            cell_is j k,
          )

      floor : (i : ℕ) → i < n → cell l i 0 ≤ bias
      floor i hi = omega (arith, below_of (d i 0) (pos 0) (g.floor i hi), cell_is i 0)

      roof : (i : ℕ) → i < n → cell l 0 i ≤ bias + H
      roof i hi = omega (arith, below_of (d 0 i) (pos H) (g.roof i hi), cell_is 0 i)

  pub table_of_lem : GoodCells l n H → GapTable l n H
  table_of_lem g =
      let cl = g.closed in
      record {
        diagonal = λ i hi. whole_eq (d i i) (pos 0) (omega (arith, cell_is i i, cl.diagonal i hi));
        rest = g.rest;
        triangle = λ i j k hi hj hk.
            of_below (d i k) (d i j +ℤ d j k)
            (omega (arith, cl.triangle i j k hi hj hk, sum_spec (d i j) (d j k), cell_is i k, cell_is i j, cell_is j k));
        floor = λ i hi. of_below (d i 0) (pos 0) (omega (arith, cl.floor i hi, cell_is i 0));
        roof = λ i hi. of_below (d 0 i) (pos H) (omega (arith, g.roof i hi, cell_is 0 i));
      }

-- ---- what leaves a good table

pub added_good :
    (l : List ℕ) (n H : ℕ) (r : Rule) → length l ≡ cell_count → n ≤ side → GoodCells l n H → r.early < n → r.late < n → IsConsistent r (table_of l)
    → GoodCells (added l n r) n H
unfolding add
added_good l n H r size few g x y ok =
    let cl = added_closed l n r size few g.closed x y ok in
    record {
      closed = cl;
      rest = λ i j hi hj past. added_rest l n r size few i j hj past ∙ g.rest i j hi hj past;
      roof = λ i hi. omega (arith, added_agree l n r size few 0 i (omega arith) hi, g.roof i hi);
    }

pub grown_closed :
    (l : List ℕ) (n m H : ℕ) → length l ≡ cell_count → 0 < n → n + m ≤ side → H ≤ bias → Closed n (table_of l) → Closed (n + m) (table_of (grown l n m H))
grown_closed l n m H size z few small cl =
    agree_closed (n + m) _ (table_of (grown l n m H)) (λ i j hi hj. sym (grown_agree l n m H size few i j hi hj)) (omega arith)
    (grow_all_closed H n m (n + m) (table_of l) refl cl z small)

pub grown_good :
    (l : List ℕ) (n m H : ℕ) → length l ≡ cell_count → 0 < n → n + m ≤ side → H ≤ bias → GoodCells l n H → GoodCells (grown l n m H) (n + m) H
grown_good l n m H size z few small g =
    let same = grown_agree l n m H size few in
    let cl = grown_closed l n m H size z few small g.closed in
    record {
      closed = cl;
      rest = λ i j hi hj past. grown_rest l n m H size few i j hj past ∙ g.rest i j hi hj (before i j past);
      roof = λ i hi.
          omega (
            arith,
            same 0 i (omega arith) hi,
            grow_all_roof H n m (n + m) (table_of l) refl g.closed z small g.roof i hi,
          );
    }
  where
    before : (i j : ℕ) → n + m ≤ i ⊎ n + m ≤ j → n ≤ i ⊎ n ≤ j
    before i j (inl h) = inl (omega arith)
    before i j (inr h) = inr (omega arith)
