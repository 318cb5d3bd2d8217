-- Document 01's soundness, as far as it speaks of the table: what holds of a good one, in gaps.
--   GapTable l n H   the list l is a good table of n live points and horizon H
use Rattle.std.specs.Prelude.{List, ◌⊎◌, ◌≡◌, ℕ, ◌≤◌, ◌<◌, pos, ◌+ℤ◌, ◌≤ℤ◌}
use Rattle.spec_plain.specs.Limits.{side}
use Rattle.spec_stn.specs.Table.{gap}
use Rattle.part_gaps.specs.Cells.{cell, table_of}

pub record GapTable (l : List ℕ) (n H : ℕ) : Type 0 where
  -- "the table's diagonal is 0"
  pub diagonal : (i : ℕ) → i < n → gap (table_of l) i i ≡ pos 0
  -- "cells without a live point are 0": such a cell is no gap, and its word is 0
  pub rest : (i j : ℕ) → i < side → j < side → n ≤ i ⊎ n ≤ j → cell l i j ≡ 0
  -- "no entry exceeds the sum by way of a third point"
  pub triangle : (i j k : ℕ) → i < n → j < n → k < n → gap (table_of l) i k ≤ℤ (gap (table_of l) i j +ℤ gap (table_of l) j k)
  -- "each point lies from 0 .."
  pub floor : (i : ℕ) → i < n → gap (table_of l) i 0 ≤ℤ pos 0
  -- ".. to H"
  pub roof : (i : ℕ) → i < n → gap (table_of l) 0 i ≤ℤ pos H
