-- The test that computes whether cells are a good table (`GapTable`, crates/part_gaps).
--   is_gap_table l n H    the test, made of
--     in_range l n       each cell is within its limit: `row_in_range l n i`, in the row of a live point cell j is at most `limit n j`, twice the
--                       bias where j is live and else 0; `clear l p m`, the m places from p on hold 0, as all cells past those rows do
--     is_diagonal l n    the diagonal is 0
--     in_windows l n H   each point lies from 0 to H
--     is_closed l n      no entry exceeds the sum by way of a third point: `row_holds l n i` by row, `way_holds l n i j` by row and third
--                       point, `holds l i j k` the single cell (i, k) by the third point j
--   top                 the bit by which the triangle test tells a good cell
--   lift k              what lifts the way less the cell to that bit: 16 places for live points, 16 for those past them, which are good anyhow
use Rattle.std.specs.Prelude.{Bool, cond, ◌&&◌, List, ℕ, ◌+◌, ◌-◌, ◌*◌, leb, ltb, eqb, get_or}
use Rattle.spec_plain.specs.Limits.{side, cell_count}
use Rattle.base_lists.specs.Loops.{all_below}
use Rattle.spec_stn.specs.Table.{bias}
use Rattle.part_gaps.specs.Cells.{cell}

abbrev pub limit : ℕ → ℕ → ℕ
limit n j = cond (ltb j n) (bias + bias) 0

abbrev pub row_in_range : List ℕ → ℕ → ℕ → Bool
row_in_range l n i = all_below (λ j. leb (cell l i j) (limit n j)) side

abbrev pub clear : List ℕ → ℕ → ℕ → Bool
clear l p m = all_below (λ k. eqb (get_or l (p + k) 0) 0) m

unfoldable pub in_range : List ℕ → ℕ → Bool
in_range l n = all_below (row_in_range l n) n && clear l (n * side) (cell_count - n * side)

unfoldable pub is_diagonal : List ℕ → ℕ → Bool
is_diagonal l n = all_below (λ i. eqb (cell l i i) bias) n

unfoldable pub in_windows : List ℕ → ℕ → ℕ → Bool
in_windows l n H = all_below (λ i. leb (cell l i 0) bias && leb (cell l 0 i) (bias + H)) n

abbrev pub holds : List ℕ → ℕ → ℕ → ℕ → Bool
holds l i j k = leb (cell l i k + bias) (cell l i j + cell l j k)

abbrev pub way_holds : List ℕ → ℕ → ℕ → ℕ → Bool
way_holds l n i j = all_below (holds l i j) n

abbrev pub row_holds : List ℕ → ℕ → ℕ → Bool
row_holds l n i = all_below (way_holds l n i) n

unfoldable pub is_closed : List ℕ → ℕ → Bool
is_closed l n = all_below (row_holds l n) n

abbrev pub is_gap_table : List ℕ → ℕ → ℕ → Bool
is_gap_table l n H = in_range l n && (is_diagonal l n && (in_windows l n H && is_closed l n))

-- ---- how the test tells a good cell

abbrev pub top : ℕ
top = 2147483648

abbrev pub lift : ℕ → ℕ
lift k = cond (ltb k 16) (top - bias) top
