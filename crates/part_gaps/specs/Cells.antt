-- The gap table as the list of its 65 x 65 cells, row by row: what the code holds, read as a table of stn, and what the code makes of it.
-- All that changes a list writes a table over the cells of its first points, so that the laws of `overlaid` serve adding and growing.
--   cell l i j              the cell (i, j) of the list l;  table_of l: the table that it holds
--   row_at l i               a copy of row i
--   overlaid n c l          the list l with the table c written over the cells of the first n points;  overlay n c l k: what place k holds then
--   relaxed l row via cut k   what place k holds when its row is relaxed: the least of what it held and the way that begins with via, goes on
--                           by row and is shorter by cut
--   added l n r             the rule r added to a table of n points;  added_cell l n r k: what place k holds then
--   Usable n r              the rule r names the first n points, and its numbers keep every sum within 32 bits
--   Bounded n c             no cell of the first n points is above twice the bias
--   Whole n r c             no way from a point across the rule r to a point is cut off at 0
--   grown l n m H           m new points, each from 0 to H, in a table of n points;  hung_cell l n H k: what place k holds with the first of them
--   dropped l f m n         the m points from f on dropped from a table of n points: later points are renumbered down, and freed cells hold 0;
--                           dropped_cell l f m left k: what place k holds when `left` are left
use Rattle.std.specs.Prelude.{cond, List, ℕ, ◌+◌, ◌-◌, ◌*◌, ◌/◌, ◌%◌, ◌≤◌, ◌<◌, min, ltb, get_or, replicate}
use Rattle.spec_plain.specs.Limits.{side, cell_count}
use Rattle.spec_plain.specs.declared.Rule.{Rule}
use Rattle.base_lists.specs.Loops.{build, rewritten}
use Rattle.spec_stn.specs.Table.{bias, Table, add, grow, grow_all, pick, old_number}

abbrev pub cell : List ℕ → ℕ → ℕ → ℕ
cell l i j = get_or l (i * side + j) 0

abbrev pub table_of : List ℕ → Table
table_of l = λ i j. cell l i j

abbrev pub row_at : List ℕ → ℕ → List ℕ
row_at l i = build (λ j. cell l i j) side

abbrev pub overlay : ℕ → Table → List ℕ → ℕ → ℕ
overlay n c l k = cond (ltb (k % side) n) (c (k / side) (k % side)) (get_or l k 0)

unfoldable pub overlaid : ℕ → Table → List ℕ → List ℕ
overlaid n c l = rewritten (overlay n c l) l 0 (n * side)

-- ---- a rule

abbrev pub relaxed : List ℕ → List ℕ → ℕ → ℕ → ℕ → ℕ
relaxed l row via cut k = min (get_or l k 0) (via + get_or row (k % side) 0 - cut)

abbrev pub added_cell : List ℕ → ℕ → Rule → ℕ → ℕ
added_cell l n r = overlay n (add r (table_of l)) l

unfoldable pub added : List ℕ → ℕ → Rule → List ℕ
added l n r = overlaid n (add r (table_of l)) l

pub record Usable (n : ℕ) (r : Rule) : Type 0 where
  pub early_live : r.early < n
  pub late_live : r.late < n
  -- at most the clock and the lead, or an offset and a length
  pub few_more : r.more ≤ 102000000
  -- at most the largest horizon
  pub few_slack : r.slack ≤ bias

abbrev pub Bounded : ℕ → Table → Type 0
Bounded n c = (i j : ℕ) → i < n → j < n → c i j ≤ bias + bias

abbrev pub Whole : ℕ → Rule → Table → Type 0
Whole n r c = (a b : ℕ) → a < n → b < n → bias + r.more ≤ c a r.late + r.slack + c r.early b

-- ---- points

abbrev pub hung_cell : List ℕ → ℕ → ℕ → ℕ → ℕ
hung_cell l n H = overlay (n + 1) (grow H n (table_of l)) l

unfoldable pub grown : List ℕ → ℕ → ℕ → ℕ → List ℕ
grown l n m H = overlaid (n + m) (grow_all H n m (table_of l)) l

abbrev pub dropped_cell : List ℕ → ℕ → ℕ → ℕ → ℕ → ℕ
dropped_cell l f m left = overlay left (pick (old_number f m) (table_of l)) (replicate cell_count 0)

unfoldable pub dropped : List ℕ → ℕ → ℕ → ℕ → List ℕ
dropped l f m n = overlaid (n - m) (pick (old_number f m) (table_of l)) (replicate cell_count 0)
