-- The board beside the rule book. Every sound board, one made by hand too, is the board of a rule book: of that with one rule for each
-- cell of two live points.
--   Shaped b           the arrays of the board b have their lengths, as those of every board that code can hold
--   live_points b       how many points live, with the origin
--   abstract_of b       the board b as the proofs' abstract board: its state, and the table that its cells hold
--   cell_rule l i j     the rule of the cell (i, j): time of j + bias is at most time of i + cell
--   row_rules, table_rules   the rules of the first n cells of row i; of the first k rows
--   book_of b           the rule book of the board b
--   Agreed R a         R, a call's outcomes in the rule book, and the board's answer a agree
use Rattle.std.specs.Prelude.{◌≡◌, List, [], ◌∷◌, ◌++◌, ℕ, zero, suc, length}
use Rattle.base_rulings.specs.declared.Ruling.{Ruling}
use Rattle.spec_plain.specs.Limits.{resources, cell_count, most_jobs}
use Rattle.spec_plain.specs.Plain.{live_count}
use Rattle.spec_plain.specs.Rules.{RuleOn}
use Rattle.spec_stn.specs.Table.{bias}
use Rattle.part_gaps.specs.Cells.{cell, table_of}
use Rattle.part_boardwords.specs.Board.{Board}
use Rattle.call_board.specs.Ruled.{Ruled}
use Rattle.call_board.specs.Boards.{state_of}
use Rattle.spec_rulebook.specs.Book.{Book, Point}
use Rattle.theorem_demands.specs.Model as Model
use Rattle.theorem_demands.specs.Beside.{Sim}

pub record Shaped (b : Board) : Type 0 where
  pub jobs : length b.jobs.jobs ≡ most_jobs
  pub lines : length b.lines ≡ resources
  pub gaps : length b.gaps ≡ cell_count

abbrev pub live_points : Board → ℕ
live_points b = live_count (state_of b)

abbrev pub abstract_of : Board → Model.Board
abstract_of b = Model.board (state_of b) (table_of b.gaps)

-- ---- the rule book of a board

unfoldable pub cell_rule : List ℕ → ℕ → ℕ → RuleOn Point
cell_rule l i j = record { early = Point.live j; more = bias; late = Point.live i; slack = cell l i j }

unfoldable pub row_rules : List ℕ → ℕ → ℕ → List (RuleOn Point)
row_rules l i zero = []
row_rules l i (suc n) = cell_rule l i n ∷ row_rules l i n

unfoldable pub table_rules : List ℕ → ℕ → ℕ → List (RuleOn Point)
table_rules l n zero = []
table_rules l n (suc k) = row_rules l k n ++ table_rules l n k

abbrev pub book_of : Board → Book
book_of b = Model.book (state_of b) (table_rules b.gaps (live_points b) (live_points b))

-- ---- calls

pub record Agreed (R : Ruling → Book → Type 0) (a : Ruled) : Type 0 where
  -- every outcome has the board's ruling, and its book is beside the board after the call
  pub keeps : (r : Ruling) (k : Book) → R r k → (r ≡ a.ruling) × Sim (abstract_of a.board) k
  -- there is an outcome
  pub exists : (k : Book) × R a.ruling k
