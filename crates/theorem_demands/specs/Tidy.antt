-- Runs with the table held in lists, so that a closed case computes: a table that is a function reads its predecessor three times for
-- each rule, so ten rules are 59,049 reads of each cell; held in a list each cell is computed once.
--   tidy n c     the table c of the first n points, its cells held in lists of rows
--   tidied b     a board with its table so
--   board_after, rulings  the board after a list of calls, and their rulings, tidied after each call
use Rattle.std.specs.Prelude.{List, [], ◌∷◌, ℕ, get_or}
use Rattle.base_rulings.specs.declared.Ruling.{Ruling}
use Rattle.spec_plain.specs.Plain
use Rattle.base_lists.specs.Loops.{build}
use Rattle.spec_stn.specs.Table.{Table}
use Rattle.spec_rulebook.specs.Book.{Call}
use Rattle.theorem_demands.specs.Model.{Board, board, step}

unfoldable pub tidy : ℕ → Table → Table
tidy n c = let rows = build (λ i. build (c i) n) n in λ i j. get_or (get_or rows i []) j 0

unfoldable pub tidied : Board → Board
tidied b = board b.state (tidy (Plain.live_count b.state) b.table)

unfoldable pub board_after : Board → List Call → Board
board_after b [] = b
board_after b (c ∷ cs) = board_after (tidied (step b c).board) cs

unfoldable pub rulings : Board → List Call → List Ruling
rulings b [] = []
rulings b (c ∷ cs) = let a = step b c in a.ruling ∷ rulings (tidied a.board) cs
