-- Demand 3: "The two gap tables .. are equal in every entry exactly when the same timetables are possible on both boards."
--   SameCells b d   all 4225 cells of the two boards' tables are equal
--   Demand3         the claim: any two fresh boards, any two lists of calls that leave the same number of live points
-- Settings in range are those that fresh accepts. Each board has its own rule book, fed that board's list: it has the board's rulings and comes to a
-- book, and the claim holds of k and j whichever they come to (`RunsTo`). Possible is the rule book's: whole numbers for the retired points complete
-- the timetable so that every rule made by the accepted calls of the list is kept. The same of the words that C lends: specs/OnWords.
use Rattle.std.specs.Prelude.{◌≡◌, ◌↔◌, List, ℕ, ◌<◌, false}
use Rattle.part_gaps.specs.Cells.{cell}
use Rattle.spec_rulebook.specs.Book.{Book, Call}
use Rattle.part_boardwords.specs.Board.{Board}
use Rattle.spec_plain.specs.Limits.{side}
use Rattle.spec_plain.specs.declared.Settings.{Settings}
use Rattle.call_board.specs.Boards.{bad_settings}
use Rattle.theorem_demands.specs.Cases.{RunsTo, SameTimetables}
use Rattle.theorem_agreement.specs.Abstract.{live_points}
use Rattle.theorem_agreement.specs.Runs.{started, board_after, rulings}

abbrev pub SameCells : Board → Board → Type 0
SameCells b d = (i j : ℕ) → i < side → j < side → cell b.gaps i j ≡ cell d.gaps i j

abbrev pub Demand3 : Type 0
Demand3 =
    (s t : Settings) → bad_settings s ≡ false → bad_settings t ≡ false → (cs ds : List Call)
    → live_points (board_after (started s) cs) ≡ live_points (board_after (started t) ds)
    → RunsTo s cs (rulings (started s) cs) (λ (k : Book). RunsTo t ds (rulings (started t) ds) (λ (j : Book).
    SameCells (board_after (started s) cs) (board_after (started t) ds) ↔ SameTimetables k j))
