-- Lists of calls: "The first call gets the fresh board, each later one the board that the call before returned."
--   started s        the board that fresh gives for these settings
--   opened s         the rule book fed with what that board was made with
--   call_ruled b c    the board's answer to a call, by the definitions that the contracts of plan, send, clock and retire name
--   board_after b cs  the board after a list of calls;  rulings b cs: their rulings
--   Represents b k   the board b says what the rule book k does: state, timetables, every gap, every earliest and latest time
--   Agreement s cs   board and rule book agree over the list cs from settings s, and what else holds of every board that is reached
use Rattle.std.specs.Prelude.{◌≡◌, ◌↔◌, List, [], ◌∷◌, ℕ, ◌<◌}
use Rattle.base_rulings.specs.declared.Ruling.{Ruling}
use Rattle.base_rulings.specs.Answer.{number_of}
use Rattle.spec_plain.specs.Rules.{Times}
use Rattle.base_lists.specs.All.{All}
use Rattle.spec_rulebook.specs.Book.{Book, Call, plan, send, clock, retire, fresh, Runs, Possible, Consistent, Gap, Least, Greatest}
use Rattle.spec_stn.specs.Table.{gap, earliest, latest}
use Rattle.part_gaps.specs.Cells.{table_of}
use Rattle.part_boardwords.specs.Board.{Board}
use Rattle.part_sound.specs.Sound.{Sound}
use Rattle.spec_plain.specs.declared.Settings.{Settings}
use Rattle.call_board.specs.Ruled.{Ruled}
use Rattle.call_board.specs.Boards.{state_of, fresh_ruled}
use Rattle.call_board.specs.Calls.{planned, sent, clocked, retired}
use Rattle.theorem_demands.specs.Cases.{SameTimetables}
use Rattle.theorem_agreement.specs.Abstract.{Shaped, live_points}
use Rattle.theorem_agreement.specs.Timetables.{Timetable, Some}

abbrev pub started : Settings → Board
started s = (fresh_ruled s).board

abbrev pub opened : Settings → Book
opened s = fresh s

unfoldable pub call_ruled : Board → Call → Ruled
call_ruled b (plan p o) = planned b p o
call_ruled b (send place) = sent b place
call_ruled b (clock c) = clocked b c
call_ruled b retire = retired b

unfoldable pub board_after : Board → List Call → Board
board_after b [] = b
board_after b (c ∷ cs) = board_after (call_ruled b c).board cs

unfoldable pub rulings : Board → List Call → List Ruling
rulings b [] = []
rulings b (c ∷ cs) = (call_ruled b c).ruling ∷ rulings (call_ruled b c).board cs

pub record Represents (b : Board) (k : Book) : Type 0 where
  -- the same jobs, lines, clock and settings
  pub state : state_of b ≡ k.state
  -- the timetables that keep to the table are those possible in the rule book, and there is one
  pub timetables : (u : Times) → Timetable b u ↔ Possible k u
  pub possible : Consistent k
  -- "Entry (i, j) of the gap table is the largest time of j minus time of i over the possible timetables."
  pub gaps : (i j : ℕ) → i < live_points b → j < live_points b → Gap k i j (gap (table_of b.gaps) i j)
  -- "Earliest and latest times are read from the origin's column and row."
  pub earliests : (x : ℕ) → x < live_points b → Least k x (earliest (table_of b.gaps) x)
  pub latests : (x : ℕ) → x < live_points b → Greatest k x (latest (table_of b.gaps) x)

pub record Agreement (s : Settings) (cs : List Call) : Type 0 where
  -- whatever run of the rule book is taken, its rulings are the board's, numbers and values
  pub same_rulings_lem : (rs : List Ruling) (k : Book) → Runs (opened s) cs rs k → rs ≡ rulings (started s) cs
  -- there is a run, and the board represents the book of every run
  pub exists : (k : Book) × Runs (opened s) cs (rulings (started s) cs) k
  pub represents : (rs : List Ruling) (k : Book) → Runs (opened s) cs rs k → Represents (board_after (started s) cs) k
  -- so any two have the same possible timetables
  pub same_timetables : (rs qs : List Ruling) (k j : Book) → Runs (opened s) cs rs k → Runs (opened s) cs qs j → SameTimetables k j
  -- the board has a timetable, is sound, and no call of the list got 6
  pub some : Some (Timetable (board_after (started s) cs))
  pub sound : Sound (board_after (started s) cs)
  pub shaped : Shaped (board_after (started s) cs)
  pub never_6 : All (λ r. ¬ (number_of r ≡ 6)) (rulings (started s) cs)
