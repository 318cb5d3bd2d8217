-- The program `compare` says "the same timetables are possible on both boards" and means it: demand 3 for its answer Equal (crates/log_tables).
--   ComparesRight   of any two fresh boards, after any two lists of calls, the answer is Equal exactly when as many points live on both
--                   and the same timetables are possible
--   ComparesMeant   of any two sound boards, made by hand too: exactly when as many points live on both and "the timetables meant", "those that the
--                   table allows", are the same
use Rattle.std.specs.Prelude.{◌≡◌, ◌↔◌, List, false}
use Rattle.spec_rulebook.specs.Book.{Book, Call}
use Rattle.spec_plain.specs.declared.Settings.{Settings}
use Rattle.spec_plain.specs.Rules.{Times}
use Rattle.part_boardwords.specs.Board.{Board}
use Rattle.part_sound.specs.Sound.{Sound}
use Rattle.call_board.specs.Boards.{bad_settings}
use Rattle.theorem_demands.specs.Cases.{RunsTo, SameTimetables}
use Rattle.log_tables.specs.declared.Compared.TheVariants.{Equal}
use Rattle.log_tables.specs.Compared.{compared}
use Rattle.theorem_agreement.specs.Abstract.{Shaped, live_points}
use Rattle.theorem_agreement.specs.Timetables.{Timetable}
use Rattle.theorem_agreement.specs.Runs.{started, board_after, rulings}

abbrev pub ComparesRight : Type 0
ComparesRight =
    (s t : Settings) → bad_settings s ≡ false → bad_settings t ≡ false → (cs ds : List Call)
    → RunsTo s cs (rulings (started s) cs) (λ (k : Book). RunsTo t ds (rulings (started t) ds) (λ (j : Book).
    (compared (board_after (started s) cs) (board_after (started t) ds) ≡ Equal)
    ↔ ((live_points (board_after (started s) cs) ≡ live_points (board_after (started t) ds)) × SameTimetables k j)))

abbrev pub ComparesMeant : Type 0
ComparesMeant =
    (b d : Board) → Shaped b → Shaped d → Sound b → Sound d
    → (compared b d ≡ Equal) ↔ ((live_points b ≡ live_points d) × ((u : Times) → Timetable b u ↔ Timetable d u))
