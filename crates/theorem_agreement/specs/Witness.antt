-- What the program `compare` shows where two boards differ is so: the timetable is one of the board that it names, and none of the other
-- (crates/log_tables/specs/Witness).
--   shown_times b i    the times shown of the board b, where the entry that differs is in row i
--   Separates b d u   u is a timetable of the board b and none of the board d
--   Shows v b d i     of the boards b and d the times shown of the one that v names are its timetable, and none of the other
--   WitnessRight      of any two sound boards, made by hand too, whose comparison names the entry e: the times shown of the board with the larger
--                     cell are its timetable, and none of the other
--   CountRight        of any two sound boards with as many live points, the number of entries that differ is 0 exactly when the answer is Equal
use Rattle.std.specs.Prelude.{ℕ, ◌≡◌, ◌↔◌, pos}
use Rattle.spec_plain.specs.Rules.{Times}
use Rattle.part_boardwords.specs.Board.{Board}
use Rattle.part_sound.specs.Sound.{Sound}
use Rattle.log_tables.specs.declared.showing.Which.{Which}
use Rattle.log_tables.specs.declared.showing.Which.TheVariants.{First, Second}
use Rattle.log_tables.specs.declared.Entry.{Entry}
use Rattle.log_tables.specs.declared.Compared.TheVariants.{Entry as EntryAnswer, Equal}
use Rattle.log_tables.specs.Compared.{compared}
use Rattle.log_tables.specs.Witness.{differences, witness_on, witness_time}
use Rattle.theorem_agreement.specs.Abstract.{Shaped, live_points}
use Rattle.theorem_agreement.specs.Timetables.{Timetable}

abbrev pub shown_times : Board → ℕ → Times
shown_times b i k = pos (witness_time b i k)

abbrev pub Separates : Board → Board → Times → Type 0
Separates b d u = Timetable b u × ¬ (Timetable d u)

abbrev pub Shows : Which → Board → Board → ℕ → Type 0
Shows First b d i = Separates b d (shown_times b i)
Shows Second b d i = Separates d b (shown_times d i)

-- `witness_on x y` is First where x is larger, else Second
abbrev pub WitnessRight : Type 0
WitnessRight =
    (b d : Board) → Shaped b → Shaped d → Sound b → Sound d → (e : Entry) → compared b d ≡ EntryAnswer e → Shows (witness_on e.first e.second) b d e.row

abbrev pub CountRight : Type 0
CountRight =
    (b d : Board) → Shaped b → Shaped d → Sound b → Sound d → live_points b ≡ live_points d → (differences b d ≡ 0) ↔ (compared b d ≡ Equal)
