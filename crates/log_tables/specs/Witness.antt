-- What shows how two boards differ: how many entries do, and a timetable that one of them allows and the other does not.
--   differing l m n   how many of the first n cells differ
--   differences b d   how many entries of two sound boards differ; 0 where one is not sound, which is not compared
--   witness_on x y     which of two boards allows a timetable that the other doesn't, where x and y are their cells at an entry that differs: the one
--                     with the larger
--   witness_time b i k the time of point k in the board's timetable in which each point is as late after point i as can be (`far`, crates/spec_stn);
--                     0 where a number is no point's
-- crates/theorem_agreement/specs/Witness says what holds of these times.
use Rattle.std.specs.Prelude.{ℕ, zero, suc, ◌-◌, cond, ◌&&◌, List, ltb, eqb, get_or}
use Rattle.spec_plain.specs.Limits.{side, cell_count}
use Rattle.part_gaps.specs.Cells.{cell}
use Rattle.part_boardwords.specs.Board.{Board}
use Rattle.part_sound.specs.Sound.{sound}
use Rattle.log_tables.specs.declared.showing.Which.{Which}
use Rattle.log_tables.specs.declared.showing.Which.TheVariants.{First, Second}

unfoldable pub differing : List ℕ → List ℕ → ℕ → ℕ
differing l m zero = 0
differing l m (suc n) = cond (eqb (get_or l n 0) (get_or m n 0)) (differing l m n) (suc (differing l m n))

unfoldable pub differences : Board → Board → ℕ
differences b d = cond (sound b) (cond (sound d) (differing b.gaps d.gaps cell_count) 0) 0

unfoldable pub witness_on : ℕ → ℕ → Which
witness_on x y = cond (ltb y x) First Second

-- the gap from i to k less the gap from i to the origin: the bias of the two cells falls out
unfoldable pub witness_time : Board → ℕ → ℕ → ℕ
witness_time b i k = cond (ltb i side && ltb k side) (cell b.gaps i k - cell b.gaps i 0) 0
