-- What demand 2 says of a board, in terms of timetables alone. Y is a set of timetables: those meant (`LeastTime Y`,
-- `GreatestTime Y` and `LargestGap Y` are rulebook's).
--   Timetable b u       the timetable u keeps to the board b: the origin at 0, and every cell of two live points kept
--   Some Y              there is one of Y
--   Minimal Y b         the board's table is the gap table of Y: it allows exactly Y, each gap in it is the largest, each
--                       earliest time the least, and the earliest times together are one of Y
--   Decided b n Y next a   a call with the answer a is accepted exactly when Y is not empty, and else refused with the number n; accepted, it leaves
--                       the state `next` and the gap table of Y
--   In x xs             x is one of the list xs;  AtLeast b xs u: each of the points xs is at its least time over the board's timetables
--   SetLeast b xs next a   a call with the answer a leaves the state `next`, and sets each of the points xs to its least time over the board's timetables
--   Tells b x r         the row r of a report is that of point x: it names the point, and its least and greatest time over the board's timetables
use Rattle.std.specs.Prelude.{◌≡◌, ◌↔◌, ◌⊎◌, List, [], ◌∷◌, ℕ, suc, ◌+◌, ◌<◌, get_or, take, pos}
use Rattle.base_rulings.specs.declared.Ruling.TheVariants.{Accepted}
use Rattle.spec_plain.specs.Plain.{State, total}
use Rattle.spec_plain.specs.Rules.{Times}
use Rattle.part_lines.specs.ArrayLists.{no_job}
use Rattle.spec_rulebook.specs.Book.{LeastTime, GreatestTime, LargestGap}
use Rattle.spec_stn.specs.Table.{gap, Fits, earliest, soonest}
use Rattle.part_gaps.specs.Cells.{table_of}
use Rattle.part_boardwords.specs.Board.{Board}
use Rattle.call_board.specs.Ruled.{Ruled}
use Rattle.call_board.specs.Boards.{state_of}
use Rattle.call_board.specs.Calls.{refusal}
use Rattle.call_report.specs.declared.Row.{Row}
use Rattle.theorem_agreement.specs.Abstract.{live_points}

abbrev pub Timetable : Board → Times → Type 0
Timetable b u = (u 0 ≡ pos 0) × Fits (live_points b) (table_of b.gaps) u

abbrev pub Some : (Times → Type 0) → Type 0
Some Y = (u : Times) × Y u

pub record Minimal (Y : Times → Type 0) (b : Board) : Type 0 where
  pub same : (u : Times) → Timetable b u ↔ Y u
  pub gaps : (i j : ℕ) → i < live_points b → j < live_points b → LargestGap Y i j (gap (table_of b.gaps) i j)
  pub earliests : (x : ℕ) → x < live_points b → LeastTime Y x (earliest (table_of b.gaps) x)
  pub together : Y (soonest (table_of b.gaps))

pub record Decided (b : Board) (n : ℕ) (Y : Times → Type 0) (next : State) (a : Ruled) : Type 0 where
  pub accepted : (a.ruling ≡ Accepted) ↔ Some Y
  pub refused : (a ≡ refusal b n) ↔ ¬ (Some Y)
  pub either : (a.ruling ≡ Accepted) ⊎ (a ≡ refusal b n)
  -- the board after an accepted call: its jobs, lines, clock and settings, and its table
  pub state : a.ruling ≡ Accepted → state_of a.board ≡ next
  pub table : a.ruling ≡ Accepted → Minimal Y a.board

abbrev pub In : {A : Type 0} → A → List A → Type 0
In x [] = ⊥
In x (y ∷ ys) = (x ≡ y) ⊎ In x ys

abbrev pub AtLeast : Board → List ℕ → Times → Type 0
AtLeast b xs u = (x v : ℕ) → In x xs → LeastTime (Timetable b) x v → u x ≡ pos v

pub record SetLeast (b : Board) (xs : List ℕ) (next : State) (a : Ruled) : Type 0 where
  pub accepted : a.ruling ≡ Accepted
  pub state : state_of a.board ≡ next
  -- there is a timetable left
  pub some : Some (Timetable a.board)
  -- each point stands at its least time of before the call, in all timetables after it
  pub still : (x : ℕ) → In x xs → (v : ℕ) × LeastTime (Timetable b) x v × ((u : Times) → Timetable a.board u → u x ≡ pos v)
  pub table : Minimal (λ u. Timetable b u × AtLeast b xs u) a.board

pub record Tells (b : Board) (x : ℕ) (r : Row) : Type 0 where
  -- the origin, the points of the jobs before the row's job, and those before the row's point in it, are all before x
  pub number : suc (total (take r.job (state_of b).jobs) + r.point) ≡ x
  pub point : r.point < (get_or (state_of b).jobs r.job no_job).points
  pub earliest : LeastTime (Timetable b) x r.earliest
  pub latest : GreatestTime (Timetable b) x r.latest
