-- Retire on a sound board, in terms of timetables: when the oldest job may leave, when it must stay, and what it leaves behind.
--   InLines x ls     the use x is in one of the lines ls
--   UseOf b m x      x is a use, on the board b, of the oldest job, whose points are 1 to m
--   IsOver b m u     in the timetable u that job's last point, with the tray gap, and the end of each of its uses, is at most the clock
--   Outlasts b m u   its last point, with the tray gap, or the end of one of its uses, is after the clock: one that ends after H too
--   MayLeave b       there is an oldest job, it is sent, and in every timetable of the board it is over
--   MustStay b       refusal 21: "There is no job to retire, or the oldest is unsent, or its last point or an allocation ends after the clock."
--   Leaves b a       the answer a to retire is accepted exactly when the job may leave, and refused with 21 exactly when it must stay
--   WithoutOldest b j js d  the board d is b without its oldest job j, of which js were the others
use Rattle.std.specs.Prelude.{◌≡◌, ◌↔◌, ◌⊎◌, true, false, List, [], ◌∷◌, map, ℕ, suc, ◌+◌, ◌≤◌, ◌<◌, pos, ◌+ℤ◌, ◌≤ℤ◌, ◌<ℤ◌}
use Rattle.base_rulings.specs.declared.Ruling.TheVariants.{Accepted}
use Rattle.base_rulings.specs.Answer.{refuse}
use Rattle.spec_plain.specs.Limits.{side}
use Rattle.spec_plain.specs.declared.Job.{Job}
use Rattle.spec_plain.specs.declared.Use.{Use}
use Rattle.spec_plain.specs.Plain.{end_of, tray_gap, staying}
use Rattle.spec_plain.specs.Rules.{Times}
use Rattle.spec_stn.specs.Table.{old_number}
use Rattle.part_gaps.specs.Cells.{cell}
use Rattle.part_boardwords.specs.Board.{Board}
use Rattle.call_board.specs.Ruled.{Ruled}
use Rattle.call_board.specs.Boards.{state_of}
use Rattle.call_board.specs.Calls.{refusal}
use Rattle.theorem_agreement.specs.Abstract.{live_points}
use Rattle.theorem_agreement.specs.Timetables.{Timetable, Minimal, In}

abbrev pub InLines : Use → List (List Use) → Type 0
InLines x [] = ⊥
InLines x (us ∷ ls) = In x us ⊎ InLines x ls

pub record UseOf (b : Board) (m : ℕ) (x : Use) : Type 0 where
  pub held : InLines x (state_of b).lines
  pub first : 1 ≤ x.point
  pub last : x.point ≤ m

pub record IsOver (b : Board) (m : ℕ) (u : Times) : Type 0 where
  pub last : (u m +ℤ pos (tray_gap b.settings)) ≤ℤ pos b.clock
  pub uses : (x : Use) → UseOf b m x → (u x.point +ℤ pos (end_of b.settings x)) ≤ℤ pos b.clock

abbrev pub Outlasts : Board → ℕ → Times → Type 0
Outlasts b m u =
    (pos b.clock <ℤ (u m +ℤ pos (tray_gap b.settings)))
    ⊎ ((x : Use) × UseOf b m x × (pos b.clock <ℤ (u x.point +ℤ pos (end_of b.settings x))))

pub data MayLeave (b : Board) : Type 0 where
  over : (j : Job) (js : List Job) → (state_of b).jobs ≡ j ∷ js → j.sent ≡ true → ((u : Times) → Timetable b u → IsOver b j.points u) → MayLeave b

pub data MustStay (b : Board) : Type 0 where
  no_job_lem : (state_of b).jobs ≡ [] → MustStay b
  unsent : (j : Job) (js : List Job) → (state_of b).jobs ≡ j ∷ js → j.sent ≡ false → MustStay b
  outlasts : (j : Job) (js : List Job) → (state_of b).jobs ≡ j ∷ js → (u : Times) → Timetable b u → Outlasts b j.points u → MustStay b

pub record Leaves (b : Board) (a : Ruled) : Type 0 where
  pub accepted : (a.ruling ≡ Accepted) ↔ MayLeave b
  pub refused : (a.ruling ≡ refuse 21) ↔ MustStay b
  pub either : (a.ruling ≡ Accepted) ⊎ (a ≡ refusal b 21)

pub record WithoutOldest (b : Board) (j : Job) (js : List Job) (d : Board) : Type 0 where
  -- "the oldest job leaves the list and the lines; later points are renumbered down"
  pub jobs : (state_of d).jobs ≡ js
  pub lines : (state_of d).lines ≡ map (staying 1 j.points) (state_of b).lines
  pub numbers : (d.settings ≡ b.settings) × (d.clock ≡ b.clock)
  pub cells :
      (i k : ℕ) → i < live_points d → k < live_points d
      → cell d.gaps i k ≡ cell b.gaps (old_number 1 j.points i) (old_number 1 j.points k)
  pub freed : (i k : ℕ) → i < side → k < side → live_points d ≤ i ⊎ live_points d ≤ k → cell d.gaps i k ≡ 0
  -- "Retired room is used again."
  pub points : live_points b ≡ live_points d + j.points
  pub count : b.jobs.count ≡ suc d.jobs.count
  -- no timetable is lost and none comes in: the table is the gap table of the timetables of before, renumbered
  pub table : Minimal (λ v. (u : Times) × Timetable b u × ((k : ℕ) → u (old_number 1 j.points k) ≡ v k)) d
