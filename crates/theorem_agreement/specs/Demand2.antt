-- Demand 2: "The ruling equals document 01's definition." It is said of every sound board, one made by hand too, and of every list of calls; of a foolish
-- offer as of a good one.
--   FactsRight    "An offer in right format, with no fact known both ways, passes the fact check exactly when every full state that fits the known
--                 facts runs through the chain legally to the goal."
--   PlansRight    "Past the format, fact and limit checks it is accepted exactly when some timetable keeps the standing rules and its own": the
--                 board's timetables are those that keep the standing rules, and the offer's own are (a) to (e)
--   NoRoom s n    there are 16 jobs on the state s, or the points would pass 64 with n more;  Full b p o: so, for an offer that is read
--   Late b p o    the due time is past the horizon, for an offer whose bytes and facts pass
--   ReportsRight  "and the earliest times reported are the least any such timetable has"
--   Demand2       all of it, with the other calls, and the rulings over every list
use Rattle.std.specs.Prelude.{◌≡◌, ◌↔◌, ◌⊎◌, false, List, ◌++◌, ℕ, suc, ◌+◌, ◌≤◌, ◌<◌, length, get_or}
use Rattle.base_masks.specs.Mask.{share}
use Rattle.base_rulings.specs.declared.Ruling.TheVariants.{Accepted}
use Rattle.base_rulings.specs.Answer.{refuse}
use Rattle.read_facts.specs.Forward.{AllRun}
use Rattle.read_plant.specs.Plant.{plant_ruling}
use Rattle.read_offer.specs.Offer.{due_of, known_of, goal_of, chain_of, offer_ruling, consistency_ruling, fact_check}
use Rattle.spec_plain.specs.Limits.{most_jobs, most_points}
use Rattle.spec_plain.specs.declared.Settings.{Settings}
use Rattle.spec_plain.specs.declared.Rule.{Rule}
use Rattle.spec_plain.specs.Plain.{Offer, State, Draft, total, new_points, upper_bound, bounds, drafted, unsent_points, sent_state, clock_state, starts}
use Rattle.spec_plain.specs.Rules.{KeepsAll}
use Rattle.spec_rulebook.specs.Reading.{good, reading_of}
use Rattle.spec_rulebook.specs.Book.{Call}
use Rattle.part_lines.specs.ArrayLists.{no_job}
use Rattle.part_boardwords.specs.Board.{Board}
use Rattle.part_sound.specs.Sound.{Sound}
use Rattle.call_board.specs.Boards.{state_of, bad_settings}
use Rattle.call_board.specs.Calls.{planned, sent, clocked, retired}
use Rattle.call_report.specs.Rows.{rows_of, no_row}
use Rattle.theorem_agreement.specs.Abstract.{Shaped, live_points}
use Rattle.theorem_agreement.specs.Timetables.{Timetable, Decided, SetLeast, Tells}
use Rattle.theorem_agreement.specs.Retire.{Leaves}
use Rattle.theorem_agreement.specs.Runs.{Agreement}

abbrev pub FactsRight : Type 0
FactsRight =
    (p o : List ℕ) → plant_ruling p ≡ Accepted → offer_ruling p o ≡ Accepted → share (known_of o).pos (known_of o).neg ≡ false
    → (fact_check p o ≡ Accepted) ↔ AllRun (known_of o) (chain_of p o) (goal_of o)

abbrev pub NoRoom : State → ℕ → Type 0
NoRoom s n = (length s.jobs ≡ most_jobs) ⊎ (most_points < total s.jobs + n)

-- Past 1 to 4, 6, 7 to 13 and 23 the offer is `offer`; past 14, 15 and 16 it brings m points and the rules rs, and `next` is the state to be
abbrev pub PlansRight : Board → Type 0
PlansRight b =
    (p o : List ℕ) (offer : Offer) (next : State) (m : ℕ) (rs : List Rule)
    → reading_of (state_of b) p o ≡ good offer → drafted (state_of b) offer ≡ Draft.go next m rs
    → Decided b 17 (λ u. Timetable b u × KeepsAll u (bounds (upper_bound b.settings) (live_points b) m ++ rs)) next (planned b p o)

abbrev pub ReportsRight : Board → Type 0
ReportsRight b = (k : ℕ) → k < length (rows_of b) → Tells b (suc k) (get_or (rows_of b) k no_row)

-- 14: "There are 16 jobs, or the points would pass 64", for an offer that passes 1 to 4, 7 to 13 and 23
pub record Full (b : Board) (p o : List ℕ) : Type 0 where
  pub offer : Offer
  pub reads : reading_of (state_of b) p o ≡ good offer
  pub no_room : NoRoom (state_of b) (new_points offer)

-- 23, "when the due time is past the horizon", for an offer that passes 1 to 4 and 7 to 10
pub record Late (b : Board) (p o : List ℕ) : Type 0 where
  pub plant : plant_ruling p ≡ Accepted
  pub format : offer_ruling p o ≡ Accepted
  pub facts : consistency_ruling o ≡ Accepted
  pub late : b.settings.horizon < due_of o

pub record Demand2 : Type 0 where
  pub facts : FactsRight
  pub plans : (b : Board) → Shaped b → Sound b → PlansRight b
  pub fourteens : (b : Board) → Shaped b → Sound b → (p o : List ℕ) → ((planned b p o).ruling ≡ refuse 14) ↔ Full b p o
  pub twenty_threes : (b : Board) → Shaped b → Sound b → (p o : List ℕ) → ((planned b p o).ruling ≡ refuse 23) ↔ Late b p o
  pub reports : (b : Board) → Shaped b → Sound b → ReportsRight b
  -- send, past 18: each point of the unsent jobs up to the place stands at its least time
  pub sends :
      (b : Board) → Shaped b → Sound b → (place : ℕ) → place < length (state_of b).jobs → (get_or (state_of b).jobs place no_job).sent ≡ false
      → SetLeast b (unsent_points 1 (suc place) (state_of b).jobs) (sent_state (state_of b) place) (sent b place)
  -- clock, past 19: accepted exactly when some timetable is left, and else 20
  pub clocks :
      (b : Board) → Shaped b → Sound b → (c : ℕ) → b.clock ≤ c → c ≤ b.settings.horizon
      → Decided b 20 (λ u. Timetable b u × KeepsAll u (starts (c + b.settings.lead) 1 (state_of b).jobs)) (clock_state (state_of b) c) (clocked b c)
  -- retire: accepted exactly when the oldest job may leave, and else 21
  pub retires : (b : Board) → Shaped b → Sound b → Leaves b (retired b)
  -- over every list of calls the rulings are the rule book's, numbers and values, and the board represents its book
  pub lists : (s : Settings) → bad_settings s ≡ false → (cs : List Call) → Agreement s cs
