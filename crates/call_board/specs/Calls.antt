-- The answers of the board's calls: ruling and whole board, for every board and every argument.
--   refused_with b c   refused with the cause c, and the very board that came;  refusal b n: with a number alone
--   accepted s l      accepted: the board of the state s and the cells l
--   settled b n s o   accepted with the cells o; refused with the number n where there are none
--   unless_refused r b a  a refusal r comes first, then the answer a
--   decided b d       what a draft d comes to: 14, 15, 16, 17, or the board with the job;  heard b r: the same of an offer as it was read, or 7 to 13 or 23
--   planned b p o     plan, of the plant file p and the offer o: 1 to 4, 6, 7 to 10, 23, 11 to 16, 17, or the board with the job. That 17 and the new
--                     table mean what document 01 says is demand 2 (crates/theorem_agreement/specs/Demand2)
--   send_rules b place  the rules that set the points of the jobs to be sent to their earliest times
--   sent b place      send: 6, 18, or the board with the jobs sent
--   clocked b c       clock: 6, 19, 20, or the board with its clock moved
--   departed b d      what leaving comes to: 21, or the board without its oldest job
--   retired b         retire: 6, 21, or the board without its oldest job
-- Jobs, lines, clock and rules are the plain machine's, as in the rule book; the table is the list of its cells. That the cells are the
-- gaps over the timetables meant, on every sound board, is proved in the crate theorem_agreement.
use Rattle.std.specs.Prelude.{ℕ, suc, ◌+◌, cond, not, List}
use Rattle.std.proofs.Math.Option.{Option, some, none}
use Rattle.base_rulings.specs.declared.Cause.{Cause}
use Rattle.base_rulings.specs.declared.Ruling.{Ruling}
use Rattle.base_rulings.specs.declared.Ruling.TheVariants.{Accepted, Refused}
use Rattle.base_rulings.specs.Answer.{plain}
use Rattle.read_plant.specs.Plant.{plant_ruling}
use Rattle.spec_plain.specs.declared.Rule.{Rule}
use Rattle.spec_plain.specs.Plain
use Rattle.spec_rulebook.specs.Reading.{Reading, bad, good, reading_of}
use Rattle.spec_stn.specs.Table.{earliest, entails_all}
use Rattle.part_gaps.specs.Cells.{table_of, grown, dropped}
use Rattle.part_boardwords.specs.Board.{Board}
use Rattle.part_sound.specs.Sound.{sound}
use Rattle.part_settling.specs.Settled.{added_all, added_each}
use Rattle.call_board.specs.Ruled.{Ruled}
use Rattle.call_board.specs.Boards.{state_of, board_of}

-- "a refused call changes nothing"
abbrev pub refused_with : Board → Cause → Ruled
refused_with b c = record { ruling = Refused c; board = b }

abbrev pub refusal : Board → ℕ → Ruled
refusal b n = refused_with b (plain n)

abbrev pub accepted : Plain.State → List ℕ → Ruled
accepted s l = record { ruling = Accepted; board = board_of s l }

unfoldable pub settled : Board → ℕ → Plain.State → Option (List ℕ) → Ruled
settled b n s (some l) = accepted s l
settled b n s none = refusal b n

unfoldable pub unless_refused : Ruling → Board → Ruled → Ruled
unless_refused Accepted b a = a
unless_refused (Refused c) b a = refused_with b c

-- ---- plan

-- (a) is in the making of the new points; 17 where the rules (b) to (e) and of the due time do not agree with the table
unfoldable pub decided : Board → Plain.Draft → Ruled
decided b (Plain.Draft.stop c) = refused_with b c
decided b (Plain.Draft.go s m rs) =
    let n = Plain.live_count (state_of b) in
    settled b 17 s (added_all rs (n + m) (grown b.gaps n m (Plain.upper_bound (state_of b).settings)))

unfoldable pub heard : Board → Reading → Ruled
heard b (bad c) = refused_with b c
heard b (good o) = decided b (Plain.drafted (state_of b) o)

-- "Each call makes the checks that concern it in this order": the plant file (1 to 4) before the board (6), the offer (7 to 17, and 23) after it
unfoldable pub planned : Board → List ℕ → List ℕ → Ruled
planned b p o = unless_refused (plant_ruling p) b (cond (not (sound b)) (refusal b 6) (heard b (reading_of (state_of b) p o)))

-- ---- send

-- each point of the unsent jobs up to the place is set to its least value over the timetables before the call: its earliest time
unfoldable pub send_rules : Board → ℕ → List Rule
send_rules b place = Plain.freeze (earliest (table_of b.gaps)) (Plain.unsent_points 1 (suc place) (state_of b).jobs)

-- the earliest times are a timetable together, so that these rules agree
unfoldable pub sent : Board → ℕ → Ruled
sent b place =
    cond (not (sound b)) (refusal b 6)
    (cond (not (Plain.unsent_at place (state_of b).jobs)) (refusal b 18)
    (accepted (Plain.sent_state (state_of b) place) (added_each (send_rules b place) (Plain.live_count (state_of b)) b.gaps)))

-- ---- clock

unfoldable pub clocked : Board → ℕ → Ruled
clocked b c =
    cond (not (sound b)) (refusal b 6)
    (cond (not (Plain.clock_ok (state_of b) c)) (refusal b 19)
    (settled b 20 (Plain.clock_state (state_of b) c)
    (added_all (Plain.starts (c + (state_of b).settings.lead) 1 (state_of b).jobs) (Plain.live_count (state_of b)) b.gaps)))

-- ---- retire

-- 21 for no job and for an unsent one; else the rules say that its last point, with the tray gap, and its uses end by the clock, and the table
-- says whether they are kept in every timetable
unfoldable pub departed : Board → Plain.Leaving → Ruled
departed b Plain.Leaving.stop = refusal b 21
departed b (Plain.Leaving.go m rs s) =
    cond (entails_all (table_of b.gaps) rs) (accepted s (dropped b.gaps 1 m (Plain.live_count (state_of b)))) (refusal b 21)

unfoldable pub retired : Board → Ruled
retired b = cond (not (sound b)) (refusal b 6) (departed b (Plain.leaving (state_of b)))
