-- The abstract board: jobs, lines and clock of the plain machine, and a closed table that stands for the rules made so far. It is a
-- device of the proofs between rule book and board: it rules each call as the board does, over tables that are functions.
--   Board, AbstractRuled  a state and a table; a ruling and the board after it
--   refused_with b c  refused with the cause c, and the board as it came
--   settled b n s o  the state s with the table o, or refused with the number n where there is none
--   decided, departed what becomes of a draft and of a leaving;  heard: of a reading
--   sending, clocking   what becomes of a send and of a clock call that pass 18 and 19;  send_points: the points that a send sets
--   step b c         the answer to a call
--   fresh s          the board at the start;  book s rs, board s c: by their parts
use Rattle.std.specs.Prelude.{true, false, List, ℕ, suc, ◌+◌}
use Rattle.std.proofs.Math.Option.{Option, some, none}
use Rattle.base_rulings.specs.declared.Cause.{Cause}
use Rattle.base_rulings.specs.declared.Ruling.{Ruling}
use Rattle.base_rulings.specs.declared.Ruling.TheVariants.{Accepted, Refused}
use Rattle.base_rulings.specs.Answer.{plain}
use Rattle.spec_plain.specs.declared.Settings.{Settings}
use Rattle.spec_plain.specs.Plain
use Rattle.spec_plain.specs.Rules.{RuleOn}
use Rattle.spec_stn.specs.Table.{bias, Table, add_all, grow_all, earliest, entails_all, pick, old_number}
use Rattle.spec_rulebook.specs.Reading.{Reading, bad, good, reading_of}
use Rattle.spec_rulebook.specs.Book.{Book, Point, Call, plan, send, clock, retire}
use Rattle.spec_rulebook.specs.Book as Rulebook

pub record Board : Type 0 where
  pub state : Plain.State
  pub table : Table

pub record AbstractRuled : Type 0 where
  pub ruling : Ruling
  pub board : Board

abbrev pub board : Plain.State → Table → Board
board s c = record { state = s; table = c }

abbrev pub book : Plain.State → List (RuleOn Point) → Book
book s rs = record { state = s; rules = rs }

unfoldable pub refused_with : Board → Cause → AbstractRuled
refused_with b c = record { ruling = Refused c; board = b }

unfoldable pub settled : Board → ℕ → Plain.State → Option Table → AbstractRuled
settled b n s (some c) = record { ruling = Accepted; board = board s c }
settled b n s none = refused_with b (plain n)

-- (a) is in the points' making: `grow_all`
unfoldable pub decided : Board → Plain.Draft → AbstractRuled
decided b (Plain.Draft.stop c) = refused_with b c
decided b (Plain.Draft.go s n rs) =
    settled b 17 s (add_all rs (grow_all (Plain.upper_bound b.state.settings) (Plain.live_count b.state) n b.table))

unfoldable pub heard : Board → Reading → AbstractRuled
heard b (bad c) = refused_with b c
heard b (good o) = decided b (Plain.drafted b.state o)

unfoldable pub departed : Board → Plain.Leaving → AbstractRuled
departed b Plain.Leaving.stop = refused_with b (plain 21)
departed b (Plain.Leaving.go m rs s) =
    elim (entails_all b.table rs) [
      | true ↦ record { ruling = Accepted; board = board s (pick (old_number 1 m) b.table) }
      | false ↦ refused_with b (plain 21)
    ]

-- the points that a send up to this place sets
abbrev pub send_points : Plain.State → ℕ → List ℕ
send_points s place = Plain.unsent_points 1 (suc place) s.jobs

-- they are set equal to their earliest times, which never fails: so no refusal has a number here, and 0, which is no refusal's, stands for it
abbrev pub sending : Board → ℕ → AbstractRuled
sending b place =
    settled b 0 (Plain.sent_state b.state place) (add_all (Plain.freeze (earliest b.table) (send_points b.state place)) b.table)

abbrev pub clocking : Board → ℕ → AbstractRuled
clocking b c = settled b 20 (Plain.clock_state b.state c) (add_all (Plain.starts (c + b.state.settings.lead) 1 b.state.jobs) b.table)

unfoldable pub step : Board → Call → AbstractRuled
step b (plan p o) = heard b (reading_of b.state p o)
step b (send place) = elim (Plain.unsent_at place b.state.jobs) [ true ↦ sending b place | false ↦ refused_with b (plain 18) ]
step b (clock c) = elim (Plain.clock_ok b.state c) [ true ↦ clocking b c | false ↦ refused_with b (plain 19) ]
step b retire = departed b (Plain.leaving b.state)

unfoldable pub fresh : Settings → Board
fresh s = board (Rulebook.fresh s).state (λ i j. bias)
