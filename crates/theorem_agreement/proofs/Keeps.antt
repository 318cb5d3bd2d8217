-- On a sound board every call's answer is the abstract board's, and the board after it is sound again.
--   Answered a m       the answer a is the abstract answer m: same ruling, same state, the same cells of live points; and its board is
--                      sound, its arrays of their lengths
--   plan_answered, send_answered, clock_answered   each call's answer is
--   refused_answered   a refusal's is;  retire's is in Retiring
--   planned_is         on a sound board the plant file's refusals come with the reading's
use mathlib.Core.Path.{◌≡◌, refl, sym, subst}
use mathlib.Core.Bool.{Bool, true, false, cond, not}
use mathlib.Core.List.{List}
use mathlib.Core.Option.{Option, some, none}
use Prim.Native.Nat.{ℕ, ◌+◌, ◌≤◌}
use native.Mathlib.Omega.{arith}
use lib.ListN.{length}
use Rattle.base_rulings.specs.declared.Cause.{Cause}
use Rattle.base_rulings.specs.declared.Ruling.{Ruling}
use Rattle.base_rulings.specs.declared.Ruling.TheVariants.{Accepted, Refused}
use Rattle.base_rulings.specs.Answer.{plain}
use Rattle.read_plant.specs.Plant.{plant_ruling}
use Rattle.spec_plain.specs.Limits.{side, cell_count}
use Rattle.spec_plain.specs.declared.Rule.{Rule}
use Rattle.spec_plain.specs.Plain.{State, Draft, live_count, drafted, unsent_at, sent_state, clock_ok, clock_state, starts}
use Rattle.spec_stn.specs.Table.{Table, Agree, add_all, grow_all}
use Rattle.part_gaps.specs.Cells.{table_of, grown}
use Rattle.part_gaps.proofs.Grown.{grown_length, grown_agree}
use Rattle.part_gaps.proofs.GapTable.{GoodCells, grown_good}
use Rattle.spec_rulebook.specs.Reading.{Reading, offer_of, past, plan_check, reading_of}
use Rattle.spec_rulebook.specs.Book.{Book, plan, send, clock}
use Rattle.part_boardwords.specs.Board.{Board}
use Rattle.part_sound.specs.Sound.{Sound}
use Rattle.part_sound.proofs.Soundness.{sound_of}
use Rattle.part_settling.specs.Settled.{added_all, added_each}
use Rattle.call_board.specs.Ruled.{Ruled}
use Rattle.call_board.specs.Boards.{state_of}
use Rattle.call_board.specs.Calls.{refused_with, refusal, accepted, settled, unless_refused, decided, heard, planned, send_rules, sent, clocked}
use Rattle.theorem_demands.specs.Model.{AbstractRuled}
use Rattle.theorem_demands.specs.Model as Model
use Rattle.theorem_demands.specs.Beside.{StandsFor, Mirrors}
use Rattle.theorem_demands.proofs.Tries.{live_positive}
use Rattle.theorem_demands.proofs.Clock.{starts_within, clock_mirrors}
use Rattle.theorem_demands.proofs.Send.{live_sent, send_within, send_added, send_some, send_mirrors}
use Rattle.theorem_demands.proofs.Draft.{DraftIn, drafted_in, offer_in}
use Rattle.theorem_demands.proofs.Plan.{plan_mirrors}
use Rattle.theorem_demands.proofs.Tidy.{holds_agree}
use Rattle.theorem_agreement.specs.Abstract.{Shaped, live_points, abstract_of, table_rules}
use Rattle.theorem_agreement.proofs.Parts.{Limits, Parts, parts_of, parts_state, parts_sound, parts_shaped}
use Rattle.theorem_agreement.proofs.Books.{parts_holds}
use Rattle.theorem_agreement.proofs.Tables.{AgreeOutcomes, added_all_agree, added_all_good, added_all_each}
use Rattle.part_offered.proofs.Sized.{checked_sized}
use Rattle.theorem_agreement.proofs.Drafts.{DraftSized, drafted_sized}
use Rattle.theorem_agreement.proofs.States.{sent_limits, clock_limits, live_few}

pub record Answered (a : Ruled) (m : AbstractRuled) : Type 0 where
  pub ruling : a.ruling ≡ m.ruling
  pub state : state_of a.board ≡ m.board.state
  pub cells : Agree (live_count m.board.state) (table_of a.board.gaps) m.board.table
  pub shaped : Shaped a.board
  pub sound : Sound a.board

-- ---- the answers

module _ (b : Board) (w : Shaped b) (s : Sound b) where
  parts : Parts (state_of b) b.gaps
  parts = parts_of b w s

  holds : StandsFor (state_of b) (table_of b.gaps) (table_rules b.gaps (live_points b) (live_points b))
  holds = parts_holds parts

  pub refused_answered : (c : Cause) → Answered (refused_with b c) (Model.refused_with (abstract_of b) c)
  unfolding Model.refused_with
  refused_answered c = record { ruling = refl; state = refl; cells = λ i j hi hj. refl; shaped = w; sound = s }

  -- that the points of sent jobs stand still comes from the book beside the abstract board
  settled_answered :
      (n : ℕ) (next : State) (o : Option (List ℕ)) (q : Option Table) → AgreeOutcomes (live_count next) o q → Limits next
      → ((m : List ℕ) → o ≡ some m → (length m ≡ cell_count) × GoodCells m (live_count next) next.settings.horizon)
      → (R : Ruling → Book → Type 0) → Mirrors R (Model.settled (abstract_of b) n next q)
      → Answered (settled b n next o) (Model.settled (abstract_of b) n next q)
  unfolding AgreeOutcomes settled Model.settled
  settled_answered n next (some m) (some c) e lim good R mirrors =
      let g = good m refl in
      let k = mirrors.exists in
      let h = holds_agree (table_of m) (λ i j hi hj. sym (e i j hi hj)) (mirrors.keeps Accepted k.0 k.1).1.holds in
      let p : Parts next m = record { limits = lim; cells = g.0; table = g.1; still = h.still } in
      record { ruling = refl; state = parts_state p; cells = e; shaped = parts_shaped p; sound = parts_sound p }
  settled_answered n next none none e lim good R mirrors = refused_answered (plain n)
  settled_answered n next (some m) none e lim good R mirrors = absurd e
  settled_answered n next none (some c) e lim good R mirrors = absurd e

  -- ---- plan

  draft_answered : (q : Draft) → DraftIn (state_of b) q → DraftSized (state_of b) q → Answered (decided b q) (Model.decided (abstract_of b) q)
  unfolding decided Model.decided DraftIn DraftSized
  draft_answered (Draft.stop c) i z = refused_answered c
  draft_answered (Draft.go next m rs) i z =
      let n : ℕ = live_points b in
      let H : ℕ = b.settings.horizon in
      let points = i.points in
      let few : n + m ≤ side = omega (arith, points, live_few z.0) in
      let small = parts.limits.horizon.1 in
      let size = grown_length b.gaps n m H w.gaps few in
      let within = rw points at i.within in
      settled_answered 17 next (added_all rs (n + m) (grown b.gaps n m H)) (add_all rs (grow_all H n m (table_of b.gaps)))
      (rw points (added_all_agree (n + m) rs (grown b.gaps n m H) _ size few within (grown_agree b.gaps n m H w.gaps few))) z.0
      (λ l e.
      rw (points, z.1)
      (added_all_good (n + m) H rs (grown b.gaps n m H) l size few within
      (grown_good b.gaps n m H w.gaps (live_positive (state_of b)) few small parts.table) e))
      _ (plan_mirrors holds (Draft.go next m rs) i)

  pub planned_is : (p o : List ℕ) → planned b p o ≡ heard b (reading_of (state_of b) p o)
  unfolding planned unless_refused heard reading_of plan_check past
  planned_is p o = rw (sound_of b w.lines s) (go (plant_ruling p) refl)
    where
      go :
          (r : Ruling) → plant_ruling p ≡ r
          → unless_refused (plant_ruling p) b (heard b (reading_of (state_of b) p o)) ≡ heard b (reading_of (state_of b) p o)
      go Accepted e = rw e
      go (Refused c) e = rw e

  -- the answers to a reading
  abbrev Read : Reading → Type 0
  Read x = Answered (heard b x) (Model.heard (abstract_of b) x)

  pub plan_answered : (p o : List ℕ) → Answered (planned b p o) (Model.step (abstract_of b) (plan p o))
  unfolding Model.step Model.heard heard reading_of past
  plan_answered p o = rw (planned_is p o) (go (plan_check (state_of b) p o) refl)
    where
      go : (r : Ruling) → plan_check (state_of b) p o ≡ r → Read (past r (Reading.good (offer_of p o)))
      go Accepted e =
          draft_answered (drafted (state_of b) (offer_of p o))
          (drafted_in (state_of b) (offer_of p o) holds.lines holds.jobs holds.small (offer_in p o))
          (drafted_sized parts.limits (offer_of p o) (checked_sized (state_of b) p o e))
      go (Refused c) e = refused_answered c

  -- ---- send

  -- the rules agree, so that adding each is adding all
  send_each :
      (place : ℕ) (o : Option (List ℕ)) (q : Option Table) → AgreeOutcomes (live_points b) o q → (d : Table) → q ≡ some d
      → added_all (send_rules b place) (live_points b) b.gaps ≡ o
      → settled b 0 (sent_state (state_of b) place) o ≡ accepted (sent_state (state_of b) place) (added_each (send_rules b place) (live_points b) b.gaps)
  unfolding AgreeOutcomes settled
  send_each place (some m) q e d is o = rw (added_all_each (live_points b) (send_rules b place) b.gaps m o)
  send_each place none (some c) e d is o = absurd e
  send_each place none none e d is o = let z : ◌≡◌ {A = ℕ} 0 1 = cc in absurd (omega arith)

  pub send_answered : (place : ℕ) → Answered (sent b place) (Model.step (abstract_of b) (send place))
  unfolding sent Model.step send_rules sent_state
  send_answered place = rw (sound_of b w.lines s) (go (unsent_at place (state_of b).jobs))
    where
      n : ℕ
      n = live_points b

      next : State
      next = sent_state (state_of b) place

      rules : List Rule
      rules = send_rules b place

      same : AgreeOutcomes n (added_all rules n b.gaps) (add_all rules (table_of b.gaps))
      same = added_all_agree n rules b.gaps (table_of b.gaps) w.gaps (live_few parts.limits) (send_within holds place) (λ i j hi hj. refl)

      sending : Answered (accepted next (added_each rules n b.gaps)) (Model.sending (abstract_of b) place)
      sending =
          let agrees = send_some holds place (add_all rules (table_of b.gaps)) (send_added holds place) in
          subst (λ (a : Ruled). Answered a (Model.sending (abstract_of b) place))
          (send_each place (added_all rules n b.gaps) (add_all rules (table_of b.gaps)) same agrees.0 agrees.1 refl)
          (settled_answered 0 next (added_all rules n b.gaps) (add_all rules (table_of b.gaps)) (rw (live_sent (state_of b) place) same)
          (sent_limits place parts.limits)
          (λ m e.
          rw (live_sent (state_of b) place)
          (added_all_good n b.settings.horizon rules b.gaps m w.gaps (live_few parts.limits) (send_within holds place) parts.table e))
          _ (send_mirrors holds place))

      go :
          (t : Bool)
          → Answered (cond (not t) (refusal b 18) (accepted next (added_each rules n b.gaps)))
          (elim t [ true ↦ Model.sending (abstract_of b) place | false ↦ Model.refused_with (abstract_of b) (plain 18) ])
      go true = sending
      go false = refused_answered (plain 18)

  -- ---- clock

  pub clock_answered : (c : ℕ) → Answered (clocked b c) (Model.step (abstract_of b) (clock c))
  unfolding clocked Model.step clock_state live_count
  clock_answered c = rw (sound_of b w.lines s) (go (clock_ok (state_of b) c) refl)
    where
      n : ℕ
      n = live_points b

      rules : List Rule
      rules = starts (c + b.settings.lead) 1 (state_of b).jobs

      go :
          (t : Bool) → clock_ok (state_of b) c ≡ t
          → Answered (cond (not t) (refusal b 19) (settled b 20 (clock_state (state_of b) c) (added_all rules n b.gaps)))
          (elim t [ true ↦ Model.clocking (abstract_of b) c | false ↦ Model.refused_with (abstract_of b) (plain 19) ])
      go true e =
          let few = live_few parts.limits in
          let within = starts_within n (c + b.settings.lead) (state_of b).jobs 1 holds.jobs (live_positive (state_of b)) (omega arith) in
          settled_answered 20 (clock_state (state_of b) c) (added_all rules n b.gaps) (add_all rules (table_of b.gaps))
          (added_all_agree n rules b.gaps (table_of b.gaps) w.gaps few within (λ i j hi hj. refl)) (clock_limits c e parts.limits)
          (λ m q. added_all_good n b.settings.horizon rules b.gaps m w.gaps few within parts.table q) _ (clock_mirrors holds c)
      go false e = refused_answered (plain 19)
