-- On every sound board, one made by hand too, what the board answers, said of timetables alone (specs/Timetables).
--   sound_minimal   the table is the gap table of the timetables that keep to it
--   plan_decided    plan, past 1 to 4 and 7 to 16: accepted exactly when some timetable of the board keeps the new rules, (a) to (e), and
--                   else 17; and then the new table is the gap table of those that do
--   clock_decided   clock, past 19: the same with its rules, and 20
--   send_decided    send, past 18: always accepted, with a timetable left, and each point sent at its least time of before
--   after_20        after 20, sending the newest job and repeating the clock call succeeds
--   plan_14         14, of any offer: exactly when it is past 1 to 13 and there are 16 jobs or the points would pass 64;  read_14: past them
-- Plan's 23 is in TwentyThree; retire's are in TwentyOne (when it is accepted and when 21) and Room (what it leaves).
use mathlib.Core.Path.{◌≡◌, refl, sym, ap, subst, ◌∙◌}
use mathlib.Core.Logic.{◌↔◌}
use mathlib.Core.Bool.{true, false, not}
use mathlib.Core.List.{List, ◌++◌}
use Prim.Native.Nat.{ℕ, suc, ◌+◌, ◌≤◌, ◌<◌}
use lib.ListN.{length, get_or}
use native.Mathlib.Omega.{arith}
use borrow.Author.Tests.{le-leb}
use Rattle.base_rulings.specs.declared.Ruling.TheVariants.{Accepted}
use Rattle.base_rulings.specs.declared.Cause.{Cause}
use Rattle.base_rulings.specs.declared.Ruling.{Ruling}
use Rattle.base_rulings.specs.declared.Ruling.TheVariants.{Refused}
use Rattle.base_rulings.specs.Answer.{refuse, number_of}
use Rattle.spec_plain.specs.declared.Rule.{Rule}
use Rattle.spec_plain.specs.Plain.{Offer, State, Draft, new_points, upper_bound, bounds, drafted}
use Rattle.spec_plain.specs.Plain.{unsent_at, unsent_points, clock_ok, clock_state, starts, sent_state}
use Rattle.spec_plain.specs.Rules.{KeepsAll}
use Rattle.part_lines.specs.ArrayLists.{no_job}
use Rattle.part_lines.proofs.JobLaws.{unsent_at_lem}
use Rattle.spec_rulebook.specs.Reading.{Reading, bad, good, past, offer_of, plan_check, reading_of}
use Rattle.spec_rulebook.specs.Book.{plan, send, clock, Plans, Reads, Step}
use Rattle.part_boardwords.specs.Board.{Board}
use Rattle.part_sound.specs.Sound.{Sound}
use Rattle.part_sound.proofs.Soundness.{sound_of}
use Rattle.part_settling.specs.Settled.{added_all}
use Rattle.call_board.specs.Ruled.{Ruled}
use Rattle.call_board.specs.Boards.{state_of}
use Rattle.call_board.specs.Calls.{decided, heard, planned, sent, clocked}
use Rattle.theorem_demands.specs.Sent.{newest}
use Rattle.theorem_demands.proofs.After20.{after20}
use Rattle.theorem_demands.proofs.Step.{sim_keeps, sim_exists}
use Rattle.theorem_agreement.specs.Abstract.{Shaped, live_points, book_of, Agreed}
use Rattle.theorem_agreement.specs.Runs.{call_ruled}
use Rattle.theorem_agreement.specs.Demand2.{NoRoom, Full}
use Rattle.theorem_agreement.specs.Timetables.{Timetable, Minimal, Decided, SetLeast}
use Rattle.theorem_agreement.proofs.Parts.{parts_of, jobs_count}
use Rattle.theorem_agreement.proofs.Books.{sound_sim}
use Rattle.theorem_agreement.proofs.Keeps.{planned_is, send_answered, clock_answered}
use Rattle.theorem_agreement.proofs.Agreement.{carried, call_agrees}
use Rattle.theorem_agreement.proofs.Exact.{sim_minimal, passed, settled_decided}
use Rattle.theorem_agreement.proofs.Sending.{sends_least}
use Rattle.theorem_agreement.proofs.Early.{Tested, check_early}
use Rattle.theorem_agreement.proofs.Fourteen.{decided_14}

-- a reading that stops is none that goes on
bad_good : {c : Cause} {o : Offer} → bad c ≡ good o → ⊥
bad_good e = let z : ◌≡◌ {A = ℕ} 0 1 = cc in omega arith

module _ (b : Board) (w : Shaped b) (s : Sound b) where
  pub sound_minimal : Minimal (Timetable b) b
  sound_minimal =
      sim_minimal b (book_of b) (sound_sim b w s) (Timetable b) (λ u. let h = (sound_sim b w s).holds.same u in (h.1, h.0))

  pub plan_decided :
      (p o : List ℕ) (offer : Offer) (next : State) (m : ℕ) (rs : List Rule)
      → reading_of (state_of b) p o ≡ good offer → drafted (state_of b) offer ≡ Draft.go next m rs
      → Decided b 17 (λ u. Timetable b u × KeepsAll u (bounds (upper_bound (state_of b).settings) (live_points b) m ++ rs)) next (planned b p o)
  unfolding call_ruled Step Reads Plans heard decided
  plan_decided p o offer next m rs e d =
      settled_decided b w s 17 next (bounds (upper_bound (state_of b).settings) (live_points b) m ++ rs) (planned b p o) _
      (planned_is b w s p o ∙ ap (heard b) e ∙ ap (decided b) d)
      (subst (λ (q : Draft). Agreed (Plans (book_of b) q) (planned b p o)) d
      (subst (λ (q : Reading). Agreed (Reads (book_of b) q) (planned b p o)) e
      (call_agrees b w s (book_of b) (sound_sim b w s) (plan p o) (planned b p o) refl)))

  pub clock_decided :
      (c : ℕ) → b.clock ≤ c → c ≤ b.settings.horizon
      → Decided b 20 (λ u. Timetable b u × KeepsAll u (starts (c + b.settings.lead) 1 (state_of b).jobs)) (clock_state (state_of b) c) (clocked b c)
  unfolding call_ruled Step clocked
  clock_decided c lo hi =
      let ok : clock_ok (state_of b) c ≡ true = unfold clock_ok in rw (le-leb b.clock c lo, le-leb c b.settings.horizon hi) in
      let rules : List Rule = starts (c + b.settings.lead) 1 (state_of b).jobs in
      settled_decided b w s 20 (clock_state (state_of b) c) rules (clocked b c) (added_all rules (live_points b) b.gaps)
      (rw (sound_of b w.lines s, ok))
      (passed (clock_ok (state_of b) c) 19 (book_of b) _ (clocked b c) ok
      (call_agrees b w s (book_of b) (sound_sim b w s) (clock c) (clocked b c) refl))

  pub send_decided :
      (place : ℕ) → place < length (state_of b).jobs → (get_or (state_of b).jobs place no_job).sent ≡ false
      → SetLeast b (unsent_points 1 (suc place) (state_of b).jobs) (sent_state (state_of b) place) (sent b place)
  unfolding call_ruled Step
  send_decided place there unsent =
      let ok : unsent_at place (state_of b).jobs ≡ true = sym (unsent_at_lem (state_of b).jobs place there) ∙ ap not unsent in
      sends_least b w s place (unsent_points 1 (suc place) (state_of b).jobs) (sent b place)
      (passed (unsent_at place (state_of b).jobs) 18 (book_of b) _ (sent b place) ok
      (call_agrees b w s (book_of b) (sound_sim b w s) (send place) (sent b place) refl))

  pub after_20 :
      (c : ℕ) → (clocked b c).ruling ≡ refuse 20
      → ((sent b (newest (state_of b).jobs)).ruling ≡ Accepted) × ((clocked (sent b (newest (state_of b).jobs)).board c).ruling ≡ Accepted)
  after_20 c e =
      let k = newest (state_of b).jobs in
      let x = sound_sim b w s in
      let both = after20 x.holds (parts_of b w s).limits.sent_first c (sym (clock_answered b w s c).ruling ∙ e) in
      let ans = send_answered b w s k in
      -- the book after send is beside the abstract board and beside the board, so that the clock call has one ruling
      let out = sim_exists x (send k) in
      let y = (sim_keeps x (send k) _ out.0 out.1).1 in
      let moved = sim_exists y (clock c) in
      let same = (sim_keeps (carried ans out.0 y) (clock c) _ moved.0 moved.1).0 in
      (ans.ruling ∙ both.0, (clock_answered (sent b k).board ans.shaped ans.sound c).ruling ∙ sym same ∙ both.1)

  -- of an offer that was read
  read_14 :
      (p o : List ℕ) (offer : Offer) → reading_of (state_of b) p o ≡ good offer
      → ((planned b p o).ruling ≡ refuse 14) ↔ NoRoom (state_of b) (new_points offer)
  unfolding heard
  read_14 p o offer e =
      let few = s.jobs in
      let is = jobs_count b w s in
      let heard-as : planned b p o ≡ decided b (drafted (state_of b) offer) = planned_is b w s p o ∙ ap (heard b) e in
      rw heard-as (decided_14 b offer (omega (arith, is, few)))

  pub plan_14 : (p o : List ℕ) → ((planned b p o).ruling ≡ refuse 14) ↔ Full b p o
  unfolding heard reading_of past
  plan_14 p o = go (plan_check (state_of b) p o) refl (check_early (state_of b) p o)
    where
      go : (r : Ruling) → reading_of (state_of b) p o ≡ past r (good (offer_of p o)) → Tested r → ((planned b p o).ruling ≡ refuse 14) ↔ Full b p o
      go Accepted e x =
          let read = read_14 p o (offer_of p o) e in (
            λ q. record { offer = offer_of p o; reads = e; no_room = read.0 q },
            λ f. (read_14 p o f.offer f.reads).1 f.no_room,
          )
      go (Refused c) e x =
          let stops : (planned b p o).ruling ≡ Refused c = ap (λ (a : Ruled). a.ruling) (planned_is b w s p o ∙ ap (heard b) e) in (
            λ q. absurd (x.no14 (ap number_of (sym stops ∙ q))),
            λ f. absurd (bad_good (sym e ∙ f.reads)),
          )
