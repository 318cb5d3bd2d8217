-- What an accepted retire leaves on a sound board: the board without its oldest job, and its room free again.
--   leaving_is      the oldest job, sent, leaves this state
--   model_is        what the abstract board answers
--   to_before, of_before   the timetables after are those before, renumbered
--   retire_leaves   all that specs/Retire says of the board after
use mathlib.Core.Path.{◌≡◌, refl, sym, ap, subst, fun_ext, ◌∙◌}
use mathlib.Core.Bool.{Bool, true, false, cond}
use mathlib.Core.List.{List, ◌∷◌}
use Prim.Native.Nat.{ℕ, suc, ◌+◌, ◌≤◌, ◌<◌}
use native.Mathlib.Omega.{arith}
use lib.ListN.{length}
use Rattle.base_rulings.specs.declared.Ruling.TheVariants.{Accepted}
use Rattle.base_rulings.specs.Answer.{plain}
use Rattle.base_rulings.proofs.RulingLaws.{refused_no}
use Rattle.spec_plain.specs.declared.Job.{Job}
use Rattle.spec_plain.specs.Plain.{State, Leaving, live_count, without, leaving_from, leaving}
use Rattle.spec_plain.specs.Rules.{Times}
use Rattle.spec_stn.specs.Table.{Fits, Still, entails_all, pick, old_number}
use Rattle.spec_stn.proofs.Agree.{agree_fits}
use Rattle.spec_stn.proofs.Pick.{pick_fits, old_low, old_lt, spread, spread_old, spread_origin, spread_fits}
use Rattle.part_gaps.specs.Cells.{table_of}
use Rattle.spec_rulebook.specs.Book.{retire}
use Rattle.part_boardwords.specs.Board.{Board}
use Rattle.part_sound.specs.Sound.{Sound}
use Rattle.call_board.specs.Boards.{state_of}
use Rattle.call_board.specs.Calls.{refusal, departed, retired}
use Rattle.theorem_demands.specs.Model.{AbstractRuled}
use Rattle.theorem_demands.specs.Model as Model
use Rattle.theorem_demands.specs.Beside.{Each}
use Rattle.theorem_demands.proofs.Tries.{live_positive}
use Rattle.theorem_agreement.specs.Abstract.{Shaped, live_points, abstract_of, book_of}
use Rattle.theorem_agreement.specs.Timetables.{Timetable}
use Rattle.theorem_agreement.specs.Retire.{MayLeave, over, WithoutOldest}
use Rattle.theorem_agreement.proofs.Parts.{parts_of, jobs_count}
use Rattle.theorem_agreement.proofs.Books.{sound_sim}
use Rattle.theorem_agreement.proofs.Keeps.{Answered}
use Rattle.theorem_agreement.proofs.Retiring.{retired_is, retire_answered}
use Rattle.theorem_agreement.proofs.Exact.{sim_minimal}
use Rattle.theorem_agreement.proofs.TwentyOne.{first_is, table, closed, rules, live_is, retire_decided}

module _
    (b : Board) (w : Shaped b) (s : Sound b) (j : Job) (js : List Job) (e : (state_of b).jobs ≡ j ∷ js) (yes_ruled : (retired b).ruling ≡ Accepted)
  where
    -- the board after, and the state that it holds
    abbrev d : Board
    d = (retired b).board

    abbrev next : State
    next = without 1 j.points js (state_of b)

    is_sent : j.sent ≡ true
    is_sent = go ((retire_decided b w s).accepted.0 yes_ruled)
      where
        go : MayLeave b → j.sent ≡ true
        go (over i is f q all) = ap (λ (z : Job). z.sent) (first_is j i js is (sym e ∙ f)) ∙ q

    leaving_is : leaving (state_of b) ≡ Leaving.go j.points (rules b w s j js e) next
    unfolding leaving leaving_from
    leaving_is =
        ap (leaving_from (state_of b)) e
        ∙ ap (λ (t : Bool). cond t (Leaving.go j.points (rules b w s j js e) next) Leaving.stop) is_sent

    all_implied : entails_all (table b w s) (rules b w s j js e) ≡ true
    unfolding departed
    all_implied =
        go (entails_all (table b w s) (rules b w s j js e)) _
        (sym (ap (λ (q : Leaving). (departed b q).ruling) leaving_is) ∙ sym (ap (λ r. r.ruling) (retired_is b w s)) ∙ yes_ruled)
      where
        go : (t : Bool) (a : Board) → (cond t (record { ruling = Accepted; board = a }) (refusal b 21)).ruling ≡ Accepted → t ≡ true
        go true a q = refl
        go false a q = absurd (refused_no (plain 21) q)

    model_is :
        Model.step (abstract_of b) retire ≡ record { ruling = Accepted; board = Model.board next (pick (old_number 1 j.points) (table b w s)) }
    unfolding Model.step Model.departed
    model_is = ap (Model.departed (abstract_of b)) leaving_is ∙ rw (all_implied, Model.departed)

    answered : Answered (retired b) (record { ruling = Accepted; board = Model.board next (pick (old_number 1 j.points) (table b w s)) })
    answered = subst (λ (a : AbstractRuled). Answered (retired b) a) model_is (retire_answered b w s)

    -- ---- timetables

    few : live_count (state_of d) ≡ live_count next
    few = ap live_count answered.state

    room : live_points b ≡ live_count next + j.points
    room = unfold live_count without in omega (arith, live_is b w s j js e)

    -- the points that leave stand still
    still : (x : ℕ) → 1 ≤ x → x < 1 + j.points → Still (table b w s) x
    still x lo hi = unfold Each in (rw e at (parts_of b w s).still).0 x lo hi (rw is_sent tt)

    abbrev Renumbered : Times → Type 0
    Renumbered v = (u : Times) × Timetable b u × ((k : ℕ) → u (old_number 1 j.points k) ≡ v k)

    to_before : (v : Times) → Timetable d v → Renumbered v
    to_before v t =
        let fits = agree_fits (live_count next) (table_of d.gaps) (pick (old_number 1 j.points) (table b w s)) answered.cells v (rw few at t.1) in
        let whole = spread_fits 1 j.points (live_count next) (table b w s) v (omega arith) (live_positive next) (rw room at (closed b w s)) still
        t.0 fits in (
          spread 1 j.points (table b w s) v,
          (spread_origin 1 j.points (table b w s) v (omega arith) ∙ t.0, rw room whole),
          spread_old 1 j.points (table b w s) v,
        )

    of_before : (v : Times) → Renumbered v → Timetable d v
    of_before v q =
        let u = q.0 in
        let below : (a : ℕ) → a < live_count next → old_number 1 j.points a < live_points b =
        λ a h. omega (arith, old_lt 1 j.points (live_count next) a h, room) in
        let fits = pick_fits (live_count next) (live_points b) (old_number 1 j.points) (table b w s) below u q.1.1 in
        let same = subst (λ (t : Times). Fits (live_count next) (pick (old_number 1 j.points) (table b w s)) t) (fun_ext q.2) fits in (
          sym (q.2 0) ∙ ap u (old_low 1 j.points 0 (omega arith)) ∙ q.1.0,
          rw few
              (agree_fits (live_count next) (pick (old_number 1 j.points) (table b w s)) (table_of d.gaps)
              (λ i k hi hk. sym (answered.cells i k hi hk)) v same),
        )

    pub retire_leaves : WithoutOldest b j js (retired b).board
    unfolding without
    retire_leaves =
        let x = sound_sim d answered.shaped answered.sound in
        record {
          jobs = ap (λ (z : State). z.jobs) answered.state;
          lines = ap (λ (z : State). z.lines) answered.state;
          numbers = (ap (λ (z : State). z.settings) answered.state, ap (λ (z : State). z.clock) answered.state);
          cells = λ i k hi hk. unfold pick in answered.cells i k (omega (arith, few)) (omega (arith, few));
          freed = λ i k hi hk past. (parts_of d answered.shaped answered.sound).table.rest i k hi hk past;
          points = omega (arith, room, few);
          count =
              sym (jobs_count b w s) ∙ ap length e
              ∙ ap suc (ap length (sym (ap (λ (z : State). z.jobs) answered.state)) ∙ jobs_count d answered.shaped answered.sound);
          table = sim_minimal d (book_of d) x Renumbered
              (λ v. let same = x.holds.same v in (λ p. to_before v (same.1 p), λ q. same.0 (of_before v q)));
        }
