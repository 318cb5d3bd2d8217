-- Refusal 21 on a sound board: exactly when there is no job, the oldest is unsent, or in some timetable of the board it outlasts the clock.
--   all_over         where the table implies the job's rules it is over in every timetable
--   outlasting       where not, it outlasts the clock in the timetable of the latest times
--   retire_decided   retire is accepted exactly when the oldest job may leave, and 21 exactly when it must stay
use mathlib.Core.Path.{◌≡◌, refl, sym, ap, ◌∙◌}
use mathlib.Core.Logic.{◌⊎◌, inl, inr}
use mathlib.Core.Bool.{Bool, true, false, true≢false, cond}
use mathlib.Core.List.{List, [], ◌∷◌}
use Prim.Native.Nat.{ℕ, suc, ◌+◌, ◌≤◌, ◌<◌}
use native.Mathlib.Omega.{arith}
use lib.Dec.{leb, lt→ltb}
use lib.IntN.{ℤ, pos, ◌+ℤ◌}
use lib.Signed.{◌<ℤ◌, <ℤ-≤ℤ_trans, clash_ℤ}
use borrow.Author.Tests.{leb-false}
use Rattle.base_rulings.specs.declared.Ruling.TheVariants.{Accepted}
use Rattle.base_rulings.specs.Answer.{plain, refuse}
use Rattle.base_rulings.proofs.RulingLaws.{refused_no}
use Rattle.spec_plain.specs.declared.Job.{Job}
use Rattle.spec_plain.specs.declared.Use.{Use}
use Rattle.spec_plain.specs.declared.Rule.{Rule}
use Rattle.spec_plain.specs.Plain.{State, Leaving, end_of, tray_gap, total, live_count, over_by, all_end_by, leaving_from, leaving}
use Rattle.spec_plain.specs.Rules.{Times, AllKept}
use Rattle.spec_plain.proofs.Whole.{up, dn, of_below, add_spec, sub_spec}
use Rattle.spec_plain.proofs.Rules.{keeps_to}
use Rattle.spec_stn.specs.Table.{bias, Table, Closed, Within, far, entails_all}
use Rattle.spec_stn.proofs.Fits.{implied_yes, far_fits, far_origin}
use Rattle.part_gaps.specs.Cells.{table_of}
use Rattle.part_boardwords.specs.Board.{Board}
use Rattle.part_sound.specs.Sound.{Sound}
use Rattle.call_board.specs.Ruled.{Ruled}
use Rattle.call_board.specs.Boards.{state_of}
use Rattle.call_board.specs.Calls.{refusal, departed, retired}
use Rattle.theorem_demands.proofs.Leave.{ends_within}
use Rattle.theorem_demands.proofs.Tries.{live_positive}
use Rattle.theorem_agreement.specs.Abstract.{Shaped, live_points}
use Rattle.theorem_agreement.specs.Timetables.{Timetable}
use Rattle.theorem_agreement.specs.Retire.{IsOver, Outlasts, MayLeave, over, MustStay, no_job_lem, unsent, outlasts, Leaves}
use Rattle.theorem_agreement.proofs.Parts.{parts_of}
use Rattle.theorem_agreement.proofs.Books.{parts_holds}
use Rattle.theorem_agreement.proofs.Retiring.{retired_is}
use Rattle.theorem_agreement.proofs.Ending.{over_lines, both_false, late_lines}

-- the first of two equal lists is the first
pub first_is : (j i : Job) (js is : List Job) → (j ∷ js) ≡ (i ∷ is) → j ≡ i
first_is j i js is e = cc

none_is : (j : Job) (js : List Job) → (j ∷ js) ≡ [] → ⊥
none_is j js e = let z : ◌≡◌ {A = ℕ} 0 1 = cc in omega arith

module _ (b : Board) (w : Shaped b) (s : Sound b) where
  abbrev pub table : Table
  table = table_of b.gaps

  pub closed : Closed (live_points b) table
  closed = (parts_holds (parts_of b w s)).closed

  -- how long after the last point the job is over
  abbrev gap : ℕ
  gap = tray_gap b.settings

  -- the timetable of the latest times
  latest_kept : Timetable b (far table 0)
  latest_kept = (far_origin table 0, far_fits (live_points b) table closed 0 (live_positive (state_of b)))

  later : (v : ℤ) → suc b.clock + dn v ≤ up v → pos b.clock <ℤ v
  later v h =
      <ℤ-≤ℤ_trans {b = pos (suc b.clock)} (record { lt = lt→ltb b.clock (suc b.clock) (omega arith) })
      (of_below (pos (suc b.clock)) v (omega arith))

  module _ (j : Job) (js : List Job) (e : (state_of b).jobs ≡ j ∷ js) where
    abbrev pub rules : List Rule
    rules = over_by j.points gap b.clock ∷ all_end_by b.settings b.clock 1 j.points (state_of b).lines

    pub live_is : live_points b ≡ suc (j.points + total js)
    live_is = unfold live_count total in ap (λ (l : List Job). suc (total l)) e

    within : Within (live_points b) rules
    unfolding Within over_by
    within = (
      omega (arith, live_is),
      live_positive (state_of b),
      ends_within b.settings (live_points b) b.clock 1 j.points (live_positive (state_of b)) (state_of b).lines
          (parts_holds (parts_of b w s)).lines,
    )

    all_over : entails_all table rules ≡ true → (u : Times) → Timetable b u → IsOver b j.points u
    unfolding AllKept over_by
    all_over i u t =
        let k = implied_yes (live_points b) table rules within (rw i tt) u t.1 in
        let m : ℕ = j.points in
        record {
          last =
              of_below (u m +ℤ pos gap) (pos b.clock)
              (omega (arith, keeps_to u (over_by m gap b.clock) k.0, add_spec (u m) gap, ap up t.0, ap dn t.0));
          uses = λ x q. over_lines b.settings b.clock m u t.0 (state_of b).lines k.1 x q.held q.first q.last;
        }

    outlasting : entails_all table rules ≡ false → Outlasts b j.points (far table 0)
    unfolding entails_all over_by far
    outlasting i = go (both_false (leb (table 0 j.points + gap) (bias + b.clock)) _ i)
      where
        origin : table 0 0 ≡ bias
        origin = closed.diagonal 0 (live_positive (state_of b))

        go :
            (leb (table 0 j.points + gap) (bias + b.clock) ≡ false)
            ⊎ (entails_all table (all_end_by b.settings b.clock 1 j.points (state_of b).lines) ≡ false)
            → Outlasts b j.points (far table 0)
        go (inl f) =
            let past : bias + b.clock < table 0 j.points + gap = leb-false _ _ f in
            let last : ℤ = far table 0 j.points in
            inl (later (last +ℤ pos gap) (omega (arith, past, sub_spec (table 0 j.points) (table 0 0), add_spec last gap, origin)))
        go (inr f) =
            let q = late_lines b.settings table b.clock j.points (state_of b).lines f in
            let x : Use = q.0 in
            inr (
              x,
              record { held = q.1; first = q.2.0; last = q.2.1 },
              later (far table 0 x.point +ℤ pos (end_of b.settings x))
                  (omega (
                    arith,
                    q.2.2,
                    sub_spec (table 0 x.point) (table 0 0),
                    add_spec (far table 0 x.point) (end_of b.settings x),
                    origin,
                  )),
            )

  -- ---- the answer

  abbrev Outcome : Ruled → Type 0
  Outcome a = (MayLeave b × (a.ruling ≡ Accepted)) ⊎ (MustStay b × (a ≡ refusal b 21))

  outcome : (js : List Job) → (state_of b).jobs ≡ js → Outcome (departed b (leaving_from (state_of b) js))
  unfolding departed leaving_from
  outcome [] e = inr (no_job_lem e, refl)
  outcome (j ∷ js) e = go j.sent refl _
    where
      go : (t : Bool) → j.sent ≡ t → (next : State) → Outcome (departed b (cond t (Leaving.go j.points (rules j js e) next) Leaving.stop))
      go false q next = inr (unsent j js e q, refl)
      go true q next = choose (entails_all table (rules j js e)) refl _
        where
          choose : (t : Bool) → entails_all table (rules j js e) ≡ t → (d : Board) → Outcome (cond t (record { ruling = Accepted; board = d }) (refusal b 21))
          choose true i d = inl (over j js e q (all_over j js e i), refl)
          choose false i d = inr (outlasts j js e (far table 0) latest_kept (outlasting j js e i), refl)

  not_both : MayLeave b → MustStay b → ⊥
  not_both (over j js e q all) (no_job_lem f) = none_is j js (sym e ∙ f)
  not_both (over j js e q all) (unsent i is f p) =
      true≢false (sym q ∙ ap (λ (z : Job). z.sent) (first_is j i js is (sym e ∙ f)) ∙ p)
  not_both (over j js e q all) (outlasts i is f u t p) = go (all u t) (rw (← (ap (λ (z : Job). z.points) (first_is j i js is (sym e ∙ f)))) at p)
    where
      go : IsOver b j.points u → Outlasts b j.points u → ⊥
      go o (inl h) = clash_ℤ h o.last
      go o (inr h) = clash_ℤ h.2 (o.uses h.0 h.1)

  decided : (a : Ruled) → Outcome a → Leaves b a
  decided a (inl p) =
      record {
        accepted = (λ e. p.0, λ m. p.1);
        refused = (λ e. absurd (refused_no (plain 21) (sym e ∙ p.1)), λ m. absurd (not_both p.0 m));
        either = inl p.1;
      }
  decided a (inr p) =
      let ruled : a.ruling ≡ refuse 21 = ap (λ (r : Ruled). r.ruling) p.1 in
      record {
        accepted = (λ e. absurd (refused_no (plain 21) (sym ruled ∙ e)), λ m. absurd (not_both m p.0));
        refused = (λ e. p.0, λ m. ruled);
        either = inr p.1;
      }

  pub retire_decided : Leaves b (retired b)
  unfolding leaving
  retire_decided = decided (retired b) (rw (retired_is b w s) (outcome (state_of b).jobs refl))
