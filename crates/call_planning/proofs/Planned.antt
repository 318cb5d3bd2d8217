-- Laws of plan's call. Assumes nothing.
--   Going b o r       what the code holds of a draft that goes on with the rules r: the state to be, its points and rules;  going shows it
--   asked             what trying the rules asks
--   stopped, none_left, joined   the answer to an offer that was read, case by case
--   held_is           the offer as the code holds it
--   bad_plant, unsound, on_reading   the answer before the offer is read
--   bad_format, bad_facts, bad_chain, chain_good   what reading the offer comes to
use Prim.Native.Nat.{ℕ, suc, ◌+◌, ◌≤◌, ◌<◌}
use native.Mathlib.Omega.{arith}
use mathlib.Core.Path.{◌≡◌, refl, sym, ap, subst, ◌∙◌}
use mathlib.Core.Bool.{Bool, true, false}
use mathlib.Core.List.{List, [], ◌∷◌, ◌++◌}
use lib.ListN.{length}
use Rattle.base_rulings.specs.declared.Cause.{Cause}
use Rattle.base_rulings.specs.declared.Ruling.TheVariants.{Accepted, Refused}
use Rattle.read_plant.specs.Plant.{plant_ruling}
use Rattle.read_offer.specs.Offer.{batch_of, due_of, offer_ruling, consistency_ruling, chain_ruling}
use Rattle.spec_plain.specs.Limits.{resources, side}
use Rattle.spec_plain.specs.declared.Allocation.{Allocation}
use Rattle.spec_plain.specs.declared.Step.{Step}
use Rattle.spec_plain.specs.declared.Rule.{Rule}
use Rattle.spec_plain.specs.declared.Use.{Use}
use Rattle.spec_plain.specs.Plain.{Offer, State, Draft, with_jobs, with_lines, live_count, job_from, drafted}
use Rattle.part_lines.specs.declared.Jobs.{Jobs}
use Rattle.part_lines.specs.declared.Line.{Line}
use Rattle.part_lines.specs.ArrayLists.{jobs_of, jobs_from, lines_from, rules_of, rules_from, most_rules}
use Rattle.part_lines.specs.Placing.{all_with, AllFit}
use Rattle.spec_stn.specs.Table.{bias, Closed}
use Rattle.part_gaps.specs.Cells.{table_of, grown}
use Rattle.spec_rulebook.specs.Reading.{Reading, offer_of, past, plan_check, reading_of}
use Rattle.spec_rulebook.proofs.Reading.{due_within, due_past}
use Rattle.part_offered.specs.Sized.{SizedOffer}
use Rattle.part_settling.specs.Settled.{AllUsable, added_all, outcome}
use Rattle.part_boardwords.specs.Board.{Board, board_with}
use Rattle.part_sound.specs.Sound.{Sound, sound}
use Rattle.part_lines.specs.declared.rulelist.Rules.{Rules}
use Rattle.std.specs.Prelude.{Ok, Err}
use Rattle.part_drafts.specs.DraftedAs.{DraftedAs}
use Rattle.call_board.specs.Boards.{state_of, board_of}
use Rattle.call_board.specs.Calls.{refused_with, refusal, settled, unless_refused, decided, heard, planned}
use Rattle.call_planning.proofs.Drafts.{Joins, DraftJoins, drafted_joins, drafted_lines}
use Rattle.part_lines.proofs.RuleLaws.{rules_back}
use Rattle.call_board.proofs.OnSound.{closed, fitting}

-- ---- an offer that was read

pub record Going (b : Board) (o : Offer) (r : Rules) : Type 0 where
  pub next : State
  pub m : ℕ
  pub rs : List Rule
  pub is : drafted (state_of b) o ≡ Draft.go next m rs
  pub rules : r ≡ rules_from rs
  pub joins : Joins (state_of b) o next m rs
  -- its allocations fit, and the lines to be are those with them put in
  pub fits : AllFit (live_count (state_of b)) (state_of b).lines o.allocations
  pub lines : next.lines ≡ all_with (live_count (state_of b)) (state_of b).lines o.allocations

module _ (b : Board) (o : Offer) where
  pub stopped : (c : Cause) → DraftedAs (Err c) (drafted (state_of b) o) → refused_with b c ≡ decided b (drafted (state_of b) o)
  unfolding decided DraftedAs
  stopped c e = go (drafted (state_of b) o) e
    where
      go : (q : Draft) → DraftedAs (Err c) q → refused_with b c ≡ decided b q
      go (Draft.stop d) f = let same : c ≡ d = cc in ap (refused_with b) same
      go (Draft.go next m rs) f = cc

  pub going :
      (r : Rules) → DraftedAs (Ok r) (drafted (state_of b) o) → Sound b → length b.lines ≡ resources → SizedOffer b.settings.horizon o → Going b o r
  unfolding DraftedAs DraftJoins
  going r e s size sized =
      let h1 = s.horizon.1 in
      go (drafted (state_of b) o) refl e
      (drafted_joins (state_of b) o s.sizes (unfold live_count in fitting b s size) h1 (omega (arith, h1, s.clock, s.lead)) sized)
    where
      go : (q : Draft) → drafted (state_of b) o ≡ q → DraftedAs (Ok r) q → DraftJoins (state_of b) o q → Going b o r
      go (Draft.stop c) is f j = cc
      go (Draft.go next m rs) is f j =
          let new = drafted_lines (state_of b) o next m rs is in
          let same : r ≡ rules_from rs = cc in
          record { next = next; m = m; rs = rs; is = is; rules = same; joins = j; fits = new.0; lines = new.1 }

module _ {b : Board} {o : Offer} {r : Rules} (g : Going b o r) where
  rules_are : rules_of r ≡ g.rs
  rules_are = rules_back r g.rs g.rules g.joins.few

  module _ (n m : ℕ) (en : n ≡ live_count (state_of b)) (em : m ≡ suc (length o.steps)) where
    points_are : m ≡ g.m
    points_are = em ∙ sym g.joins.points

    pub asked :
        Sound b
        → ((0 < n) × (n + m ≤ side) × (b.settings.horizon ≤ bias) × Closed n (table_of b.gaps))
        × ((r.count ≤ most_rules) × AllUsable (n + m) (rules_of r))
    unfolding live_count
    asked s =
        let count = ap (λ (x : _). x.count) g.rules in (
          (omega (arith, en), rw (en, points_are) g.joins.room, s.horizon.1, rw en (closed b s)),
          (omega (arith, count, g.joins.few), rw (en, points_are, rules_are) g.joins.usable),
        )

    module _ (ok : Bool) (cells : List ℕ) (eo : outcome ok cells ≡ added_all (rules_of r) (n + m) (grown b.gaps n m b.settings.horizon)) where
      tried : settled b 17 g.next (outcome ok cells) ≡ decided b (drafted (state_of b) o)
      unfolding decided
      tried = rw g.is (ap (settled b 17 g.next) (eo ∙ rw (rules_are, en, points_are)))

      pub none_left : ok ≡ false → refusal b 17 ≡ decided b (drafted (state_of b) o)
      unfolding settled outcome
      none_left f = subst (λ (x : Bool). settled b 17 g.next (outcome x cells) ≡ decided b (drafted (state_of b) o)) f tried

      pub joined :
          (jobs : Jobs) (lines : List Line) → ok ≡ true → jobs ≡ jobs_from (jobs_of b.jobs ++ (job_from o ∷ []))
          → lines ≡ lines_from (all_with (live_count (state_of b)) (state_of b).lines o.allocations)
          → record {
            ruling = Accepted;
            board = board_with b b.clock jobs lines cells;
          }
          ≡ decided b (drafted (state_of b) o)
      unfolding settled outcome
      joined jobs lines t ej el =
          ap (λ (x : Board). record { ruling = Accepted; board = x }) board_is
          ∙ subst (λ (x : Bool). settled b 17 g.next (outcome x cells) ≡ decided b (drafted (state_of b) o)) t tried
        where
          board_is : board_with b b.clock jobs lines cells ≡ board_of g.next cells
          board_is =
              let joined-jobs = with_jobs (state_of b) (jobs_of b.jobs ++ (job_from o ∷ [])) in
              rw (ej, el)
              (ap (λ (x : State). board_of x cells) (ap (λ (ls : List (List Use)). with_lines joined-jobs ls) (sym g.lines) ∙ sym g.joins.state))

-- ---- the offer as the code holds it

pub held_is :
    (p o : List ℕ) (batch due : ℕ) (steps : List Step) (allocations : List Allocation) → batch ≡ batch_of o → due ≡ due_of o → steps ≡ (offer_of p o).steps
    → allocations ≡ (offer_of p o).allocations → record { batch = batch; due = due; steps = steps; allocations = allocations } ≡ offer_of p o
unfolding offer_of
held_is p o batch due steps allocations eb ed es ea = rw (eb, ed, es, ea)

-- ---- before the offer is read

module _ (b : Board) (p o : List ℕ) where
  pub bad_plant : (c : Cause) → plant_ruling p ≡ Refused c → refused_with b c ≡ planned b p o
  unfolding planned unless_refused
  bad_plant c e = rw e

  module _ (e : plant_ruling p ≡ Accepted) where
    pub unsound : sound b ≡ false → refusal b 6 ≡ planned b p o
    unfolding planned unless_refused
    unsound u = rw (e, u)

    abbrev reading : Reading
    reading = reading_of (state_of b) p o

    pub on_reading : sound b ≡ true → heard b reading ≡ planned b p o
    unfolding planned unless_refused
    on_reading u = rw (e, u)

    -- ---- the reading

    pub bad_format : (c : Cause) → offer_ruling p o ≡ Refused c → refused_with b c ≡ heard b reading
    unfolding heard reading_of plan_check past
    bad_format c f = rw (e, f)

    module _ (f : offer_ruling p o ≡ Accepted) where
      pub bad_facts : (c : Cause) → consistency_ruling o ≡ Refused c → refused_with b c ≡ heard b reading
      unfolding heard reading_of plan_check past
      bad_facts c g = rw (e, f, g)

      module _ (g : consistency_ruling o ≡ Accepted) where
        pub bad_due : b.settings.horizon < due_of o → refusal b 23 ≡ heard b reading
        unfolding heard reading_of plan_check past
        bad_due lt = rw (e, f, g, due_past (state_of b) o lt)

        module _ (d : due_of o ≤ b.settings.horizon) where
          pub bad_chain : (c : Cause) → chain_ruling p o ≡ Refused c → refused_with b c ≡ heard b reading
          unfolding heard reading_of plan_check past
          bad_chain c h = rw (e, f, g, due_within (state_of b) o d, h)

          pub chain_good : chain_ruling p o ≡ Accepted → decided b (drafted (state_of b) (offer_of p o)) ≡ heard b reading
          unfolding heard reading_of plan_check past
          chain_good h = rw (e, f, g, due_within (state_of b) o d, h)
