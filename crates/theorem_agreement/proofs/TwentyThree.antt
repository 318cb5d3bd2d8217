-- Refusal 23: the due time is past the horizon, for an offer that passes 1 to 4 and 7 to 10; and no other cause is 23.
--   late_first        where one test after another comes to 23, and not by the first, the first is passed
--   late_to, late_of  a plan's tests come to 23 exactly when the offer is late
--   plan_23           so does the call, on every sound board
use mathlib.Core.Path.{◌≡◌, refl, sym, ap, ◌∙◌}
use mathlib.Core.Logic.{◌↔◌}
use mathlib.Core.List.{List}
use Prim.Native.Nat.{ℕ, ◌≤◌, ◌<◌}
use native.Mathlib.Decide.{dec_le}
use native.Mathlib.Omega.{arith}
use Rattle.base_rulings.specs.declared.Ruling.{Ruling}
use Rattle.base_rulings.specs.declared.Ruling.TheVariants.{Accepted, Refused}
use Rattle.base_rulings.specs.Answer.{refuse, number_of}
use Rattle.base_rulings.specs.Order.{and_then}
use Rattle.read_plant.specs.Plant.{plant_ruling}
use Rattle.read_offer.specs.Offer.{due_of, offer_ruling, consistency_ruling, chain_ruling}
use Rattle.spec_rulebook.specs.Reading.{good, past, offer_of, due_ruling, plan_check, reading_of}
use Rattle.spec_rulebook.proofs.Reading.{due_within, due_past}
use Rattle.part_boardwords.specs.Board.{Board}
use Rattle.part_sound.specs.Sound.{Sound}
use Rattle.call_board.specs.Ruled.{Ruled}
use Rattle.call_board.specs.Boards.{state_of}
use Rattle.call_board.specs.Calls.{heard, planned}
use Rattle.theorem_agreement.specs.Abstract.{Shaped}
use Rattle.theorem_agreement.specs.Demand2.{Late}
use Rattle.theorem_agreement.proofs.Keeps.{planned_is}
use Rattle.theorem_agreement.proofs.Early.{Early, plant_early, offer_early, facts_early, chain_early}
use Rattle.theorem_agreement.proofs.Six.{drafted_holds}

late_first : (r q : Ruling) → Early r → and_then r q ≡ refuse 23 → (r ≡ Accepted) × (q ≡ refuse 23)
late_first Accepted q a e = (refl, e)
late_first (Refused c) q a e = absurd (a.no23 (ap number_of e))

module _ (b : Board) (p o : List ℕ) where
  late_to : plan_check (state_of b) p o ≡ refuse 23 → Late b p o
  unfolding plan_check
  late_to e =
      let plant = late_first (plant_ruling p) _ (plant_early p) e in
      let format = late_first (offer_ruling p o) _ (offer_early p o) plant.1 in
      let facts = late_first (consistency_ruling o) _ (facts_early o) format.1 in
      record { plant = plant.0; format = format.0; facts = facts.0; late = go (dec_le (due_of o) b.settings.horizon) facts.1 }
    where
      go :
          Dec (due_of o ≤ b.settings.horizon) → and_then (due_ruling (state_of b) o) (chain_ruling p o) ≡ refuse 23
          → b.settings.horizon < due_of o
      go (yes h) f = absurd ((chain_early p o).no23 (ap number_of (rw (due_within (state_of b) o h) at f)))
      go (no h) f = omega arith

  late_of : Late b p o → plan_check (state_of b) p o ≡ refuse 23
  unfolding plan_check
  late_of l = rw (l.plant, l.format, l.facts, due_past (state_of b) o l.late)

module _ (b : Board) (w : Shaped b) (s : Sound b) where
  pub plan_23 : (p o : List ℕ) → ((planned b p o).ruling ≡ refuse 23) ↔ Late b p o
  unfolding heard reading_of past
  plan_23 p o = (λ e. late_to b p o (go (plan_check (state_of b) p o) (sym is ∙ e)), λ l. is ∙ rw (late_of b p o l))
    where
      is : (planned b p o).ruling ≡ (heard b (reading_of (state_of b) p o)).ruling
      is = ap (λ (a : Ruled). a.ruling) (planned_is b w s p o)

      go : (r : Ruling) → (heard b (past r (good (offer_of p o)))).ruling ≡ refuse 23 → r ≡ refuse 23
      go Accepted e =
          absurd
          (drafted_holds b (λ r. ¬ (number_of r ≡ 23)) (λ f. omega arith) (λ f. omega arith) (λ k. (λ f. omega arith, λ f. omega arith))
          (λ f. omega arith) (offer_of p o) (ap number_of e))
      go (Refused c) e = e
