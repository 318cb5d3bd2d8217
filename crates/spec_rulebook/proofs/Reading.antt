-- A plan's tests of the bytes and those of the fact check. Assumes nothing.
--   due_within, due_past, within_of   whether the due time lies within the horizon is what 23 tests
--   plan_check_is      within the horizon a plan's tests are the fact check's
--   checked            where a plan's tests accept, the fact check does, and the due time lies within the horizon
use mathlib.Core.Path.{◌≡◌, sym, ◌∙◌}
use mathlib.Core.List.{List}
use Prim.Native.Nat.{ℕ, ◌≤◌, ◌<◌}
use lib.Dec.{ltb}
use borrow.Author.Tests.{ltb-false, le-ltb, lt-ltb}
use Rattle.base_rulings.specs.declared.Ruling.TheVariants.{Accepted}
use Rattle.base_rulings.specs.Answer.{refuse}
use Rattle.base_rulings.proofs.RulingLaws.{passed, both_passed}
use Rattle.read_plant.specs.Plant.{plant_ruling}
use Rattle.read_offer.specs.Offer.{due_of, offer_ruling, consistency_ruling, chain_ruling, fact_check}
use Rattle.spec_plain.specs.Plain.{State}
use Rattle.spec_rulebook.specs.Reading.{due_ruling, plan_check}

module _ (s : State) (o : List ℕ) where
  pub due_within : due_of o ≤ s.settings.horizon → due_ruling s o ≡ Accepted
  unfolding due_ruling
  due_within le = rw (le-ltb s.settings.horizon (due_of o) le)

  pub due_past : s.settings.horizon < due_of o → due_ruling s o ≡ refuse 23
  unfolding due_ruling
  due_past lt = rw (lt-ltb s.settings.horizon (due_of o) lt)

  pub within_of : due_ruling s o ≡ Accepted → due_of o ≤ s.settings.horizon
  unfolding due_ruling
  within_of e = ltb-false s.settings.horizon (due_of o) (passed (ltb s.settings.horizon (due_of o)) _ _ e).0

pub plan_check_is : (s : State) (p o : List ℕ) → due_ruling s o ≡ Accepted → plan_check s p o ≡ fact_check p o
unfolding plan_check fact_check
plan_check_is s p o e = rw e

pub checked : (s : State) (p o : List ℕ) → plan_check s p o ≡ Accepted → (fact_check p o ≡ Accepted) × (due_of o ≤ s.settings.horizon)
unfolding plan_check
checked s p o e =
    let plant = both_passed (plant_ruling p) _ e in
    let offer = both_passed (offer_ruling p o) _ plant.1 in
    let facts = both_passed (consistency_ruling o) _ offer.1 in
    let due = (both_passed (due_ruling s o) (chain_ruling p o) facts.1).0 in
    (sym (plan_check_is s p o due) ∙ e, within_of s o due)
