-- `read_steps`: `at` is where the next step starts, in the offer, and the steps before it are accepted.
use Rattle.std.proofs.Common.{◌≡◌, ◌≤◌, length}
use Rattle.base_rulings.specs.declared.Ruling.TheVariants.{Accepted}
use Rattle.base_rulings.specs.Order.{first_refusal}
use Rattle.read_offer.specs.Offer.{step_start, step_ruling}
use Rattle.read_offer.proofs.read_steps.Given as goal

abbrev pub invariant-loop-step : goal.invariant-loop-step
invariant-loop-step l =
    (l.at ≤ length l.offer) × (l.at ≡ step_start l.plant.bytes.now l.offer l.step)
    × (first_refusal (step_ruling l.plant.bytes.now l.offer) l.step ≡ Accepted)
