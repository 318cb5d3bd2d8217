-- `read_actions`: `at` is where the next step starts, and the actions of the steps before it are held.
use Rattle.std.proofs.Common.{◌≡◌, take, length}
use Rattle.read_offer.specs.Offer.{step_start, chain_from}
use Rattle.read_offer.proofs.format.Offer.read_actions.Given as goal

abbrev pub invariant-loop-step : goal.invariant-loop-step
invariant-loop-step l =
    (l.at ≡ step_start l.self.plant.bytes.now l.self.bytes.now l.step)
    × (take l.step l.actions ≡ chain_from l.self.plant.bytes.now l.self.bytes.now 0 l.step)
    × (length l.actions ≡ 8)
