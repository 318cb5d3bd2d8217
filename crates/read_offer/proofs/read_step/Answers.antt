-- `read_step` meets its contract: 8 for each of its three reasons, or where the step ends.
use Rattle.std.proofs.Common.{arith}
use Rattle.read_offer.proofs.Steps.{too_short, no_action_lem, cut_off, step_ends}
use Rattle.read_offer.proofs.read_step.Goals as goal

pub returns-then-offer-at-lt4 : goal.returns-then-offer-at-lt4
returns-then-offer-at-lt4 c = too_short _ _ _ _ (omega arith)

pub returns-then-plant-action : goal.returns-then-plant-action
returns-then-plant-action c =
    no_action_lem _ _ _ _ _ _ c.args.plant.trailed (omega arith) c.u32_at-action.ensures c.if-plant-action.true

pub returns-then-offer-at : goal.returns-then-offer-at
returns-then-offer-at c =
    cut_off _ _ _ _ _ _ c.args.plant.trailed (omega arith) c.u32_at-action.ensures _ c.if-plant-action.false c.allocation_count-n.ensures.0 (omega arith)

pub returns : goal.returns
returns c =
    step_ends _ _ _ _ _ _ c.args.plant.trailed (omega arith) c.u32_at-action.ensures _ c.if-plant-action.false c.allocation_count-n.ensures.0 (omega arith)
