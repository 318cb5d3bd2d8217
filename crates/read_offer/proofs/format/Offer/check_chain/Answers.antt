-- `check_chain` meets its contract: what the chain worked back comes to.
use Rattle.std.proofs.Common.{◌∙◌, ℕ, take, refl, ap}
use Rattle.std.proofs.lemmas.Result.{err_from_is_err_and}
use Rattle.base_rulings.specs.Order.{passed_as}
use Rattle.read_offer.proofs.Chain.{worked_back}
use Rattle.read_offer.proofs.format.Offer.check_chain.Goals as goal

pub returns-in_err-need : goal.returns-in_err-need
returns-in_err-need c =
    let p = err_from_is_err_and c.from_residual.result c.from_residual.ensures.1 in
    let chain = ap (λ (k : ℕ). take k c.read_actions-actions.result) c.step_count.ensures.0 ∙ c.read_actions-actions.ensures in
    rw (p.1, p.2) (ap passed_as (worked_back _ _ _ _ refl c.read_goal.ensures _ _ chain c.in_err-need.ensures))

pub returns : goal.returns
returns c =
    let chain = ap (λ (k : ℕ). take k c.read_actions-actions.result) c.step_count.ensures.0 ∙ c.read_actions-actions.ensures in
    c.at_start.ensures ∙ ap passed_as (worked_back _ _ _ _ c.read_known.ensures c.read_goal.ensures _ _ chain c.in_ok-need.ensures)
