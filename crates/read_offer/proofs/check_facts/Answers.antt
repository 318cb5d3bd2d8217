-- `check_facts` meets its contract: the plant's refusal, the offer's, 10, or the chain's ruling.
use Rattle.std.proofs.Common.{◌∙◌, ℕ, List, sym, refl, ap, ap₂}
use Rattle.std.proofs.lemmas.Result.{err_from_is_err_and}
use Rattle.base_rulings.specs.Order.{passed_as}
use Rattle.base_rulings.proofs.RulingLaws.{passed_err, passed_ok}
use Rattle.read_offer.specs.Offer.{offer_ruling, consistency_ruling, chain_ruling}
use Rattle.read_offer.proofs.Chain.{plant_refused, offer_refused, facts_refused, on_to_chain}
use Rattle.read_offer.proofs.check_facts.Goals as goal

pub returns-in_err-plant : goal.returns-in_err-plant
returns-in_err-plant c =
    let p = err_from_is_err_and c.from_residual.result c.from_residual.ensures.1 in
    rw (p.1, p.2) (ap passed_as (plant_refused _ _ _ _ c.in_err-plant.ensures.ruling refl))

pub returns-in_err-offer : goal.returns-in_err-offer
returns-in_err-offer c =
    let p = err_from_is_err_and c.from_residual-in_err-offer.result c.from_residual-in_err-offer.ensures.1 in
    let refused = c.in_err-offer.ensures.ruling ∙ ap (λ (s : List ℕ). offer_ruling s c.args.offer.now) c.in_ok-plant.ensures.same in
    rw (p.1, p.2) (ap passed_as (offer_refused _ _ _ _ (sym c.in_ok-plant.ensures.ruling) refused refl))

pub returns-in_err-check_consistency : goal.returns-in_err-check_consistency
returns-in_err-check_consistency c =
    let p = err_from_is_err_and c.from_residual-in_err-check_consistency.result c.from_residual-in_err-check_consistency.ensures.1 in
    let format = c.in_ok-offer.ensures.ruling ∙ ap (λ (s : List ℕ). offer_ruling s c.args.offer.now) c.in_ok-plant.ensures.same in
    let refused = sym (passed_err _ _ (sym c.in_err-check_consistency.ensures)) ∙ ap consistency_ruling c.in_ok-offer.ensures.same.1 in
    rw (p.1, p.2) (ap passed_as (facts_refused _ _ (sym c.in_ok-plant.ensures.ruling) (sym format) _ _ refused refl))

pub returns : goal.returns
returns c =
    let format = c.in_ok-offer.ensures.ruling ∙ ap (λ (s : List ℕ). offer_ruling s c.args.offer.now) c.in_ok-plant.ensures.same in
    let agreed = sym (ap consistency_ruling c.in_ok-offer.ensures.same.1) ∙ passed_ok _ _ (sym c.in_ok-check_consistency.ensures) in
    let same = ap₂ chain_ruling (c.in_ok-offer.ensures.same.0 ∙ c.in_ok-plant.ensures.same) c.in_ok-offer.ensures.same.1 in
    c.check_chain.ensures ∙ ap passed_as (same ∙ on_to_chain _ _ (sym c.in_ok-plant.ensures.ruling) (sym format) agreed)
