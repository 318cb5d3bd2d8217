-- `read_steps` meets its contract.
use Rattle.std.proofs.Common.{◌∙◌, ap, arith}
use Rattle.std.proofs.lemmas.Result.{MatchResult-at_err}
use Rattle.base_rulings.specs.Order.{refusal_of}
use Rattle.base_rulings.proofs.RulingLaws.{first_none, reading_stops, reading_goes_on}
use Rattle.read_offer.proofs.Steps.{first_start, ruling_is, next_start, steps_refused, steps_end, left_over}
use Rattle.read_offer.proofs.read_steps.Goals as goal

pub loop-step-init : goal.loop-step-init
loop-step-init c = (c.requires.0, first_start _ _, first_none _)

pub returns-in_default : goal.returns-in_default
returns-in_default c =
    let here = ruling_is _ _ _ _ _ c.loop-step.invariant.1 c.read_step-answer.ensures in
    ap refusal_of (MatchResult-at_err _ _ _ c.in_default.is c.map.ensures.cases)
    ∙ steps_refused _ _ _ c.requires.0 c.requires.1 c.requires.2 c.requires.3 _
    (reading_stops _ _ _ c.loop-step.invariant.2 here _ _ c.in_default.is c.loop-step-test.true)

pub loop-step-preserved : goal.loop-step-preserved
loop-step-preserved c =
    let here = ruling_is _ _ _ _ _ c.loop-step.invariant.1 c.read_step-answer.ensures in
    let next = next_start _ _ _ _ _ c.loop-step.invariant.1 c.read_step-answer.ensures _ c.in-Ok.is in
    (next.0, next.1, reading_goes_on _ _ _ c.loop-step.invariant.2 here _ c.in-Ok.is)

pub returns-then-at-offer : goal.returns-then-at-offer
returns-then-at-offer c =
    left_over _ _ _ c.requires.0 c.requires.1 c.requires.2 c.requires.3 _ _ (omega arith) c.loop-step.invariant.2 c.loop-step.invariant.1 c.if-at-offer.true

pub returns : goal.returns
returns c =
    steps_end _ _ _ c.requires.0 c.requires.1 c.requires.2 c.requires.3 _ _ (omega arith) c.loop-step.invariant.2 c.loop-step.invariant.1 c.if-at-offer.false
