-- `read_actions` meets its contract.
use Rattle.std.proofs.Common.{◌∙◌, List, [], ◌∷◌, ◌++◌, sym, refl, ap, ap₂, arith, length-set}
use Rattle.std.proofs.lemmas.List.{take_more_set}
use Rattle.base_words.specs.Word.{word}
use Rattle.read_facts.specs.declared.Action.{Action}
use Rattle.read_offer.specs.Offer.{action_of}
use Rattle.read_offer.proofs.Steps.{first_start}
use Rattle.read_offer.proofs.Chain.{action_is, here, ends_within, next_at, none_yet, one_more}
use Rattle.read_offer.proofs.format.Offer.read_actions.Goals as goal

pub loop-step-init : goal.loop-step-init
loop-step-init c = (first_start _ _, none_yet _ _, refl)

pub u32_at-requires : goal.u32_at-requires
u32_at-requires c = let w = (here _ _ _ _ (omega arith) c.loop-step.invariant.0 c.args.self.ruled).whole in omega (arith, w)

pub start_of-start-requires : goal.start_of-start-requires
start_of-start-requires c =
    rw (c.u32_at.ensures, c.args.self.plant.trailed) (here _ _ _ _ (omega arith) c.loop-step.invariant.0 c.args.self.ruled).known

pub overflow_add-at-in-loop-step-2 : goal.overflow_add-at-in-loop-step-2
overflow_add-at-in-loop-step-2 c =
    let w = ends_within _ _ _ _ (omega arith) c.loop-step.invariant.0 _ _ _ c.u32_at.ensures c.start_of-start.ensures.0 refl c.args.self.ruled in
    omega (arith, w)

pub loop-step-preserved : goal.loop-step-preserved
loop-step-preserved c =
    let next = next_at _ _ _ _ (omega arith) c.loop-step.invariant.0 _ _ _ c.u32_at.ensures c.start_of-start.ensures.0 refl in
    let this = action_is _ _ _ _ _ c.start_of-start.ensures.0 c.literals_at.ensures c.literals_at-in-loop-step.ensures
    ∙ ap (action_of c.args.self.plant.bytes.now) (c.u32_at.ensures ∙ ap (word c.args.self.bytes.now) c.loop-step.invariant.0) in (
      omega arith ∙ next,
      take_more_set _ _ _ (omega arith) ∙ ap₂ (λ (l : List Action) (a : Action). l ++ (a ∷ [])) c.loop-step.invariant.1 this ∙ sym (one_more _ _ _),
      simp length-set c.loop-step.invariant.2,
    )
