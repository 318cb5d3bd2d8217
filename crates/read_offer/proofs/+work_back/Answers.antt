-- `work_back` meets its contract, by recursion on the chain without its last step. That step is gone back over: a refusal is the answer (`last_fails`),
-- or what must hold before it has to hold behind the steps that are left (`last_holds`).
use Rattle.std.proofs.Common.{◌∙◌, List, sym, ap, arith}
use Rattle.std.proofs.lemmas.Result.{err_from_is_err_and}
use Rattle.read_facts.specs.declared.Action.{Action}
use Rattle.read_facts.specs.Regression.{work_back}
use Rattle.read_offer.proofs.Chain.{last_fails, last_holds}
use Rattle.read_offer.proofs.+work_back.Goals as goal

pub returns-in_err-need : goal.returns-in_err-need
returns-in_err-need t c =
    let p = err_from_is_err_and c.from_residual.result c.from_residual.ensures.1 in
    rw (p.1, p.2)
    (sym
    (ap (λ (l : List Action). work_back l 0 c.args.after) c.in-Some.ensures.cases.0
    ∙ last_fails c.in-Some.before.now _ _ _ _ _ (omega arith) (sym c.in_err-need.ensures)))

pub returns : goal.returns
returns t c =
    c.work_back.ensures
    ∙ sym
    (ap (λ (l : List Action). work_back l 0 c.args.after) c.in-Some.ensures.cases.0
    ∙ last_holds c.in-Some.before.now _ _ _ _ _ (omega arith) (sym c.in_ok-need.ensures))
