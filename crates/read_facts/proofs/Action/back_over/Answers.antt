-- `back_over` meets its contract: 11, 12, or what must hold before the step.
use Rattle.read_facts.specs.Regression.{back_over}
use Rattle.read_facts.proofs.Action.back_over.Goals as goal

pub returns-then-undoes : goal.returns-then-undoes
unfolding back_over
returns-then-undoes c = simp (← c.undoes.ensures, c.if-undoes.true)

pub returns-then-has_both : goal.returns-then-has_both
unfolding back_over
returns-then-has_both c = simp (← c.undoes.ensures, c.if-undoes.false, ← c.regress-need.ensures, ← c.has_both.ensures, c.if-has_both.true)

pub returns : goal.returns
unfolding back_over
returns c = simp (← c.undoes.ensures, c.if-undoes.false, ← c.regress-need.ensures, ← c.has_both.ensures, c.if-has_both.false)
