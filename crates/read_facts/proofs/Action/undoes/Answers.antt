-- `undoes` meets its contract: facts needed true, then facts needed false.
use Rattle.read_facts.specs.Regression.{undoes}
use Rattle.read_facts.proofs.Action.undoes.Goals as goal

pub returns-then-overlap : goal.returns-then-overlap
unfolding undoes
returns-then-overlap c = simp (← c.overlap.ensures, c.if-overlap.true)

pub returns-else-overlap : goal.returns-else-overlap
unfolding undoes
returns-else-overlap c = simp (← c.overlap.ensures, c.if-overlap.false, ← c.overlap-else-overlap.ensures)
