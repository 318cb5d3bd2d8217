-- `regress` meets its contract, mask by mask.
use Rattle.read_facts.specs.Regression.{regressed}
use Rattle.read_facts.proofs.Action.regress.Goals as goal

pub returns : goal.returns
unfolding regressed
returns c = simp (← c.difference.ensures, ← c.union.ensures, ← c.difference-2.ensures, ← c.union-2.ensures)
