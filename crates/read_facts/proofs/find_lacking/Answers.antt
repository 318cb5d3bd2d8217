-- `find_lacking` meets its contract, mask by mask.
use Rattle.read_facts.specs.Regression.{lacking}
use Rattle.read_facts.proofs.find_lacking.Goals as goal

pub returns : goal.returns
unfolding lacking
returns c = simp (← c.difference.ensures, ← c.difference-2.ensures, ← c.union.ensures)
