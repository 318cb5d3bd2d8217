-- `at_start` meets its contract: nothing lacks, or the lowest fact that does.
use borrow.Author.Tests.{eq-eqb, ne_eqb}
use Rattle.read_facts.specs.Regression.{at_start}
use Rattle.read_facts.proofs.at_start.Goals as goal

pub returns-then-lack-eq0 : goal.returns-then-lack-eq0
unfolding at_start
returns-then-lack-eq0 c = simp (← c.find_lacking-lack.ensures, eq-eqb _ _ c.if-lack-eq0.true)

pub returns : goal.returns
unfolding at_start
returns c = simp (← c.find_lacking-lack.ensures, ne_eqb _ _ c.if-lack-eq0.false, ← c.first.ensures)
