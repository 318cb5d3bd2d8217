-- The board with the larger cell.
use Rattle.log_tables.proofs.Witnesses.{on_first, on_second}
use Rattle.log_tables.proofs.showing.witness_on.Goals as goal

pub returns-then-y-x : goal.returns-then-y-x
returns-then-y-x c = on_first _ _ c.if-y-x.true

pub returns-else-y-x : goal.returns-else-y-x
returns-else-y-x c = on_second _ _ c.if-y-x.false
