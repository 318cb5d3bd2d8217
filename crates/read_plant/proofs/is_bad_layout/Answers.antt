-- `is_bad_layout` meets its contract: the count, then the length.
use Rattle.std.proofs.Common.{rules}
use Rattle.read_plant.specs.Plant.{bad_layout}
use Rattle.read_plant.proofs.is_bad_layout.Goals as goal

pub returns-then-t-gt128 : goal.returns-then-t-gt128
unfolding bad_layout
returns-then-t-gt128 c = search rules

pub returns-else-t-gt128 : goal.returns-else-t-gt128
unfolding bad_layout
returns-else-t-gt128 c = search rules
