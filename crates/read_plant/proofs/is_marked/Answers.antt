-- `is_marked` meets its contract, byte by byte.
use mathlib.Core.Bool.{and-true}
use Rattle.read_plant.specs.Plant.{is_mark}
use Rattle.read_plant.proofs.is_marked.Goals as goal

pub returns : goal.returns
unfolding is_mark
returns c = simp and-true at c.eq.ensures
