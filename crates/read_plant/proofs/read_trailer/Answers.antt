-- `read_trailer` meets its contract.
use Rattle.std.proofs.Common.{rules}
use Rattle.read_plant.specs.Plant.{trailer_of}
use Rattle.read_plant.proofs.read_trailer.Goals as goal

pub returns : goal.returns
unfolding trailer_of
returns c = (simp (← c.u32_at.ensures, ← c.u32_at-2.ensures), search rules)
