-- `allocation_count` meets its contract: a good record has at most 4 (`count_is`).
use Rattle.std.proofs.Common.{refl}
use Rattle.read_plant.proofs.Good.{good, count_is}
use Rattle.read_plant.proofs.file.Plant.allocation_count.Goals as goal

pub returns : goal.returns
returns c = count_is _ _ (good _ c.args.self.good) c.args.self.trailed _ c.requires _ _ c.start_of.ensures.0 refl
