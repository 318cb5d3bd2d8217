-- `is_bad_head` meets its contract: the word passes exactly where count and spare bytes do (`head_passes`).
use Rattle.std.proofs.Common.{◌∙◌, ap, ltb}
use Rattle.read_plant.proofs.Head.{head_passes}
use Rattle.read_plant.proofs.is_bad_head.Goals as goal

pub returns : goal.returns
returns c = ap (ltb 4) c.u32_at.ensures ∙ head_passes _ _
