-- `count_at` meets its contract: where the word passes, it is the count (`head_count`).
use Rattle.std.proofs.Common.{◌∙◌, arith}
use Rattle.read_plant.proofs.Head.{head_count, bytes_clean}
use Rattle.read_plant.proofs.count_at.Goals as goal

pub returns : goal.returns
returns c =
    let n = c.u32_at.ensures ∙ head_count _ _ c.requires.1 in
    let h = bytes_clean _ _ c.requires.1 in (n, omega (arith, n, h))
