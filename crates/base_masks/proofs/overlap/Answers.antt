-- `overlap` meets its contract: the machine's operation is the defined one.
use Rattle.std.proofs.Common.{rules}
use Rattle.base_masks.specs.Mask.{share}
use Rattle.base_masks.proofs.overlap.Goals as goal

pub returns : goal.returns
unfolding share
returns c = search rules
