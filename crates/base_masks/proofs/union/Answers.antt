-- `union` meets its contract: the machine's operation is the defined one.
use Rattle.std.proofs.Common.{rules}
use Rattle.base_masks.specs.Mask.{join}
use Rattle.base_masks.proofs.union.Goals as goal

pub returns : goal.returns
unfolding join
returns c = search rules
