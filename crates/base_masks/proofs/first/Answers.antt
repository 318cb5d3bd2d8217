-- `first` meets its contract: the machine's operation is the defined one.
use Rattle.std.proofs.Common.{rules}
use Rattle.base_masks.specs.Mask.{lowest}
use Rattle.base_masks.proofs.first.Goals as goal

pub returns : goal.returns
unfolding lowest
returns c = search rules
