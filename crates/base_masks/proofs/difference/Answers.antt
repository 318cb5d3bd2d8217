-- `difference` meets its contract: the machine's operations are the defined ones.
use Rattle.std.proofs.Common.{rules}
use Rattle.base_masks.specs.Mask.{strike}
use Rattle.base_masks.proofs.difference.Goals as goal

pub returns : goal.returns
unfolding strike
returns c = search rules
