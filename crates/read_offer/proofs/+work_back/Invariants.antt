-- `work_back` calls itself with one step less.
use Rattle.std.proofs.Common.{length}
use Rattle.read_offer.proofs.+work_back.Given as goal

abbrev pub decreases-work_back : goal.decreases-work_back
decreases-work_back l = length l.chain.now
