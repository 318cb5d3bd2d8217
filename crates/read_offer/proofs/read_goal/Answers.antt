-- `read_goal` meets its contract.
use Rattle.read_offer.specs.Offer.{goal_of}
use Rattle.read_offer.proofs.read_goal.Goals as goal

pub returns : goal.returns
unfolding goal_of
returns c = c.literals_at.ensures
