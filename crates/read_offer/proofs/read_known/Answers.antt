-- `read_known` meets its contract.
use Rattle.read_offer.specs.Offer.{known_of}
use Rattle.read_offer.proofs.read_known.Goals as goal

pub returns : goal.returns
unfolding known_of
returns c = c.literals_at.ensures
