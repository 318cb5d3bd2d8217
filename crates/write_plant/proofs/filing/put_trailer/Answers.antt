-- `put_trailer` meets its contract: two numbers and the mark, one behind the other.
use Rattle.write_plant.proofs.Stored.{trailer_stored}
use Rattle.write_plant.proofs.filing.put_trailer.Goals as goal

pub returns : goal.returns
returns c =
    trailer_stored c.args.s.now c.args.at c.args.index c.args.count _ _ _ c.put_word.ensures c.put_word-2.ensures c.put_mark.ensures
