-- Three texts, written one after the other. Assumes nothing.
use Rattle.log_text.proofs.Place.{written_more}
use Rattle.log_calls.proofs.answers.put_part.Goals as goal

pub returns : goal.returns
returns g c = written_more _ _ _ _ _ _ _ _ (written_more _ _ _ _ _ _ _ _ c.put.ensures c.put_hex.ensures) c.put-2.ensures
