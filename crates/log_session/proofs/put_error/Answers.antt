-- Three texts, written one after the other. Assumes nothing.
use Rattle.log_text.proofs.Place.{written_more}
use Rattle.log_session.proofs.put_error.Goals as goal

pub returns-in-Unreadable : goal.returns-in-Unreadable
returns-in-Unreadable g c =
    rw c.in-Unreadable.is (written_more _ _ _ _ _ _ _ _ (written_more _ _ _ _ _ _ _ _ c.put.ensures c.put-in-Unreadable.ensures) c.put-in-Unreadable-2.ensures)
