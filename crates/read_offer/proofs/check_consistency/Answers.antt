-- `check_consistency` meets its contract: 10 for the known facts, 10 for the goal, or accepted.
use mathlib.Core.Bool.{or-true}
use Rattle.read_offer.specs.Offer.{consistency_ruling}
use Rattle.read_offer.proofs.check_consistency.Goals as goal
use Rattle.read_offer.proofs.check_consistency.Goals.{then-has_both-via-then-has_both, then-has_both-via-else-has_both+then-has_both-2}

pub returns-then-has_both : goal.returns-then-has_both
unfolding consistency_ruling
returns-then-has_both c =
    elim c.then-has_both.branch [
      | then-has_both-via-then-has_both w ↦ simp (← c.read_known.ensures, ← c.has_both.ensures, w.if-has_both.true)
      | then-has_both-via-else-has_both+then-has_both-2 w ↦
          simp (← w.read_goal.ensures, ← w.has_both-else-has_both.ensures, w.if-has_both-2.true, or-true)
    ]

pub returns : goal.returns
unfolding consistency_ruling
returns c =
    simp
    (← c.read_known.ensures, ← c.has_both.ensures, c.if-has_both.false, ← c.read_goal.ensures, ← c.has_both-else-has_both.ensures, c.if-has_both-2.false)
