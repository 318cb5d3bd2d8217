-- `Offer::read` meets its contract: 7 for each of its reasons, what the steps come to, or an offer in right format.
use Rattle.std.proofs.Common.{sym, arith}
use borrow.Author.Tests.{lt-ltb, le-ltb}
use Rattle.std.proofs.lemmas.Result.{err_from_is_err_and}
use Rattle.read_offer.specs.Offer.{offer_ruling}
use Rattle.read_offer.proofs.format.Offer.read.Goals as goal
use Rattle.read_offer.proofs.format.Offer.read.Goals.{then-count-lt1-via-then-count-lt1, then-count-lt1-via-else-count-lt1+then-many}

pub returns-then-bytes-lt-HEADER_SIZE-clause-ruling : goal.returns-then-bytes-lt-HEADER_SIZE-clause-ruling
unfolding offer_ruling
returns-then-bytes-lt-HEADER_SIZE-clause-ruling c = simp (lt-ltb _ _ c.if-bytes-lt-HEADER_SIZE.true)

pub returns-then-count-lt1-clause-ruling : goal.returns-then-count-lt1-clause-ruling
unfolding offer_ruling
returns-then-count-lt1-clause-ruling c =
    elim c.then-count-lt1.branch [
      | then-count-lt1-via-then-count-lt1 w ↦
          simp (le-ltb _ _ c.if-bytes-lt-HEADER_SIZE.false, ← c.u32_at-count.ensures, lt-ltb _ _ w.if-count-lt1.true)
      | then-count-lt1-via-else-count-lt1+then-many w ↦
          simp
          (le-ltb _ _ c.if-bytes-lt-HEADER_SIZE.false, ← c.u32_at-count.ensures, le-ltb _ _ w.if-count-lt1.false, lt-ltb _ _ w.if-many.true)
    ]

pub returns-in_err-read_steps-clause-ruling : goal.returns-in_err-read_steps-clause-ruling
returns-in_err-read_steps-clause-ruling c =
    let p = err_from_is_err_and c.from_residual.result c.from_residual.ensures.1 in
    rw (p.1, p.2) c.in_err-read_steps.ensures

pub invariant_of-result : goal.invariant_of-result
invariant_of-result c =
    record {
      ruled = sym c.in_ok-read_steps.ensures;
      long = c.if-bytes-lt-HEADER_SIZE.false;
      counted = (omega arith, omega arith);
    }
