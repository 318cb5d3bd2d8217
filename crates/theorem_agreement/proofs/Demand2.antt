-- Demand 2 (specs/Demand2), put together of its theorems: facts (crates/read_offer), plan, send and clock (Decided), plan's 23 (TwentyThree),
-- retire (TwentyOne), the report (Reported), lists of calls (Lists).
use Rattle.read_offer.proofs.Right.{fact_check_right}
use Rattle.theorem_agreement.specs.Demand2.{Demand2}
use Rattle.theorem_agreement.proofs.Decided.{plan_decided, plan_14, send_decided, clock_decided}
use Rattle.theorem_agreement.proofs.TwentyThree.{plan_23}
use Rattle.theorem_agreement.proofs.TwentyOne.{retire_decided}
use Rattle.theorem_agreement.proofs.Reported.{row_tells}
use Rattle.theorem_agreement.proofs.Lists.{agreement}

pub demand2 : Demand2
demand2 =
    record {
      facts = fact_check_right;
      plans = plan_decided;
      fourteens = plan_14;
      twenty_threes = plan_23;
      reports = row_tells;
      sends = send_decided;
      clocks = clock_decided;
      retires = retire_decided;
      lists = agreement;
    }
