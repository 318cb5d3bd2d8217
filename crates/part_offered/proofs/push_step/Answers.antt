-- `push_step`: one allocation more each time.
use mathlib.Core.Path.{refl}
use native.Mathlib.Omega.{arith}
use lib.ListN.{length-set}
use borrow.Author.Rules.{rules}
use Rattle.spec_rulebook.specs.Reading.{allocations_of_step}
use Rattle.part_offered.proofs.StepLaws.{step_more, step_done}
use Rattle.part_offered.proofs.push_step.Goals as goal

pub loop-j-init : goal.loop-j-init
unfolding allocations_of_step
loop-j-init c = record { allocations = refl; long = search rules }

pub loop-j-preserved : goal.loop-j-preserved
loop-j-preserved c =
    let L = c.loop-j in
    record {
      allocations = step_more _ _ _ _ _ _ L.invariant.allocations (omega arith) c.allocation.ensures;
      long = simp length-set L.invariant.long;
    }

pub returns-clause-behind : goal.returns-clause-behind
returns-clause-behind c =
    let count = c.allocation_count-n.ensures in
    step_done _ _ _ _ _ _ _ _ _ c.loop-j.invariant.allocations (omega (arith, c.loop-j.invariant.long, count)) (omega (arith, c.loop-j.invariant.long, count))
    (omega arith)
