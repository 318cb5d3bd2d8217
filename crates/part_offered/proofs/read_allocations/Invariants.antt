-- `read_allocations`: the `many` allocations of the first k steps are held, at most 4 of each, and the next step starts at `at`.
use Rattle.std.proofs.Common.{◌≡◌, ◌≤◌, ◌*◌, take}
use Rattle.read_offer.specs.Offer.{step_start}
use Rattle.spec_rulebook.specs.Reading.{allocations_from}
use Rattle.part_offered.proofs.read_allocations.Given as goal

abbrev pub invariant-loop-k : goal.invariant-loop-k
invariant-loop-k l =
    record {
      there : l.at ≡ step_start l.offer.plant.bytes.now l.offer.bytes.now l.k;
      allocations : take l.many l.held ≡ allocations_from l.offer.plant.bytes.now l.offer.bytes.now 0 l.k;
      few : l.many ≤ 4 * l.k;
    }
