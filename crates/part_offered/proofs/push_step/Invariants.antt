-- `push_step`: the first j allocations are held.
use Rattle.std.proofs.Common.{◌≡◌, take, length}
use Rattle.spec_rulebook.specs.Reading.{allocations_of_step}
use Rattle.read_plant.specs.Plant.{allocation_count}
use Rattle.part_offered.proofs.push_step.Given as goal

abbrev pub invariant-loop-j : goal.invariant-loop-j
invariant-loop-j l =
    record {
      allocations : take l.j l.slot-items ≡ allocations_of_step l.step.offer.plant.bytes.now l.step.offer.bytes.now l.step.number 0 l.j;
      long : length l.slot-items ≡ allocation_count l.step.offer.plant.bytes.now l.step.start;
    }
