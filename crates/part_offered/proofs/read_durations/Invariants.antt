-- `read_durations`: the first k steps are held, and the next one starts at `at`.
use Rattle.std.proofs.Common.{◌≡◌, take, length}
use Rattle.read_offer.specs.Offer.{step_start}
use Rattle.spec_rulebook.specs.Reading.{steps_from}
use Rattle.part_offered.proofs.read_durations.Given as goal

abbrev pub invariant-loop-k : goal.invariant-loop-k
invariant-loop-k l =
    record {
      there : l.at ≡ step_start l.offer.plant.bytes.now l.offer.bytes.now l.k;
      steps : take l.k l.slot-items ≡ steps_from l.offer.plant.bytes.now l.offer.bytes.now 0 l.k;
      long : length l.slot-items ≡ l.count;
    }
