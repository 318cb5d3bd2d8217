-- `read_records`: `at` is where the record of the action has to start whose index entry stands at `entry`, by that entry too; the records before it
-- are accepted.
use Rattle.std.proofs.Common.{◌≡◌, ◌+◌, ◌-◌, ◌*◌, ◌<◌, ◌^◌}
use Rattle.read_plant.proofs.Reading.{Reached, number}
use Rattle.read_plant.proofs.read_records.Given as goal

abbrev pub invariant-loop-at : goal.invariant-loop-at
invariant-loop-at l =
    Reached l.s l.t l.at (number l.t l.entry) × (l.at < 2 ^ 32) × (l.entry ≡ l.t.index + 4 * number l.t l.entry)

abbrev pub decreases-loop-at : goal.decreases-loop-at
decreases-loop-at l = l.t.count - number l.t l.entry
