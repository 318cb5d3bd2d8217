-- Before each turn, the use stands at `at` of the line once the allocations that are left are put in (`Sought`).
use Rattle.std.proofs.Common.{get_or}
use Rattle.spec_plain.specs.Plain.{no_use}
use Rattle.part_drafts.specs.Moment.{line_at}
use Rattle.part_drafts.proofs.Moments.{Sought}
use Rattle.part_drafts.proofs.moment.Moment.use_in.Given as goal

abbrev pub invariant-loop-allocation : goal.invariant-loop-allocation
invariant-loop-allocation l =
    Sought l.self.first l.self.w.now l.resource (get_or (line_at l.self l.resource) l.place no_use) l.allocation-iterator.iter.rest.now l.at
