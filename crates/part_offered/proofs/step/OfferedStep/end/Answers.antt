-- `OfferedStep::end`: the next step starts behind the places.
use Rattle.part_offered.proofs.StepLaws.{next_at}
use Rattle.part_offered.proofs.step.OfferedStep.end.Goals as goal

pub returns : goal.returns
returns c = rw c.allocation_count.ensures (next_at _ _ _ _ _ c.args.self.offered)
