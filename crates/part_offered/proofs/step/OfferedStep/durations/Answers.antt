-- `OfferedStep::durations`: the record is that of the step's action.
use Rattle.spec_rulebook.specs.Reading.{step_of}
use Rattle.part_offered.proofs.step.OfferedStep.durations.Goals as goal

pub returns : goal.returns
unfolding step_of
returns c = rw (c.u32_at.ensures, c.u32_at-2.ensures, c.args.self.offered.its)
