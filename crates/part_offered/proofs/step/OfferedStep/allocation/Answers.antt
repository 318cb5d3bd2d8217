-- `OfferedStep::allocation`: word by word.
use Rattle.part_offered.proofs.StepLaws.{allocation_is}
use Rattle.part_offered.proofs.step.OfferedStep.allocation.Goals as goal

pub returns : goal.returns
returns c =
    allocation_is _ _ _ _ _ _ _ _ _ _ c.args.self.offered c.u32_at-resource.ensures c.u32_at-place.ensures c.u32_at-offset.ensures c.u32_at-length.ensures
