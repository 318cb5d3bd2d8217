-- `OfferedStep::new`: the offer passed 7 to 9, so the step's action is one of the plant's and both lie within their bytes.
use Rattle.part_offered.proofs.StepLaws.{action_within, action_known, offered}
use Rattle.part_offered.proofs.step.OfferedStep.new.Goals as goal

pub u32_at-requires : goal.u32_at-requires
u32_at-requires c = action_within _ _ c.args.offer.plant.good c.args.offer.ruled _ _ c.requires.0 c.requires.1

pub start_of-start-requires : goal.start_of-start-requires
start_of-start-requires c =
    action_known _ _ c.args.offer.plant.good c.args.offer.ruled _ _ c.requires.0 c.requires.1 _ _ c.args.offer.plant.trailed c.u32_at.ensures

pub invariant_of-result : goal.invariant_of-result
invariant_of-result c =
    record {
      offered =
          offered _ _ c.args.offer.plant.good c.args.offer.ruled _ _ c.requires.0 c.requires.1 _ _ c.u32_at.ensures c.start_of-start.ensures.0
          c.start_of-start.ensures.1;
    }
