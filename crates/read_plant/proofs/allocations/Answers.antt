-- `allocations` meets its contract: a bad file and an action that it lacks have no part; a good one has it within the file.
use Rattle.std.proofs.Common.{◌∙◌, sym, ap, refl, ℕ, List}
use Rattle.read_plant.specs.Plant.{trailer_of, record_start}
use Rattle.read_plant.proofs.Good.{part_none, part_lacks, part_is}
use Rattle.read_plant.proofs.allocations.Goals as goal

pub returns-in_default : goal.returns-in_default
returns-in_default c = part_none _ _ _ (sym c.in_default.ensures.ruling)

pub returns-then-plant-action : goal.returns-then-plant-action
returns-then-plant-action c =
    part_lacks _ _ _ (sym c.in-Ok.ensures.ruling) (c.in-Ok.plant.trailed ∙ ap trailer_of c.in-Ok.ensures.same) c.if-plant-action.true

pub returns : goal.returns
returns c =
    part_is _ _ _ _ _ (sym c.in-Ok.ensures.ruling) (c.in-Ok.plant.trailed ∙ ap trailer_of c.in-Ok.ensures.same) c.if-plant-action.false
    (c.start_of-start.ensures.0 ∙ ap (λ (s : List ℕ). record_start s c.args.action) c.in-Ok.ensures.same) refl
