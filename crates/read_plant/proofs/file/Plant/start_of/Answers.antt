-- `start_of` meets its contract: in a good file the index entry says where the record starts (`start_is`).
use Rattle.std.proofs.Common.{◌∙◌, arith}
use Rattle.read_plant.proofs.Good.{good, entry_within, start_is, record_within}
use Rattle.read_plant.proofs.file.Plant.start_of.Goals as goal

pub overflow_add-self : goal.overflow_add-self
overflow_add-self c = let w = entry_within _ _ (good _ c.args.self.good) c.args.self.trailed _ c.requires in omega (arith, w)

pub u32_at-requires : goal.u32_at-requires
u32_at-requires c = let w = entry_within _ _ (good _ c.args.self.good) c.args.self.trailed _ c.requires in omega (arith, w)

pub returns : goal.returns
returns c =
    let e = c.u32_at.ensures ∙ start_is _ _ (good _ c.args.self.good) c.args.self.trailed _ c.requires in
    let w = record_within _ _ (good _ c.args.self.good) c.args.self.trailed _ c.requires in
    (e, rw e (omega (arith, w)))
