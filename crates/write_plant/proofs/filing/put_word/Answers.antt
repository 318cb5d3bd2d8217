-- `put_word` meets its contract.
use Rattle.std.proofs.Common.{refl, ◌∙◌, arith}
use Rattle.write_plant.proofs.Stored.{part_stored}
use Rattle.write_plant.proofs.filing.put_word.Goals as goal

pub returns : goal.returns
returns c = part_stored c.args.s.now c.args.at _ _ _ (c.copy_from_slice.ensures.after ∙ c.to_le_bytes.ensures) refl (omega arith)
