-- A file is far shorter than the largest number.
use Rattle.std.proofs.Common.{length, ◌∙◌, arith}
use Rattle.write_plant.proofs.Answers.{length_few}
use Rattle.cabi.proofs.sf_write_plant.Goals as goal

pub overflow_cast-unwrap_or : goal.overflow_cast-unwrap_or
overflow_cast-unwrap_or c =
    let size = c.unwrap_or-2.ensures ∙ c.write_plant-filed.ensures.length in
    omega (arith, size, length_few c.args.actions.now (length c.args.plant.now))
