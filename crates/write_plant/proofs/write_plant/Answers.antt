-- `write_plant` meets its contract: the first of 2, 3 and 4, or 22, with nothing written; or the file in front of the buffer.
use Rattle.std.proofs.Common.{◌≤◌, ◌*◌, ◌/◌, length, sym, ◌∙◌, arith}
use Rattle.std.proofs.lemmas.Result.{err_from_is_err_and}
use Rattle.base_rulings.specs.Answer.{plain}
use Rattle.write_plant.proofs.LentLaws.{lent_few}
use Rattle.write_plant.proofs.Answers.{Passed, passed_of, fails_is, too_short, fits_in, none_written, file_written}
use Rattle.write_plant.proofs.write_plant.Goals as goal
use Rattle.write_plant.proofs.write_plant.Goals.{In_ok-index}

-- past `measure`
found : (c : In_ok-index) → Passed c.args.actions.now c.in_ok-index.index
found c = passed_of c.args.actions.now c.in_ok-index.index (sym c.measure.ensures ∙ c.in_ok-index.was)

-- the file is far shorter than the largest number
short : (c : In_ok-index) → c.in_ok-index.index ≤ 76 * (length c.args.actions.now / 19)
short c = let p = found c in omega (arith, lent_few c.args.actions.now (length c.args.actions.now / 19) p.few, p.ends)

pub returns-in_err-index : goal.returns-in_err-index
returns-in_err-index c =
    let A = c.args in
    let is = fails_is A.actions.now (length A.plant.now) c.in_err-index.field-0.0 (sym c.measure.ensures ∙ c.in_err-index.was) in
    let none = none_written A.actions.now A.plant.now c.in_err-index.field-0.0 is in
    let p = err_from_is_err_and c.from_residual.result c.from_residual.ensures.1 in
    rw (p.1, p.2) (record { ruling = sym is; length = none.0; plant = none.1 })

pub overflow_add-length : goal.overflow_add-length
overflow_add-length c = omega (arith, short c, (found c).most)

pub overflow_add-length-2 : goal.overflow_add-length-2
overflow_add-length-2 c = omega (arith, short c, (found c).most)

pub returns-then-plant-length : goal.returns-then-plant-length
returns-then-plant-length c =
    let A = c.args in
    let p = found (goal.at.returns-then-plant-length c).In_ok-index in
    let is = too_short A.actions.now c.in_ok-index.index (length A.plant.now) p c.if-plant-length.true in
    let none = none_written A.actions.now A.plant.now (plain 22) is in record { ruling = sym is; length = none.0; plant = none.1 }

pub put_file-requires : goal.put_file-requires
put_file-requires c =
    let p = found (goal.at.put_file-requires c).In_ok-index in (omega arith, p.few, p.most, p.ends, omega arith)

pub returns : goal.returns
returns c =
    let A = c.args in
    let p = found (goal.at.returns c).In_ok-index in
    let out = file_written A.actions.now A.plant.now _ c.in_ok-index.index p c.if-plant-length.false c.put_file.ensures in
    record {
      ruling = sym (fits_in A.actions.now c.in_ok-index.index (length A.plant.now) p c.if-plant-length.false);
      length = out.0;
      plant = out.1;
    }
