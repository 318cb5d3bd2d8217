-- `read_action` meets its contract: 3, then 4, or where the record ends.
use Rattle.std.proofs.Common.{refl, sym, ◌∙◌}
use Rattle.write_plant.proofs.Measured.{not_few, not_right, ends_at}
use Rattle.write_plant.proofs.ruling.read_action.Goals as goal

pub returns-then-n-gt4 : goal.returns-then-n-gt4
returns-then-n-gt4 c = not_few c.args.w.now c.args.action c.args.start _ refl c.if-n-gt4.true

pub returns-then-is_bad_fields : goal.returns-then-is_bad_fields
returns-then-is_bad_fields c =
    not_right c.args.w.now c.args.action c.args.start _ refl c.if-n-gt4.false (sym c.is_bad_fields.ensures ∙ c.if-is_bad_fields.true)

pub returns : goal.returns
returns c =
    ends_at c.args.w.now c.args.action c.args.start _ refl c.if-n-gt4.false (sym c.is_bad_fields.ensures ∙ c.if-is_bad_fields.false)
