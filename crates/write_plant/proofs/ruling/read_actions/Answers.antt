-- `read_actions` meets its contract.
use Rattle.std.proofs.Common.{length, sym, ◌∙◌, ap, arith}
use Rattle.base_rulings.specs.Order.{refusal_of}
use Rattle.base_rulings.proofs.RulingLaws.{first_none, reading_goes_on}
use Rattle.write_plant.proofs.LentLaws.{lent_none}
use Rattle.write_plant.proofs.Measured.{ended_lent, ruling_at, reading_fails, reading_ends}
use Rattle.write_plant.proofs.ruling.read_actions.Goals as goal

pub loop-action-init : goal.loop-action-init
loop-action-init c = record { at = sym (ap length (lent_none c.args.w.now)); before = first_none _; few = omega arith }

pub returns-in_default : goal.returns-in_default
returns-in_default c =
    let L = c.loop-action in
    reading_fails c.args.w.now c.args.count L.action L.at _ _ L.invariant.before (omega arith) c.read_action-answer.ensures c.in_default.is

pub loop-action-preserved : goal.loop-action-preserved
loop-action-preserved c =
    let A = c.args in
    let L = c.loop-action in
    let is = c.in-Ok.is in
    let done = ended_lent A.w.now L.action L.at _ L.invariant.at (sym c.read_action-answer.ensures ∙ is) in record {
      at = done.0;
      before =
          reading_goes_on _ _ _ L.invariant.before
          (ap refusal_of c.read_action-answer.ensures ∙ ruling_at A.w.now A.count L.action L.at (omega arith)) _ is;
      few = omega (arith, done.1);
    }

pub returns : goal.returns
returns c =
    let L = c.loop-action in reading_ends c.args.w.now c.args.count L.action L.at L.invariant.before L.invariant.at (omega arith)
