-- `at` is where the records before this action end, and the actions before it are accepted.
use Rattle.std.proofs.Common.{◌≡◌, ◌≤◌, ◌*◌, length}
use Rattle.base_lists.specs.Loops.{build}
use Rattle.base_rulings.specs.declared.Ruling.TheVariants.{Accepted}
use Rattle.base_rulings.specs.Order.{first_refusal}
use Rattle.write_plant.specs.Written.{action_ruling}
use Rattle.write_plant.specs.Lent.{action_in}
use Rattle.write_plant.specs.Parts.{lent_records}
use Rattle.write_plant.proofs.ruling.read_actions.Given as goal

abbrev pub invariant-loop-action : goal.invariant-loop-action
invariant-loop-action l = record {
  at : l.at ≡ length (lent_records l.w l.action);
  before : first_refusal (action_ruling (build (action_in l.w) l.count)) l.action ≡ Accepted;
  few : l.at ≤ 76 * l.action;
}
