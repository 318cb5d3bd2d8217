-- `measure` meets its contract: 2 for each of its reasons, or what the actions come to.
use Rattle.std.proofs.Common.{◌≤◌, ◌/◌, length, ◌∙◌, rules}
use Rattle.write_plant.proofs.Measured.{part_left, wrong_count, all_lent}
use Rattle.write_plant.proofs.ruling.measure.Goals as goal

pub returns-then-w-ne0 : goal.returns-then-w-ne0
returns-then-w-ne0 c = part_left c.args.w.now c.if-w-ne0.true

pub returns-then-not-contains : goal.returns-then-not-contains
returns-then-not-contains c = wrong_count c.args.w.now c.if-w-ne0.false (λ l m. search rules)

pub returns : goal.returns
returns c =
    let few : 1 ≤ length c.args.w.now / 19 = search rules in
    let most : length c.args.w.now / 19 ≤ 128 = search rules in
    c.read_actions.ensures ∙ all_lent c.args.w.now c.if-w-ne0.false few most
