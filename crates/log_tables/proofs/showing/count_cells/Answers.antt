use Rattle.std.proofs.Common.{arith, ◌≡◌, ◌∙◌, ap}
use Rattle.spec_plain.specs.Limits.{cell_count}
use Rattle.log_tables.specs.Witness.{differing}
use Rattle.log_tables.proofs.Witnesses.{none_yet, same_more, other_more, few}
use Rattle.log_tables.proofs.showing.count_cells.Goals as goal
use Rattle.log_tables.proofs.showing.count_cells.Goals.{then-a-k, else-a-k}

pub loop-k-init : goal.loop-k-init
loop-k-init c = none_yet _ _

pub overflow_add-n : goal.overflow_add-n
overflow_add-n c = omega (arith, few c.args.a.now c.args.b.now c.loop-k.k)

pub loop-k-preserved : goal.loop-k-preserved
loop-k-preserved c =
    let more = c.loop-k.invariant in
    elim c.if-a-k.branch [
      | then-a-k w ↦ w.n-is ∙ other_more _ _ c.loop-k.k c.loop-k.n more w.if-a-k.true
      | else-a-k w ↦ w.n-is ∙ same_more _ _ c.loop-k.k c.loop-k.n more w.if-a-k.false
    ]

pub returns : goal.returns
returns c =
    let all : c.loop-k.k ≡ cell_count = omega arith in
    c.loop-k.invariant ∙ ap (differing c.args.a.now c.args.b.now) all
