-- A byte that is passed counts one where it is x. Assumes nothing.
use Rattle.std.proofs.Common.{◌≡◌, ◌∙◌, sym, ap, ◌+◌, eqb, get_or, length, arith}
use Rattle.log_text.proofs.Counted.{count_none, count_step, byte_small}
use Rattle.log_text.proofs.search.count.Goals as goal

pub loop-b-init : goal.loop-b-init
loop-b-init c = (omega arith, sym (count_none _))

pub loop-b-preserved : goal.loop-b-preserved
loop-b-preserved c =
    let held = c.loop-b.invariant.0 in
    let is = c.from-n.ensures in
    let small = byte_small (eqb (get_or c.args.s.now c.loop-b.b-index 0) c.args.x) in
    (omega (arith, held, is, small), ap (λ m. c.loop-b.n + m) is ∙ count_step (λ k. eqb (get_or c.args.s.now k 0) c.args.x) c.loop-b.b-index c.loop-b.n c.loop-b.invariant.1)

pub returns : goal.returns
returns c = let end : c.loop-b.b-index ≡ length c.args.s.now = omega arith in rw end at c.loop-b.invariant.1
