-- One pair more is written in each turn. Assumes nothing.
use Rattle.std.proofs.Common.{◌≡◌, ◌<◌, refl, sym, arith, get_or, length, true}
use Rattle.std.proofs.Output.{has_written_append, has_written_of_eq, writes_in_calls_nil}
use Rattle.log_text.specs.Hex.{encoded}
use Rattle.log_text.proofs.Pairs.{encoded_more, encoded_none, pair_written}
use Rattle.log_text.proofs.hexadecimal.HexDisplay.fmt.Goals as goal

pub returns-then-is_empty-clause-writes : goal.returns-then-is_empty-clause-writes
unfolding encoded
returns-then-is_empty-clause-writes g c = rw (← c.is_empty.ensures, c.if-is_empty.true) c.write.ensures.writes

pub loop-b-init : goal.loop-b-init
loop-b-init g c = λ p. rw (encoded_none c.args.self.now.0.now) (record { wrote = writes_in_calls_nil _ _; plain = p })

pub loop-b-preserved : goal.loop-b-preserved
loop-b-preserved g c = λ p.
    let s = c.args.self.now.0.now in let k = c.loop-b.b-index in let before = c.loop-b.invariant p in
    let small : get_or s k 0 < 256 = omega arith in
    has_written_of_eq _ _ _ _ _ (sym (encoded_more s k))
    (has_written_append _ _ _ _ _ _ before ((rw (c.in_radix.ensures, c.laid_out.ensures, pair_written (get_or s k 0) small) at c.in_ok-write.ensures.writes) before.plain (refl {a = true})))

pub returns-clause-writes : goal.returns-clause-writes
unfolding encoded
returns-clause-writes g c = λ p o.
    let e : c.loop-b.b-index ≡ length c.args.self.now.0.now = omega arith in
    rw (← c.is_empty.ensures, c.if-is_empty.false, ← e) (c.loop-b.invariant p)
