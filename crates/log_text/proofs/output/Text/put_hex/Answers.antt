-- One pair more is written in each turn. Assumes nothing.
use Rattle.std.proofs.Common.{◌≡◌, ◌<◌, ◌/◌, ◌%◌, arith, get_or, length}
use Rattle.log_text.specs.Hex.{encoded}
use Rattle.log_text.proofs.Pairs.{encoded_more, encoded_none}
use Rattle.log_text.proofs.Place.{written_more, written_start}
use Rattle.log_text.proofs.output.Text.put_hex.Goals as goal

pub returns-then-is_empty : goal.returns-then-is_empty
unfolding encoded
returns-then-is_empty g c = rw (← c.is_empty.ensures, c.if-is_empty.true) c.put.ensures

pub loop-b-init : goal.loop-b-init
loop-b-init g c = let fits = c.args.self.now.within in rw (encoded_none c.args.s.now) (written_start _ _ _ (omega (arith, fits)))

pub loop-b-preserved : goal.loop-b-preserved
loop-b-preserved g c =
    let s = c.args.s.now in let k = c.loop-b.b-index in
    let small : get_or s k 0 < 256 = omega arith in
    let high : get_or s k 0 / 16 % 16 ≡ get_or s k 0 / 16 = omega arith in
    rw (encoded_more s k)
    (written_more _ _ _ _ _ _ _ _ c.loop-b.invariant (rw (high, ← c.digit_char.ensures, ← c.digit_char-in-loop-b.ensures) c.put-in-loop-b.ensures))

pub returns : goal.returns
unfolding encoded
returns g c =
    let e : c.loop-b.b-index ≡ length c.args.s.now = omega arith in
    rw (← c.is_empty.ensures, c.if-is_empty.false, ← e) c.loop-b.invariant
