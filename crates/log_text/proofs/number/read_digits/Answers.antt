-- The laws of the three ways out are in `Value`. Assumes nothing.
use Rattle.std.proofs.Common.{◌≡◌, ◌+◌, sym, ◌∙◌, arith, length}
use Rattle.base_lists.proofs.AllBelow.{all_below_none, all_below_passes}
use Rattle.log_text.specs.Decimal.{digit_at, is_digit, value_to}
use Rattle.log_text.proofs.Value.{all_digits, no_digit, too_large, value_more, value_none}
use Rattle.log_text.proofs.number.read_digits.Goals as goal

pub loop-b-init : goal.loop-b-init
loop-b-init c = (omega arith, sym (value_none _), sym (all_below_none _))

pub returns-then-not-is_ascii_digit : goal.returns-then-not-is_ascii_digit
unfolding is_digit
returns-then-not-is_ascii_digit c =
    no_digit _ c.loop-b.b-index c.loop-b-test.true (sym c.is_ascii_digit.ensures.value ∙ c.if-not-is_ascii_digit.true)

pub returns-then-from-value : goal.returns-then-from-value
returns-then-from-value c =
    too_large c.args.s.now (c.loop-b.b-index + 1) (omega arith) (omega (arith, value_more c.args.s.now c.loop-b.b-index))

pub loop-b-preserved : goal.loop-b-preserved
unfolding is_digit
loop-b-preserved c = (
  omega arith,
  omega (arith, value_more c.args.s.now c.loop-b.b-index),
  all_below_passes (digit_at c.args.s.now) c.loop-b.b-index c.loop-b.invariant.2 (sym c.is_ascii_digit.ensures.value ∙ c.if-not-is_ascii_digit.false),
)

pub returns : goal.returns
returns c =
    let e : c.loop-b.b-index ≡ length c.args.s.now = omega arith in
    let v : c.loop-b.value ≡ value_to c.args.s.now (length c.args.s.now) = rw e at c.loop-b.invariant.1 in
    rw v (all_digits c.args.s.now (rw e at c.loop-b.invariant.2) (omega arith))
