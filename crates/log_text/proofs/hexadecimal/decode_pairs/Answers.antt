-- The laws of a turn are in `Pairs`. Assumes nothing.
use Rattle.std.proofs.Common.{◌≡◌, sym, ◌∙◌, arith}
use Rattle.std.proofs.lemmas.Result.{err_from_is_err_and}
use Rattle.base_lists.proofs.AllBelow.{all_below_none}
use Rattle.base_lists.proofs.Build.{build_none}
use Rattle.log_text.proofs.Pairs.{all_pairs, bad_high, bad_low, byte_more, pair_more}
use Rattle.log_text.proofs.hexadecimal.decode_pairs.Goals as goal

pub loop-i-init : goal.loop-i-init
loop-i-init c = (sym (all_below_none _), sym (build_none _))

pub returns-in_err-high-clause-value : goal.returns-in_err-high-clause-value
returns-in_err-high-clause-value c =
    let p = err_from_is_err_and c.from_residual.result c.from_residual.ensures.1 in let q = c.in_err-high.ensures in
    rw (p.1, p.2) ((rw q.ok_part at q.value) ∙ bad_high _ _ _ c.loop-i-test.true (sym c.digit_value.ensures ∙ q.ok_part))

pub returns-in_err-low-clause-value : goal.returns-in_err-low-clause-value
returns-in_err-low-clause-value c =
    let p = err_from_is_err_and c.from_residual-in_err-low.result c.from_residual-in_err-low.ensures.1 in let q = c.in_err-low.ensures in
    rw (p.1, p.2) ((rw q.ok_part at q.value) ∙ bad_low _ _ _ c.loop-i-test.true (sym c.digit_value-in-loop-i.ensures ∙ q.ok_part))

pub loop-i-preserved : goal.loop-i-preserved
loop-i-preserved c =
    let f = sym c.digit_value.ensures ∙ c.in_ok-high.ensures.ok_part in let g = sym c.digit_value-in-loop-i.ensures ∙ c.in_ok-low.ensures.ok_part in
    (pair_more _ _ _ _ c.loop-i.invariant.0 f g, byte_more _ _ _ _ _ (omega arith) c.loop-i.invariant.1 f g)

pub returns-clause-value : goal.returns-clause-value
returns-clause-value c =
    let e : c.loop-i.i ≡ c.args.n = omega arith in
    all_pairs c.args.s.now c.args.n (rw e at c.loop-i.invariant.0)
