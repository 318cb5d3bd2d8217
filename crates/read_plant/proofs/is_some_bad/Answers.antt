-- `is_some_bad` meets its contract: none, one more, or one that is out of range (proofs/SomeBad).
use Rattle.std.proofs.Common.{◌≡◌, ◌∙◌, false, ltb, sym, ap}
use mathlib.Core.Bool.{or-true}
use borrow.Author.Tests.{lt-ltb, le-ltb}
use Rattle.base_masks.specs.Mask.{join}
use Rattle.read_plant.proofs.SomeBad.{BadSpan, some_bad_none, some_bad_next, some_bad_here}
use Rattle.read_plant.proofs.is_some_bad.Goals as goal
use Rattle.read_plant.proofs.is_some_bad.Goals.{
  then-not-is_good_length-via-then-not-is_good_length,
  then-not-is_good_length-via-else-not-is_good_length+then-u32_at-gt-MOST,
}

pub loop-k-init : goal.loop-k-init
loop-k-init c = some_bad_none _ _

pub returns-then-not-is_good_length : goal.returns-then-not-is_good_length
returns-then-not-is_good_length c =
    elim c.then-not-is_good_length.branch [
      | then-not-is_good_length-via-then-not-is_good_length w ↦
          sym
          (some_bad_here _ _ _ _ c.loop-k-test.true
          (simp (← c.u32_at-in-loop-k.ensures, ← c.is_good_length.ensures, w.if-not-is_good_length.true, or-true)))
      | then-not-is_good_length-via-else-not-is_good_length+then-u32_at-gt-MOST w ↦
          sym
          (some_bad_here _ _ _ _ c.loop-k-test.true
          (simp (← w.u32_at-else-not-is_good_length.ensures, lt-ltb _ _ w.if-u32_at-gt-MOST.true)))
    ]

pub loop-k-preserved : goal.loop-k-preserved
loop-k-preserved c =
    let in_range : BadSpan c.args.s.now c.args.at c.loop-k.k ≡ false =
    simp (
      ← c.u32_at-else-not-is_good_length.ensures,
      le-ltb _ _ c.if-u32_at-gt-MOST.false,
      ← c.u32_at-in-loop-k.ensures,
      ← c.is_good_length.ensures,
      c.if-not-is_good_length.false,
    ) in
    some_bad_next _ _ _ c.loop-k.resources c.loop-k.invariant in_range
    ∙ ap (ltb 15) (sym (c.union-resources.ensures ∙ ap (join c.loop-k.resources) c.u32_at.ensures))
