-- A pair more, and one that fails.
use Rattle.std.proofs.Common.{◌≡◌, ◌⊎◌, ◌+◌, sym, ◌∙◌, arith}
use mathlib.Core.Logic.{inl, inr}
use native.Mathlib.Decide.{dec_lt}
use Prim.Native.Nat.{ℕ, ◌<◌, ◌-◌, min}
use Rattle.base_lists.proofs.AllBelow.{all_below_none}
use Rattle.part_gaptest.specs.Test.{way_holds}
use Rattle.part_gaptest.proofs.Ways.{pair_next, pair_fails}
use Rattle.part_gaptest.proofs.triangle.row_holds.Goals as goal

-- the next way, or the same once more
next_is : (j k n : ℕ) → j < n → k ≡ min (j + 1) (n - 1) → (k ≡ j) ⊎ (k ≡ j + 1)
next_is j k n h e = go (dec_lt (j + 1) n)
  where
    go : Dec (j + 1 < n) → (k ≡ j) ⊎ (k ≡ j + 1)
    go (yes l) = inr (omega arith)
    go (no l) = inl (omega arith)

pub loop-j-init : goal.loop-j-init
loop-j-init c = record { within = omega arith; told = sym (all_below_none _) }

pub returns-then-not-ways_hold : goal.returns-then-not-ways_hold
returns-then-not-ways_hold c =
    pair_fails (way_holds c.args.t.now c.args.n c.args.i) _ c.loop-j.j _ c.loop-j-test.true (omega arith) (sym c.ways_hold.ensures ∙ c.if-not-ways_hold.true)

pub loop-j-preserved : goal.loop-j-preserved
loop-j-preserved c =
    record {
      within = omega arith;
      told =
          pair_next (way_holds c.args.t.now c.args.n c.args.i) c.loop-j.j _ c.loop-j.invariant.told
          (next_is c.loop-j.j _ c.args.n c.loop-j-test.true c.min-next.ensures) (sym c.ways_hold.ensures ∙ c.if-not-ways_hold.false);
    }

pub returns : goal.returns
returns c =
    let e : c.loop-j.j ≡ c.args.n = omega arith in
    sym (rw e at c.loop-j.invariant.told)
