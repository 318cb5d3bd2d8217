-- A point has one least and one greatest time, and two points have one largest gap: what `LeastTime`, `GreatestTime` and `LargestGap` say leaves no choice,
-- so that to say less of them would be another statement. Assumes nothing.
--   least_one, greatest_one, gap_one   two such values are the same
use mathlib.Core.Path.{◌≡◌, ap}
use Prim.Native.Nat.{ℕ}
use native.Mathlib.Omega.{arith}
use lib.IntN.{ℤ, pos, ◌+ℤ◌}
use Rattle.spec_plain.specs.Rules.{Times}
use Rattle.spec_plain.proofs.Whole.{up, dn, below_of, sum_spec, whole_eq}
use Rattle.spec_rulebook.specs.Book.{LeastTime, GreatestTime, LargestGap}

pub least_one : (Y : Times → Type 0) (x v w : ℕ) → LeastTime Y x v → LeastTime Y x w → v ≡ w
least_one Y x v w a b =
    let p = a.attained in
    let q = b.attained in
    omega (
      arith,
      below_of (pos v) (q.0 x) (a.least q.0 q.1),
      below_of (pos w) (p.0 x) (b.least p.0 p.1),
      ap up p.2,
      ap dn p.2,
      ap up q.2,
      ap dn q.2,
    )

pub greatest_one : (Y : Times → Type 0) (x v w : ℕ) → GreatestTime Y x v → GreatestTime Y x w → v ≡ w
greatest_one Y x v w a b =
    let p = a.attained in
    let q = b.attained in
    omega (
      arith,
      below_of (q.0 x) (pos v) (a.most q.0 q.1),
      below_of (p.0 x) (pos w) (b.most p.0 p.1),
      ap up p.2,
      ap dn p.2,
      ap up q.2,
      ap dn q.2,
    )

pub gap_one : (Y : Times → Type 0) (i j : ℕ) (d e : ℤ) → LargestGap Y i j d → LargestGap Y i j e → d ≡ e
gap_one Y i j d e a b =
    let p = a.attained in
    let q = b.attained in
    whole_eq d e
    (omega (
      arith,
      below_of (q.0 j) (q.0 i +ℤ d) (a.most q.0 q.1),
      below_of (p.0 j) (p.0 i +ℤ e) (b.most p.0 p.1),
      sum_spec (p.0 i) d,
      sum_spec (p.0 i) e,
      sum_spec (q.0 i) d,
      sum_spec (q.0 i) e,
      ap up p.2,
      ap dn p.2,
      ap up q.2,
      ap dn q.2,
    ))
