-- Only the cells of the first n points count.
--   agree_closed, agree_fits   tables that agree are both closed or neither, and allow the same timetables
--   agree_add                  the same rule added to agreeing tables gives agreeing tables
use mathlib.Core.Path.{sym, ◌∙◌}
use Prim.Native.Nat.{ℕ, ◌<◌}
use native.Mathlib.Omega.{arith}
use Rattle.spec_plain.specs.declared.Rule.{Rule}
use Rattle.spec_plain.specs.Rules.{Times}
use Rattle.spec_stn.specs.Table.{Table, Closed, Fits, add, Agree}
use Rattle.spec_stn.proofs.Fits.{fits_to, fits_of}

pub agree_closed : (n : ℕ) (c d : Table) → Agree n c d → 0 < n → Closed n c → Closed n d
agree_closed n c d e z cl =
    record {
      diagonal = λ i h. sym (e i i h h) ∙ cl.diagonal i h;
      triangle = λ i j k hi hj hk. omega (arith, cl.triangle i j k hi hj hk, e i k hi hk, e i j hi hj, e j k hj hk);
      bounded = λ i j hi hj. omega (arith, cl.bounded i j hi hj, e i j hi hj);
      floor = λ i h. omega (arith, cl.floor i h, e i 0 h z);
    }

pub agree_fits : (n : ℕ) (c d : Table) → Agree n c d → (u : Times) → Fits n c u → Fits n d u
agree_fits n c d e u f = fits_of n d u λ i j hi hj. omega (arith, fits_to f i j hi hj, e i j hi hj)

pub agree_add : (n : ℕ) (c d : Table) (r : Rule) → r.early < n → r.late < n → Agree n c d → Agree n (add r c) (add r d)
unfolding add
agree_add n c d r x y e i j hi hj = rw (e i j hi hj, e i r.late hi y, e r.early j x hj)
