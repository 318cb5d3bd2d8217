-- Laws of rules and timetables.
--   NotLater t x p y q   the time of x plus p is at most the time of y plus q, as omega reads it
--   kept_to, kept_of     a rule that is kept is NotLater, and the other way
--   kept_append          two lists of rules are kept when each is;  kept_ext: equal times keep the same rules
--   kept_renamed         points renamed: the times of the new names are looked up
--   keeps_to, keeps_of, keeps_append   the same laws for the plain machine's rules (`Keeps`, `KeepsAll`)
--   kept_named           points named: the plain rules are kept by the times of the names
use mathlib.Core.Path.{◌≡◌, subst, fun_ext}
use mathlib.Core.Logic.{◌↔◌}
use mathlib.Core.List.{List, [], ◌∷◌, ◌++◌, map}
use Prim.Native.Nat.{ℕ, ◌+◌, ◌≤◌}
use native.Mathlib.Omega.{arith}
use lib.IntN.{ℤ, pos, ◌+ℤ◌}
use Rattle.spec_plain.specs.declared.Rule.{Rule}
use Rattle.spec_plain.specs.Rules.{Times, RuleOn, named, renamed, Kept, AllKept, Keeps, KeepsAll}
use Rattle.spec_plain.proofs.Whole.{up, dn, below_of, of_below, add_spec}

module _ {P : Type 0} where
  abbrev pub NotLater : (P → ℤ) → P → ℕ → P → ℕ → Type 0
  NotLater t x p y q = up (t x) + p + dn (t y) ≤ up (t y) + q + dn (t x)

  pub kept_to : (t : P → ℤ) (r : RuleOn P) → Kept t r → NotLater t r.early r.more r.late r.slack
  unfolding Kept
  kept_to t r k =
      omega (
        arith,
        add_spec (t r.early) r.more,
        add_spec (t r.late) r.slack,
        below_of (t r.early +ℤ pos r.more) (t r.late +ℤ pos r.slack) k,
      )

  pub kept_of : (t : P → ℤ) (r : RuleOn P) → NotLater t r.early r.more r.late r.slack → Kept t r
  unfolding Kept
  kept_of t r k =
      of_below (t r.early +ℤ pos r.more) (t r.late +ℤ pos r.slack)
      (omega (arith, add_spec (t r.early) r.more, add_spec (t r.late) r.slack))

  pub kept_append : (t : P → ℤ) (rs ss : List (RuleOn P)) → AllKept t (rs ++ ss) ↔ (AllKept t rs × AllKept t ss)
  unfolding AllKept
  kept_append t [] ss = (λ k. (tt, k), λ p. p.1)
  kept_append t (r ∷ rs) ss =
      let rest = kept_append t rs ss in
      (λ k. let q = rest.0 k.1 in ((k.0, q.0), q.1), λ p. (p.0.0, rest.1 (p.0.1, p.1)))

  pub kept_ext : (t u : P → ℤ) → ((x : P) → t x ≡ u x) → (rs : List (RuleOn P)) → AllKept t rs → AllKept u rs
  kept_ext t u e rs k = subst (λ (v : P → ℤ). AllKept v rs) (fun_ext e) k

module _ {P Q : Type 0} where
  pub kept_renamed : (f : P → Q) (t : Q → ℤ) (rs : List (RuleOn P)) → AllKept t (map (renamed f) rs) ↔ AllKept (λ x. t (f x)) rs
  unfolding AllKept Kept renamed
  kept_renamed f t [] = (λ k. k, λ k. k)
  kept_renamed f t (r ∷ rs) = let rest = kept_renamed f t rs in (λ k. (k.0, rest.0 k.1), λ k. (k.0, rest.1 k.1))

-- ---- the plain machine's rules: their points are their own names

pub keeps_to : (t : Times) (r : Rule) → Keeps t r → NotLater t r.early r.more r.late r.slack
unfolding named
keeps_to t r k = kept_to t (named (λ x. x) r) k

pub keeps_of : (t : Times) (r : Rule) → NotLater t r.early r.more r.late r.slack → Keeps t r
unfolding named
keeps_of t r k = kept_of t (named (λ x. x) r) k

pub keeps_append : (t : Times) (rs ss : List Rule) → KeepsAll t (rs ++ ss) ↔ (KeepsAll t rs × KeepsAll t ss)
unfolding AllKept
keeps_append t [] ss = (λ k. (tt, k), λ p. p.1)
keeps_append t (r ∷ rs) ss =
    let rest = keeps_append t rs ss in
    (λ k. let q = rest.0 k.1 in ((k.0, q.0), q.1), λ p. (p.0.0, rest.1 (p.0.1, p.1)))

pub kept_named : {P : Type 0} (f : ℕ → P) (t : P → ℤ) (rs : List Rule) → AllKept t (map (named f) rs) ↔ KeepsAll (λ x. t (f x)) rs
unfolding AllKept Kept named
kept_named f t [] = (λ k. k, λ k. k)
kept_named f t (r ∷ rs) = let rest = kept_named f t rs in (λ k. (k.0, rest.0 k.1), λ k. (k.0, rest.1 k.1))
