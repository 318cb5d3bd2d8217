-- What placing an offer's allocations keeps, whatever is asked of uses and rules. Assumes nothing.
--   U, R, order        what is asked of a use and of a rule; the rule that puts two uses in order is such a rule
--   Placing n q        what placing comes to: such lines and rules, and no more than n rules
--   placed_all         placing keeps it: two rules at most for each allocation
use mathlib.Core.Path.{◌≡◌, refl}
use mathlib.Core.Bool.{Bool, true, false, cond}
use mathlib.Core.List.{List, [], ◌∷◌, ◌++◌}
use Prim.Native.Nat.{ℕ, zero, suc, ◌+◌, ◌*◌, ◌≤◌, ◌<◌}
use native.Mathlib.Omega.{arith}
use lib.Dec.{ltb}
use lib.ListN.{length, get_or, length-append}
use borrow.Author.Tests.{ltb-true}
use Rattle.spec_plain.specs.Limits.{most_uses}
use Rattle.spec_plain.specs.declared.Settings.{Settings}
use Rattle.spec_plain.specs.declared.Use.{Use}
use Rattle.spec_plain.specs.declared.Allocation.{Allocation}
use Rattle.spec_plain.specs.declared.Rule.{Rule}
use Rattle.spec_plain.specs.Plain.{no_use, in_order, inserted, rule_before, rule_after, used_from, placed, Placed}
use Rattle.part_lines.specs.Placing.{line_for, lines_with}
use Rattle.part_lines.proofs.Placing.{rules_for, placed_keeps}
use Rattle.part_lines.proofs.RuleLaws.{before_few, after_few}
use Rattle.base_lists.specs.All.{All}
use Rattle.base_lists.proofs.All.{all_at, all_get, all_append, all_set}

module _ (s : Settings) (U : Use → Type 0) (R : Rule → Type 0) (order : (a b : Use) → U a → U b → R (in_order s a b)) where
  unfoldable pub Placing : ℕ → Placed → Type 0
  Placing n (Placed.stop c) = Unit {0}
  Placing n (Placed.done ls rs) = All (All U) ls × All R rs × (length rs ≤ n)

  inserted_all : (p : ℕ) (u : Use) (l : List Use) → U u → All U l → All U (inserted p u l)
  unfolding inserted
  inserted_all zero u l h a = (h, a)
  inserted_all (suc p) u [] h a = (h, tt)
  inserted_all (suc p) u (x ∷ l) h a = (a.0, inserted_all p u l h a.1)

  line_at : (ls : List (List Use)) (r : ℕ) → All (All U) ls → All U (get_or ls r [])
  line_at ls r a = all_get (All U) ls r [] a tt

  before_all : (l : List Use) (p : ℕ) (u : Use) → p ≤ length l → All U l → U u → All R (rule_before s l p u)
  unfolding rule_before
  before_all l zero u le a h = tt
  before_all l (suc p) u le a h = (order (get_or l p no_use) u (all_at U l no_use a p (omega arith)) h, tt)

  after_all : (l : List Use) (p : ℕ) (u : Use) → All U l → U u → All R (rule_after s l p u)
  unfolding rule_after
  after_all l p u a h = go (ltb p (length l)) refl
    where
      go : (b : Bool) → ltb p (length l) ≡ b → All R (cond b (in_order s u (get_or l p no_use) ∷ []) [])
      go true e = (order u (get_or l p no_use) h (all_at U l no_use a p (ltb-true p (length l) e)), tt)
      go false e = tt

  -- what holds of the allocations left, the lines and the rules so far
  abbrev Before : ℕ → ℕ → List Allocation → List (List Use) → List Rule → Type 0
  Before x n ps ls rs = All (λ p. U (used_from x p)) ps × All (All U) ls × All R rs × (length rs + 2 * length ps ≤ n)

  pub placed_all :
      (x i n : ℕ) (ps : List Allocation) (ls : List (List Use)) (rs : List Rule)
      → All (λ p. U (used_from x p)) ps → All (All U) ls → All R rs → length rs + 2 * length ps ≤ n → Placing n (placed s x i ps ls rs)
  unfolding Placing
  placed_all x i n ps ls rs a b c le =
      placed_keeps s x (Before x n) (Placing n) (λ k. (tt, tt)) (λ ks qs h. (h.1, h.2, omega (arith, h.3))) next i ps ls rs (a, b, c, le)
    where
      next :
          (p : Allocation) (ps : List Allocation) (ls : List (List Use)) (rs : List Rule) → p.place ≤ length (line_for ls p) → length (line_for ls p) < most_uses
          → Before x n (p ∷ ps) ls rs → Before x n ps (lines_with x ls p) (rs ++ rules_for s x ls p)
      next p ps ls rs fits room h =
          let line = line_for ls p in
          let u = used_from x p in
          let k = p.place in
          let line-all = line_at ls p.resource h.1 in
          let before = before_all line k u fits line-all h.0.0 in
          let after = after_all line k u line-all h.0.0 in (
            h.0.1,
            all_set (All U) ls p.resource (inserted k u line) h.1 (inserted_all k u line h.0.0 line-all),
            all_append R rs (rules_for s x ls p) h.2 (all_append R (rule_before s line k u) (rule_after s line k u) before after),
            omega (
              arith,
              h.3,
              length-append rs (rules_for s x ls p),
              length-append (rule_before s line k u) (rule_after s line k u),
              before_few s line k u,
              after_few s line k u,
            ),
          )
