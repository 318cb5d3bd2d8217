-- Refusal 13, by the forward definition: the fact named is needed and not known so, no lower fact is, and the chain itself is no
-- impossible one, since some full state runs. Assumes nothing.
--   Small, SmallNeeds     masks of 32 bits, of a pair and of a chain's needs
--   thirteen    refusal 13 with fact k says what `Thirteen` says;  thirteen_only: and of no other fact does that hold
-- The idea: what the regression leaves at the start, l, holds exactly in the states that run. A fact of l is therefore needed; and a
-- fact that is not in l is not needed, since of the two states that hold just l, one has it false and one has it true.
use Prim.Native.Nat.{ℕ, ◌+◌, ◌<◌, ◌^◌}
use native.Mathlib.Decide.{dec_lt}
use native.Mathlib.Omega.{arith}
use mathlib.Core.Path.{◌≡◌, refl, sym, subst}
use mathlib.Core.Logic.{inl, inr, ⊎_elim}
use mathlib.Core.List.{List, [], ◌∷◌}
use mathlib.Core.Bool.{Bool, true, false, cond, not}
use lib.Dec.{eqb}
use borrow.Author.Tests.{eqb-false, ne_eqb}
use Rattle.base_masks.specs.Mask.{has, share, lowest}
use Rattle.base_masks.proofs.MaskLaws.{lowest_has, lowest_least, zero_none, join_lt, strike_lt}
use Rattle.base_rulings.specs.declared.Cause.{Cause}
use Rattle.base_rulings.specs.declared.Ruling.TheVariants.{Accepted}
use Rattle.base_rulings.specs.Answer.{cause, refused}
use Rattle.read_facts.specs.declared.Literals.{Literals}
use Rattle.read_facts.specs.declared.Action.{Action}
use Rattle.std.specs.Prelude.{Result, Ok, Err}
use Rattle.read_facts.specs.Regression.{undoes, regressed, back_over, then_back, work_back, lacking, at_start, on_need, fact_ruling}
use Rattle.read_facts.specs.Forward.{RunsThrough, Lacks, Thirteen}
use Rattle.read_facts.proofs.Bools.{clash}
use Rattle.read_facts.proofs.Theorem.{Fair, Meaning, meaning, least, most, least_holds, most_holds, lacks_cases, lacks_true, lacks_false}

-- masks of 32 bits
abbrev pub Small : Literals → Type 0
Small l = (l.pos < 2 ^ 32) × (l.neg < 2 ^ 32)

abbrev pub SmallNeeds : List Action → Type 0
SmallNeeds [] = Unit
SmallNeeds (a ∷ rest) = Small a.needs × SmallNeeds rest

-- what else the regression's answer is: no fact needed both ways, masks of 32 bits; and a clash is never a 13
abbrev Consistent : Result Literals Cause → Type 0
Consistent (Ok l) = (share l.pos l.neg ≡ false) × Small l
Consistent (Err c) = (k : ℕ) → c ≡ cause 13 k → ⊥

regressed_small : (a : Action) (l : Literals) → Small a.needs → Small l → Small (regressed a l)
unfolding regressed
regressed_small a l na nl = (join_lt _ _ (strike_lt _ _ nl.0) na.0, join_lt _ _ (strike_lt _ _ nl.1) na.1)

lacking_small : (known l : Literals) → Small l → lacking known l < 2 ^ 32
unfolding lacking
lacking_small known l b = join_lt _ _ (strike_lt _ _ b.0) (strike_lt _ _ b.1)

consistent_back : (a : Action) (k : ℕ) (l : Literals) → Small a.needs → Small l → Consistent (back_over a k l)
unfolding back_over
consistent_back a k l na nl = go (undoes a l) (share (regressed a l).pos (regressed a l).neg) refl
  where
    go : (u v : Bool) → share (regressed a l).pos (regressed a l).neg ≡ v
        → Consistent (cond u (Err (cause 11 k)) (cond v (Err (cause 12 k)) (Ok (regressed a l))))
    go true v g = λ j e. let z : ◌≡◌ {A = ℕ} 0 1 = cc in omega arith
    go false true g = λ j e. let z : ◌≡◌ {A = ℕ} 0 1 = cc in omega arith
    go false false g = (g, regressed_small a l na nl)

consistent_then : (a : Action) (k : ℕ) (n : Result Literals Cause) → Small a.needs → Consistent n → Consistent (then_back a k n)
consistent_then a k (Ok l) na p = consistent_back a k l na p.1
consistent_then a k (Err c) na p = p

consistent :
    (chain : List Action) (goal : Literals) (k : ℕ) → share goal.pos goal.neg ≡ false → Small goal → SmallNeeds chain → Consistent (work_back chain k goal)
consistent [] goal k s g n = (s, g)
consistent (a ∷ rest) goal k s g n = consistent_then a k (work_back rest (k + 1) goal) n.0 (consistent rest goal (k + 1) s g n.1)

lack_is : (x k : ℕ) → cond (eqb x 0) Accepted (refused 13 (lowest x)) ≡ refused 13 k → (x ≡ 0 → ⊥) × (lowest x ≡ k)
lack_is x k e = go (eqb x 0) refl e
  where
    go : (b : Bool) → eqb x 0 ≡ b → cond b Accepted (refused 13 (lowest x)) ≡ refused 13 k → (x ≡ 0 → ⊥) × (lowest x ≡ k)
    go true p q = absurd (let z : ◌≡◌ {A = ℕ} 0 1 = cc in omega arith)
    go false p q = (eqb-false x 0 p, cc)

module _ (known goal : Literals) (chain : List Action) where
  module _ (l : Literals) (m : Meaning chain goal (Ok l)) (s : share l.pos l.neg ≡ false) where
    least_runs : RunsThrough chain goal (least l)
    least_runs = (m (least l)).0 (least_holds l s)

    most_runs : RunsThrough chain goal (most l)
    most_runs = (m (most l)).0 (most_holds l s)

    -- a fact that is lacking is needed and not known so
    lacking_lacks : (k : ℕ) → has (lacking known l) k ≡ true → Lacks known chain goal k
    lacking_lacks k e =
        lacks_cases known l k e (λ p q. inl (λ σ r. ((m σ).1 r).0 k p, q)) (λ p q. inr (λ σ r. ((m σ).1 r).1 k p, q))

    -- and a fact that is needed and not known so is lacking
    lacks_lacking : (k : ℕ) → Lacks known chain goal k → has (lacking known l) k ≡ true
    unfolding least most
    lacks_lacking k w =
        ⊎_elim (λ p. lacks_true known l k (p.0 (least l) least_runs) p.1)
        (λ p. lacks_false known l k (shown (has l.neg k) (p.0 (most l) most_runs)) p.1) w
      where
        shown : (x : Bool) → not x ≡ false → x ≡ true
        shown true e = refl
        shown false e = sym e

  thirteen_at : (n : Result Literals Cause) → Meaning chain goal n → Consistent n → (k : ℕ) → on_need known n ≡ refused 13 k → Thirteen known goal chain k
  unfolding at_start
  thirteen_at (Ok l) m p k e =
      let q = lack_is (lacking known l) k e in
      let bound = lacking_small known l p.1 in
      record {
        lacks = lacking_lacks l m p.0 k (subst (λ (x : ℕ). has (lacking known l) x ≡ true) q.1 (lowest_has (lacking known l) bound q.0));
        lowest_lacking =
            λ j h w. clash (lacks_lacking l m p.0 j w) (lowest_least (lacking known l) j (subst (λ (x : ℕ). j < x) (sym q.1) h));
        some_run = (least l, least_runs l m p.0);
      }
  thirteen_at (Err c) m p k e = absurd (p k (cc))

  pub thirteen :
      Fair chain → SmallNeeds chain → Small goal → share goal.pos goal.neg ≡ false
      → (k : ℕ) → fact_ruling known goal chain ≡ refused 13 k → Thirteen known goal chain k
  unfolding fact_ruling
  thirteen fair needs small s =
      thirteen_at (work_back chain 0 goal) (meaning chain goal 0 fair) (consistent chain goal 0 s small needs)

  -- the other way: a fact of which this holds is the one that the ruling names
  only_at : (n : Result Literals Cause) → Meaning chain goal n → Consistent n → (k : ℕ) → Thirteen known goal chain k → on_need known n ≡ refused 13 k
  unfolding at_start
  only_at (Ok l) m p k w =
      let x = lacking known l in
      let lacks : has x k ≡ true = lacks_lacking l m p.0 k w.lacks in
      let some : (x ≡ 0 → ⊥) = λ z. zero_none k (subst (λ (y : ℕ). has y k ≡ true) z lacks) in
      let bound = lacking_small known l p.1 in
      let low : (lowest x < k → ⊥) = λ h. w.lowest_lacking (lowest x) h (lacking_lacks l m p.0 (lowest x) (lowest_has x bound some)) in
      let high : (k < lowest x → ⊥) = λ h. clash lacks (lowest_least x k h) in
      let is : lowest x ≡ k = same (lowest x) k low high in
      rw (ne_eqb x 0 some, is) refl
    where
      same : (a b : ℕ) → (a < b → ⊥) → (b < a → ⊥) → a ≡ b
      same a b f g = go (dec_lt a b) (dec_lt b a)
        where
          go : Dec (a < b) → Dec (b < a) → a ≡ b
          go (yes h) d = absurd (f h)
          go (no h) (yes q) = absurd (g q)
          go (no h) (no q) = omega arith
  only_at (Err c) m p k w = absurd (m w.some_run.0 w.some_run.1)

  pub thirteen_only :
      Fair chain → SmallNeeds chain → Small goal → share goal.pos goal.neg ≡ false
      → (k : ℕ) → Thirteen known goal chain k → fact_ruling known goal chain ≡ refused 13 k
  unfolding fact_ruling
  thirteen_only fair needs small s = only_at (work_back chain 0 goal) (meaning chain goal 0 fair) (consistent chain goal 0 s small needs)
