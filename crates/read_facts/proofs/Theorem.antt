-- The regression against the forward definition, on chains. Assumes nothing.
--   accepted_runs, runs_accepted   past refusal 10 the ruling is accepted exactly when every full state that fits the known facts runs
--   clash_runs_not                 a goal with a fact both ways: no state runs, so refusal 10 there agrees with the definition too
--   Fair chain                     no action makes a fact both ways
--   Meaning, meaning               what the regression's answer says of every state, and that it does
--   least, most                    two states in which l holds: all else is false, all else is true (least_holds, most_holds)
--   lacks_cases, lacks_true, lacks_false   what is lacking at the start, fact by fact
-- The idea: the regression's answer means something of every state (`Meaning`): what it says must hold, holds exactly in the states
-- that run; where it says clash, no state runs. At the start two states decide: the one in which all that is unknown is false, and the
-- one in which it is true.
use Prim.Native.Nat.{ℕ, ◌+◌}
use mathlib.Core.Path.{◌≡◌, refl, ap, subst}
use mathlib.Core.List.{List, [], ◌∷◌}
use mathlib.Core.Bool.{Bool, true, false, cond, not}
use lib.Dec.{eqb}
use borrow.Author.Tests.{eqb-true}
use Rattle.base_masks.specs.Mask.{has, share, strike, lowest}
use Rattle.base_masks.proofs.MaskLaws.{share_false, no_fact, zero_none}
use Rattle.base_rulings.specs.declared.Cause.{Cause}
use Rattle.base_rulings.specs.declared.Ruling.TheVariants.{Accepted, Refused}
use Rattle.base_rulings.specs.Answer.{cause, refused}
use Rattle.base_rulings.proofs.RulingLaws.{refused_no}
use Rattle.read_facts.specs.declared.Literals.{Literals}
use Rattle.read_facts.specs.declared.Action.{Action}
use Rattle.std.specs.Prelude.{Result, Ok, Err}
use Rattle.read_facts.specs.Regression.{undoes, regressed, back_over, then_back, work_back, lacking, at_start, on_need, fact_ruling}
use Rattle.read_facts.specs.Forward.{FullState, Holds, after, RunsThrough, AllRun}
use Rattle.read_facts.proofs.Bools.{clash, not_so}
use Rattle.read_facts.proofs.Step.{in_strike, of_strike, join_left, join_right, join_cases, forward, backward, undone, no_clash}

-- no action makes a fact both true and false: refusal 4 rules it out
abbrev pub Fair : List Action → Type 0
Fair [] = Unit
Fair (a ∷ rest) = (share a.makes.pos a.makes.neg ≡ false) × Fair rest

-- what the answer of the regression says of every state
abbrev pub Meaning : List Action → Literals → Result Literals Cause → Type 0
Meaning chain goal (Ok l) = (σ : FullState) → (Holds l σ → RunsThrough chain goal σ) × (RunsThrough chain goal σ → Holds l σ)
Meaning chain goal (Err c) = (σ : FullState) → RunsThrough chain goal σ → ⊥

module _ (a : Action) (rest : List Action) (goal : Literals) (k : ℕ) (fair : share a.makes.pos a.makes.neg ≡ false) where
  one_more : (l : Literals) → Meaning rest goal (Ok l) → Meaning (a ∷ rest) goal (back_over a k l)
  unfolding back_over
  one_more l ih = go (undoes a l) refl (share (regressed a l).pos (regressed a l).neg) refl
    where
      go : (u : Bool) → undoes a l ≡ u → (v : Bool) → share (regressed a l).pos (regressed a l).neg ≡ v
          → Meaning (a ∷ rest) goal (cond u (Err (cause 11 k)) (cond v (Err (cause 12 k)) (Ok (regressed a l))))
      go true e v g = λ σ r. clash e (undone a σ l fair ((ih (after a σ)).1 r.1))
      go false e true g = λ σ r. clash g (no_clash (regressed a l) σ (backward a σ l r.0 ((ih (after a σ)).1 r.1)))
      go false e false g =
          λ σ. (
            λ h. let w = forward a σ l e h in (w.0, (ih (after a σ)).0 w.1),
            λ r. backward a σ l r.0 ((ih (after a σ)).1 r.1),
          )

  one_more_of : (n : Result Literals Cause) → Meaning rest goal n → Meaning (a ∷ rest) goal (then_back a k n)
  one_more_of (Ok l) ih = one_more l ih
  one_more_of (Err c) ih = λ σ r. ih (after a σ) r.1

pub meaning : (chain : List Action) (goal : Literals) (k : ℕ) → Fair chain → Meaning chain goal (work_back chain k goal)
meaning [] goal k fair = λ σ. (λ h. h, λ h. h)
meaning (a ∷ rest) goal k fair = one_more_of a rest goal k fair.0 (work_back rest (k + 1) goal) (meaning rest goal (k + 1) fair.1)

-- ---- two states that fit: all else is false in the one, and true in the other

unfoldable pub least : Literals → FullState
least l k = has l.pos k

unfoldable pub most : Literals → FullState
most l k = not (has l.neg k)

pub least_holds : (l : Literals) → share l.pos l.neg ≡ false → Holds l (least l)
unfolding least
least_holds l s = (λ k p. p, λ k p. not_so (has l.pos k) (λ q. share_false l.pos l.neg s k q p))

pub most_holds : (l : Literals) → share l.pos l.neg ≡ false → Holds l (most l)
unfolding most
most_holds l s = (λ k p. ap not (not_so (has l.neg k) (λ q. share_false l.pos l.neg s k p q)), λ k p. ap not p)

-- ---- the start

-- what is lacking, fact by fact
pub lacks_cases :
    {A : Type 0} (known l : Literals) (k : ℕ) → has (lacking known l) k ≡ true
    → (has l.pos k ≡ true → has known.pos k ≡ false → A) → (has l.neg k ≡ true → has known.neg k ≡ false → A) → A
unfolding lacking
lacks_cases known l k e f g =
    join_cases (strike l.pos known.pos) (strike l.neg known.neg) k e
    (λ p. let m = of_strike l.pos known.pos k p in f m.0 m.1)
    (λ p. let m = of_strike l.neg known.neg k p in g m.0 m.1)

pub lacks_true : (known l : Literals) (k : ℕ) → has l.pos k ≡ true → has known.pos k ≡ false → has (lacking known l) k ≡ true
unfolding lacking
lacks_true known l k p q = join_left _ _ k (in_strike l.pos known.pos k p q)

pub lacks_false : (known l : Literals) (k : ℕ) → has l.neg k ≡ true → has known.neg k ≡ false → has (lacking known l) k ≡ true
unfolding lacking
lacks_false known l k p q = join_right (strike l.pos known.pos) _ k (in_strike l.neg known.neg k p q)

lacks_nothing : (x : ℕ) (c : Cause) → cond (eqb x 0) Accepted (Refused c) ≡ Accepted → x ≡ 0
lacks_nothing x c e = go (eqb x 0) refl e
  where
    go : (b : Bool) → eqb x 0 ≡ b → cond b Accepted (Refused c) ≡ Accepted → x ≡ 0
    go true p q = eqb-true x 0 p
    go false p q = absurd (refused_no c q)

module _ (known : Literals) where
  known_enough : (l : Literals) → at_start known l ≡ Accepted → (σ : FullState) → Holds known σ → Holds l σ
  unfolding at_start
  known_enough l e σ h =
      let z = lacks_nothing (lacking known l) _ e in (
        λ k p. known_true z k p (has known.pos k) refl,
        λ k p. known_false z k p (has known.neg k) refl,
      )
    where
      no_lack : lacking known l ≡ 0 → (k : ℕ) → has (lacking known l) k ≡ true → ⊥
      no_lack z k p = zero_none k (subst (λ (x : ℕ). has x k ≡ true) z p)

      known_true : lacking known l ≡ 0 → (k : ℕ) → has l.pos k ≡ true → (x : Bool) → has known.pos k ≡ x → σ k ≡ true
      known_true z k p true q = h.0 k q
      known_true z k p false q = absurd (no_lack z k (lacks_true known l k p q))

      known_false : lacking known l ≡ 0 → (k : ℕ) → has l.neg k ≡ true → (x : Bool) → has known.neg k ≡ x → σ k ≡ false
      known_false z k p true q = h.1 k q
      known_false z k p false q = absurd (no_lack z k (lacks_false known l k p q))

  -- where those two states need no more than they have, nothing is lacking
  nothing_lacks : (l : Literals) → Holds l (least known) → Holds l (most known) → at_start known l ≡ Accepted
  unfolding at_start least most
  nothing_lacks l hl hm =
      ap (λ (x : ℕ). cond (eqb x 0) Accepted (refused 13 (lowest x)))
      (no_fact (lacking known l)
      (λ k e. lacks_cases known l k e (λ p q. clash (hl.0 k p) q) (λ p q. clash (ap not q) (hm.1 k p))))

  module _ (goal : Literals) (chain : List Action) (fair : Fair chain) where
    accepted_at : (n : Result Literals Cause) → Meaning chain goal n → on_need known n ≡ Accepted → AllRun known chain goal
    accepted_at (Ok l) m e σ h = (m σ).0 (known_enough l e σ h)
    accepted_at (Err c) m e σ h = absurd (refused_no c e)

    runs_at : share known.pos known.neg ≡ false → (n : Result Literals Cause) → Meaning chain goal n → AllRun known chain goal → on_need known n ≡ Accepted
    runs_at s (Ok l) m run =
        nothing_lacks l ((m (least known)).1 (run (least known) (least_holds known s))) ((m (most known)).1 (run (most known) (most_holds known s)))
    runs_at s (Err c) m run = absurd (m (least known) (run (least known) (least_holds known s)))

    pub accepted_runs : fact_ruling known goal chain ≡ Accepted → AllRun known chain goal
    unfolding fact_ruling
    accepted_runs = accepted_at (work_back chain 0 goal) (meaning chain goal 0 fair)

    pub runs_accepted : share known.pos known.neg ≡ false → AllRun known chain goal → fact_ruling known goal chain ≡ Accepted
    unfolding fact_ruling
    runs_accepted s = runs_at s (work_back chain 0 goal) (meaning chain goal 0 fair)

-- ---- a goal with a fact both ways

clash_ends_not : (chain : List Action) (goal : Literals) (σ : FullState) → RunsThrough chain goal σ → share goal.pos goal.neg ≡ false
clash_ends_not [] goal σ r = no_clash goal σ r
clash_ends_not (a ∷ rest) goal σ r = clash_ends_not rest goal (after a σ) r.1

pub clash_runs_not :
    (known goal : Literals) (chain : List Action) → share known.pos known.neg ≡ false → AllRun known chain goal
    → share goal.pos goal.neg ≡ false
clash_runs_not known goal chain s run = clash_ends_not chain goal (least known) (run (least known) (least_holds known s))
