-- Laws of the chain that an offer names, and of the order of the fact check. Assumes nothing.
--   action_is       an action's four masks
--   here, ends_within, next_at   the step that a reader stands at, and where the next one starts
--   none_yet, one_more        the actions of no step, of one step more
--   last_fails, last_holds       the chain worked back from its last step: one step of it
--   worked_back     11 to 13
--   plant_refused, offer_refused, on_to_consistency, facts_refused, on_to_chain   the order of the whole check
use Prim.Native.Nat.{ℕ, zero, suc, ◌+◌, ◌*◌, ◌≤◌, ◌<◌}
use native.Mathlib.Omega.{arith}
use native.Mathlib.Numerals.{add-one}
use mathlib.Core.Path.{◌≡◌, refl, sym, ap, ap₂, subst, ◌∙◌}
use mathlib.Core.List.{List, [], ◌∷◌, ◌++◌}
use lib.ListN.{length}
use Rattle.std.specs.Prelude.{Result, Ok, Err}
use Rattle.base_words.specs.Word.{word}
use Rattle.base_rulings.specs.declared.Cause.{Cause}
use Rattle.base_rulings.specs.declared.Ruling.{Ruling}
use Rattle.base_rulings.specs.declared.Ruling.TheVariants.{Accepted, Refused}
use Rattle.base_rulings.specs.Order.{and_then}
use Rattle.read_plant.specs.Plant.{record_start, allocation_count, plant_ruling}
use Rattle.read_facts.specs.declared.Literals.{Literals}
use Rattle.read_facts.specs.declared.Action.{Action}
use Rattle.read_facts.specs.Regression.{back_over, then_back, work_back, on_need, fact_ruling}
use Rattle.read_offer.specs.Offer.{known_of, goal_of, step_count, step_end, step_start, offer_ruling, action_of, chain_from, chain_of, consistency_ruling, chain_ruling}
use Rattle.read_offer.specs.Offer.{fact_check}
use Rattle.read_offer.proofs.Steps.{Step, read_of}

pub action_is :
    (p : List ℕ) (x at : ℕ) (needs makes : Literals) → at ≡ record_start p x → needs ≡ record { pos = word p at; neg = word p (at + 4) }
    → makes ≡ record { pos = word p (at + 8); neg = word p (at + 8 + 4) } → record { needs = needs; makes = makes } ≡ action_of p x
unfolding action_of
action_is p x at needs makes e n m = let last : at + 8 + 4 ≡ at + 12 = omega arith in rw (n, m, last, e)

-- ---- the step that a reader stands at

-- the actions of one step more
more_from :
    (p o : List ℕ) (k n : ℕ) → chain_from p o k (suc n) ≡ chain_from p o k n ++ (action_of p (word o (step_start p o (k + n))) ∷ [])
unfolding chain_from
more_from p o k zero = let e : k ≡ k + 0 = omega arith in ap (λ (j : ℕ). action_of p (word o (step_start p o j)) ∷ []) e
more_from p o k (suc n) =
    let e : k + 1 + n ≡ k + suc n = omega arith in
    ap (◌∷◌ (action_of p (word o (step_start p o k))))
    (more_from p o (k + 1) n ∙ ap (λ (j : ℕ). chain_from p o (k + 1) n ++ (action_of p (word o (step_start p o j)) ∷ [])) e)

pub one_more : (p o : List ℕ) (n : ℕ) → chain_from p o 0 (n + 1) ≡ chain_from p o 0 n ++ (action_of p (word o (step_start p o n)) ∷ [])
one_more p o n = let e : 0 + n ≡ n = omega arith in rw add-one (subst (λ (j : ℕ). chain_from p o 0 (suc n) ≡ chain_from p o 0 n ++ (action_of p (word o (step_start p o j)) ∷ [])) e (more_from p o 0 n))

pub none_yet : (p o : List ℕ) → [] ≡ chain_from p o 0 0
unfolding chain_from
none_yet p o = refl

module _ (p o : List ℕ) (k at : ℕ) (within : k < step_count o) (ea : at ≡ step_start p o k) where
  pub here : offer_ruling p o ≡ Accepted → Step p o at
  here e = subst (Step p o) (sym ea) ((read_of p o e).steps k within)

  -- the same for a reader that has the action, its record and the number of its places in hand
  module _ (x s n : ℕ) (ex : x ≡ word o at) (es : s ≡ record_start p x) (en : n ≡ allocation_count p s) where
    same_end : at + 4 + 4 * n ≡ step_end p o at
    same_end = ap (λ (j : ℕ). at + 4 + 4 * j) (en ∙ ap (allocation_count p) (es ∙ ap (record_start p) ex))

    pub ends_within : offer_ruling p o ≡ Accepted → at + 4 + 4 * n ≤ length o
    ends_within e = rw same_end (here e).whole

    pub next_at : at + 4 + 4 * n ≡ step_start p o (k + 1)
    unfolding step_start
    next_at = same_end ∙ rw (add-one k, ← ea)

-- ---- worked back from the last step

-- The definition takes the chain apart at its first step, the code at its last, which has as many before it as its number says.
pub last_fails :
    (rest : List Action) (a : Action) (k j : ℕ) (l : Literals) (c : Cause) → j ≡ k + length rest → back_over a j l ≡ Err c
    → work_back (rest ++ (a ∷ [])) k l ≡ Err c
last_fails [] a k j l c e q = let is : j ≡ k = omega arith in subst (λ (i : ℕ). back_over a i l ≡ Err c) is q
last_fails (b ∷ rest) a k j l c e q = ap (then_back b k) (last_fails rest a (k + 1) j l c (omega arith) q)

pub last_holds :
    (rest : List Action) (a : Action) (k j : ℕ) (l f : Literals) → j ≡ k + length rest → back_over a j l ≡ Ok f
    → work_back (rest ++ (a ∷ [])) k l ≡ work_back rest k f
last_holds [] a k j l f e q = let is : j ≡ k = omega arith in subst (λ (i : ℕ). back_over a i l ≡ Ok f) is q
last_holds (b ∷ rest) a k j l f e q = ap (then_back b k) (last_holds rest a (k + 1) j l f (omega arith) q)

-- ---- 11 to 13

-- the chain is handed over as a list that is shown to be the offer's
pub worked_back :
    (p o : List ℕ) (known goal : Literals) → known ≡ known_of o → goal ≡ goal_of o
    → (chain : List Action) (w : Result Literals Cause) → chain ≡ chain_of p o → w ≡ work_back chain 0 goal → on_need known w ≡ chain_ruling p o
unfolding chain_ruling fact_ruling
worked_back p o known goal ek eg chain w ec ew =
    let is : w ≡ work_back (chain_of p o) 0 (goal_of o) = ew ∙ ap₂ (λ (x : List Action) (g : Literals). work_back x 0 g) ec eg in
    simp (← ek, ← is)

-- ---- the order of the whole check

pub plant_refused : (p o : List ℕ) (r : Ruling) (c : Cause) → r ≡ plant_ruling p → r ≡ Refused c → r ≡ fact_check p o
unfolding fact_check
plant_refused p o r c e q = simp (← e, q)

pub offer_refused : (p o : List ℕ) (r : Ruling) (c : Cause) → plant_ruling p ≡ Accepted → r ≡ offer_ruling p o → r ≡ Refused c → r ≡ fact_check p o
unfolding fact_check
offer_refused p o r c a e q = simp (a, ← e, q)

pub on_to_consistency :
    (p o : List ℕ) → plant_ruling p ≡ Accepted → offer_ruling p o ≡ Accepted → and_then (consistency_ruling o) (chain_ruling p o) ≡ fact_check p o
unfolding fact_check
on_to_consistency p o a b = simp (a, b)

module _ (p o : List ℕ) (a : plant_ruling p ≡ Accepted) (b : offer_ruling p o ≡ Accepted) where
  pub facts_refused : (r : Ruling) (c : Cause) → r ≡ consistency_ruling o → r ≡ Refused c → r ≡ fact_check p o
  unfolding fact_check
  facts_refused r c e q = simp (a, b, ← e, q)

  pub on_to_chain : consistency_ruling o ≡ Accepted → chain_ruling p o ≡ fact_check p o
  unfolding fact_check
  on_to_chain e = simp (a, b, e)
