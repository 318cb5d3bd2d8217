-- Demand 2's part on facts, on bytes. Assumes nothing.
--   fact_check_right   "An offer in right format, with no fact known both ways, passes the fact check exactly when every full state that
--                      fits the known facts runs through the chain legally to the goal" (a goal with a fact both ways included)
--   thirteen_right     13 names a fact that is needed and not known so, and no lower one is;  thirteen_only_right: of no other fact does that hold
use Prim.Native.Nat.{ℕ, zero, suc, ◌+◌, ◌≤◌, ◌<◌}
use native.Mathlib.Omega.{arith}
use mathlib.Core.Path.{◌≡◌, refl, sym, ◌∙◌}
use mathlib.Core.Logic.{◌↔◌}
use mathlib.Core.List.{List}
use mathlib.Core.Bool.{Bool, true, false, true≢false, cond, ◌||◌}
use Rattle.base_words.specs.Word.{word, Bytes}
use Rattle.base_words.proofs.WordRange.{word_lt}
use Rattle.base_masks.specs.Mask.{share}
use Rattle.base_rulings.specs.declared.Ruling.{Ruling}
use Rattle.base_rulings.specs.declared.Ruling.TheVariants.{Accepted}
use Rattle.base_rulings.specs.Answer.{refuse, refused}
use Rattle.base_rulings.specs.Order.{and_then}
use Rattle.base_rulings.proofs.RulingLaws.{refused_no, neither}
use Rattle.read_plant.specs.Plant.{trailer_of, record_start, plant_ruling}
use Rattle.read_plant.proofs.Good.{good, makes_apart}
use Rattle.read_facts.specs.Regression.{fact_ruling}
use Rattle.read_facts.specs.Forward.{AllRun, Thirteen}
use Rattle.read_facts.proofs.Theorem.{Fair, accepted_runs, runs_accepted, clash_runs_not}
use Rattle.read_facts.proofs.Thirteen.{Small, SmallNeeds, thirteen, thirteen_only}
use Rattle.read_offer.specs.Offer.{known_of, goal_of, step_count, step_start, offer_ruling, action_of, chain_from, chain_of, consistency_ruling, chain_ruling}
use Rattle.read_offer.specs.Offer.{fact_check}
use Rattle.read_offer.proofs.Steps.{read_of}
use Rattle.read_offer.proofs.Chain.{on_to_consistency}

-- ---- the actions of the chain make no fact both ways (refusal 4)

fair_action : (p : List ℕ) (a : ℕ) → plant_ruling p ≡ Accepted → a < (trailer_of p).count → share (action_of p a).makes.pos (action_of p a).makes.neg ≡ false
unfolding action_of
fair_action p a g h = makes_apart p (record_start p a) ((good p g).in_range a h)

fair_chain : (p o : List ℕ) (k n : ℕ) → plant_ruling p ≡ Accepted → offer_ruling p o ≡ Accepted → k + n ≤ step_count o → Fair (chain_from p o k n)
unfolding chain_from
fair_chain p o k zero g r l = tt
fair_chain p o k (suc n) g r l =
    let here = (read_of p o r).steps k (omega arith) in (
      fair_action p (word o (step_start p o k)) g here.known,
      fair_chain p o (k + 1) n g r (omega arith),
    )

-- ---- refusal 10 and what comes after it

clash_10 : (x y : Bool) (r : Ruling) → x ≡ false → and_then (cond (x || y) (refuse 10) Accepted) r ≡ Accepted → y ≡ false
clash_10 true y r p e = absurd (true≢false p)
clash_10 false true r p e = absurd (refused_no _ e)
clash_10 false false r p e = refl

module _ (p o : List ℕ) (g : plant_ruling p ≡ Accepted) (r : offer_ruling p o ≡ Accepted) (apart : share (known_of o).pos (known_of o).neg ≡ false) where
  chain_fair : Fair (chain_of p o)
  chain_fair = fair_chain p o 0 (step_count o) g r (omega arith)

  past_10 : share (goal_of o).pos (goal_of o).neg ≡ false → fact_check p o ≡ fact_ruling (known_of o) (goal_of o) (chain_of p o)
  unfolding consistency_ruling chain_ruling
  past_10 s = sym (on_to_consistency p o g r) ∙ rw (apart, s)

  goal_apart : fact_check p o ≡ Accepted → share (goal_of o).pos (goal_of o).neg ≡ false
  unfolding consistency_ruling
  goal_apart e = clash_10 (share (known_of o).pos (known_of o).neg) _ (chain_ruling p o) apart (on_to_consistency p o g r ∙ e)

  pub fact_check_right : (fact_check p o ≡ Accepted) ↔ AllRun (known_of o) (chain_of p o) (goal_of o)
  fact_check_right = (
    λ e. accepted_runs (known_of o) (goal_of o) (chain_of p o) chain_fair (sym (past_10 (goal_apart e)) ∙ e),
    λ run. past_10 (clash_runs_not (known_of o) (goal_of o) (chain_of p o) apart run)
        ∙ runs_accepted (known_of o) (goal_of o) (chain_of p o) chain_fair apart run,
  )

-- ---- 13: masks are words of four bytes, so `lowest` finds a fact below 32

small_literals : (s : List ℕ) (i j : ℕ) → Bytes s → Small (record { pos = word s i; neg = word s j })
small_literals s i j b = (word_lt s i b, word_lt s j b)

small_goal : (o : List ℕ) → Bytes o → Small (goal_of o)
unfolding goal_of
small_goal o b = small_literals o 12 16 b

small_action : (p : List ℕ) (a : ℕ) → Bytes p → Small (action_of p a).needs
unfolding action_of
small_action p a b = small_literals p (record_start p a) (record_start p a + 4) b

small_needs : (p o : List ℕ) (k n : ℕ) → Bytes p → SmallNeeds (chain_from p o k n)
unfolding chain_from
small_needs p o k zero b = tt
small_needs p o k (suc n) b = (small_action p (word o (step_start p o k)) b, small_needs p o (k + 1) n b)

-- 13 is not refusal 10
not_10 : (x : Bool) (r : Ruling) (k : ℕ) → and_then (cond x (refuse 10) Accepted) r ≡ refused 13 k → (x ≡ false) × (r ≡ refused 13 k)
not_10 true r k e = absurd (let z : ◌≡◌ {A = ℕ} 0 1 = cc in omega arith)
not_10 false r k e = (refl, e)

pub thirteen_right :
    (p o : List ℕ) → Bytes p → Bytes o → plant_ruling p ≡ Accepted → offer_ruling p o ≡ Accepted
    → (k : ℕ) → fact_check p o ≡ refused 13 k → Thirteen (known_of o) (goal_of o) (chain_of p o) k
unfolding consistency_ruling chain_ruling
thirteen_right p o bp bo g r k e =
    let known = share (known_of o).pos (known_of o).neg in
    let goal = share (goal_of o).pos (goal_of o).neg in
    let past = not_10 (known || goal) (fact_ruling (known_of o) (goal_of o) (chain_of p o)) k (on_to_consistency p o g r ∙ e) in
    let apart = neither known goal past.0 in
    thirteen (known_of o) (goal_of o) (chain_of p o) (chain_fair p o g r apart.0) (small_needs p o 0 (step_count o) bp) (small_goal o bo) apart.1 k past.1

-- 13 the other way: what `Thirteen` says of a fact is said of the one that the ruling names, and of no other
pub thirteen_only_right :
    (p o : List ℕ) → Bytes p → Bytes o → plant_ruling p ≡ Accepted → offer_ruling p o ≡ Accepted
    → share (known_of o).pos (known_of o).neg ≡ false → share (goal_of o).pos (goal_of o).neg ≡ false
    → (k : ℕ) → Thirteen (known_of o) (goal_of o) (chain_of p o) k → fact_check p o ≡ refused 13 k
thirteen_only_right p o bp bo g r apart s k w =
    past_10 p o g r apart s
    ∙ thirteen_only (known_of o) (goal_of o) (chain_of p o) (chain_fair p o g r apart) (small_needs p o 0 (step_count o) bp) (small_goal o bo) s k w
