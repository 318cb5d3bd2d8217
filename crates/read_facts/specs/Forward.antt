-- "Against this stands the definition, for offers past refusal 10: run forward from every full state that fits the known
-- facts, each step's needs hold and the goal holds at the end." It says nothing of masks worked back: it goes fact by fact.
--   FullState          a full state: of every fact, whether it is true
--   Holds l σ          the facts of l are as l says in the state σ
--   after a σ          the state that action a leaves
--   RunsThrough chain goal σ  from σ each step's needs hold when it comes, and the goal holds at the end
--   AllRun known chain goal   every full state that fits the known facts runs
--   Needed chain goal k b     fact k is b in every full state that runs
--   Lacks known chain goal k  fact k is needed and not known so (refusal 13)
--   Thirteen known goal chain k   what refusal 13 with fact k says
use Rattle.std.specs.Prelude.{ℕ, ◌<◌, ◌≡◌, ◌⊎◌, List, [], ◌∷◌, Bool, true, false, cond}
use Rattle.base_masks.specs.Mask.{has}
use Rattle.read_facts.specs.declared.Literals.{Literals}
use Rattle.read_facts.specs.declared.Action.{Action}

abbrev pub FullState : Type 0
FullState = ℕ → Bool

abbrev pub Holds : Literals → FullState → Type 0
Holds l σ = ((k : ℕ) → has l.pos k ≡ true → σ k ≡ true) × ((k : ℕ) → has l.neg k ≡ true → σ k ≡ false)

unfoldable pub after : Action → FullState → FullState
after a σ k = cond (has a.makes.pos k) true (cond (has a.makes.neg k) false (σ k))

abbrev pub RunsThrough : List Action → Literals → FullState → Type 0
RunsThrough [] goal σ = Holds goal σ
RunsThrough (a ∷ rest) goal σ = Holds a.needs σ × RunsThrough rest goal (after a σ)

abbrev pub AllRun : Literals → List Action → Literals → Type 0
AllRun known chain goal = (σ : FullState) → Holds known σ → RunsThrough chain goal σ

abbrev pub Needed : List Action → Literals → ℕ → Bool → Type 0
Needed chain goal k b = (σ : FullState) → RunsThrough chain goal σ → σ k ≡ b

abbrev pub Lacks : Literals → List Action → Literals → ℕ → Type 0
Lacks known chain goal k =
    (Needed chain goal k true × (has known.pos k ≡ false)) ⊎ (Needed chain goal k false × (has known.neg k ≡ false))

-- "the lowest lacking fact"
pub record Thirteen (known goal : Literals) (chain : List Action) (k : ℕ) : Type 0 where
  -- fact k is needed and not known so
  pub lacks : Lacks known chain goal k
  -- no lower fact is
  pub lowest_lacking : (j : ℕ) → j < k → Lacks known chain goal j → ⊥
  -- and it is for this fact's sake: some full state runs through the chain to the goal
  pub some_run : (σ : FullState) × RunsThrough chain goal σ
