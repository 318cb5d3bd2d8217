-- The offer: its layout, refusals 7 to 10, the chain that it names, and the fact check. Plant and offer are the lists of their bytes.
--   batch_of, known_of, goal_of, step_count, due_of   the header of an offer;  header_size: how many bytes it has
--   place_count p a     how many places a step of action a has;  place_at p o k j: the place of allocation j of step k
--   step_start p o k    where step k starts; step_end p o at: where the step that starts at `at` ends
--   step_at p o k at    what reading that step finds: where it ends, or refusal 8;  step_ruling p o k: the ruling on step k
--   offer_ruling p o    the first of refusals 7 to 9, for a good plant
--   chain_of p o        the actions of the steps, in order;  chain_from p o k n: of n steps from step k on;  action_of p a: one action
--   consistency_ruling o   10: whether the known facts and the goal are consistent, each in itself
--   chain_ruling p o    the first of refusals 11 to 13, for an offer that passed 7 to 10
--   fact_check p o      the first of refusals 1 to 4 and 7 to 13
use Rattle.std.specs.Prelude.{ℕ, zero, suc, ◌+◌, ◌*◌, List, [], ◌∷◌, cond, ◌||◌, length, ltb, leb, eqb, Result, Ok, Err}
use Rattle.base_words.specs.Word.{word}
use Rattle.base_masks.specs.Mask.{share}
use Rattle.base_rulings.specs.declared.Cause.{Cause}
use Rattle.base_rulings.specs.declared.Ruling.{Ruling}
use Rattle.base_rulings.specs.declared.Ruling.TheVariants.{Accepted}
use Rattle.base_rulings.specs.Answer.{cause, refuse}
use Rattle.base_rulings.specs.Order.{and_then, first_refusal, refusal_of}
use Rattle.read_plant.specs.Plant.{trailer_of, record_start, needs_true, needs_false, makes_true, makes_false, allocation_count, plant_ruling}
use Rattle.read_facts.specs.declared.Literals.{Literals}
use Rattle.read_facts.specs.declared.Action.{Action}
use Rattle.read_facts.specs.Regression.{fact_ruling}

-- ---- the header: "batch (0 is no batch), known_true, known_false, goal-true, goal-false, step count", and document 02, Note 2: "The offer's header
-- grows to 28 bytes, with a due time after the step count; 0 means none"

abbrev pub batch_of : List ℕ → ℕ
batch_of o = word o 0

unfoldable pub known_of : List ℕ → Literals
known_of o = record { pos = word o 4; neg = word o 8 }

unfoldable pub goal_of : List ℕ → Literals
goal_of o = record { pos = word o 12; neg = word o 16 }

abbrev pub step_count : List ℕ → ℕ
step_count o = word o 20

abbrev pub due_of : List ℕ → ℕ
due_of o = word o 24

abbrev pub header_size : ℕ
header_size = 28

-- ---- the steps: "then per step the action number and one place for each of its allocations"

abbrev pub place_count : List ℕ → ℕ → ℕ
place_count p a = allocation_count p (record_start p a)

abbrev pub step_end : List ℕ → List ℕ → ℕ → ℕ
step_end p o at = at + 4 + 4 * place_count p (word o at)

unfoldable pub step_start : List ℕ → List ℕ → ℕ → ℕ
step_start p o zero = header_size
step_start p o (suc k) = step_end p o (step_start p o k)

-- the place of allocation j of step k
abbrev pub place_at : List ℕ → List ℕ → ℕ → ℕ → ℕ
place_at p o k j = word o (step_start p o k + 4 + 4 * j)

-- 8: "A step's bytes run past the offer, or the plant has no such action."
unfoldable pub step_at : List ℕ → List ℕ → ℕ → ℕ → Result ℕ Cause
step_at p o k at =
    cond (ltb (length o) (at + 4) || (leb (trailer_of p).count (word o at) || ltb (length o) (step_end p o at))) (Err (cause 8 k))
    (Ok (step_end p o at))

unfoldable pub step_ruling : List ℕ → List ℕ → ℕ → Ruling
step_ruling p o k = refusal_of (step_at p o k (step_start p o k))

-- 7: "The offer has under 24 bytes or a step count outside 1 to 8", where "the 24 in refusal 7 becomes 28". 9: "Bytes are left over."
unfoldable pub offer_ruling : List ℕ → List ℕ → Ruling
offer_ruling p o =
    cond (ltb (length o) header_size || (ltb (step_count o) 1 || ltb 8 (step_count o))) (refuse 7)
    (and_then (first_refusal (step_ruling p o) (step_count o))
    (cond (eqb (step_start p o (step_count o)) (length o)) Accepted (refuse 9)))

-- ---- the chain: "the row of actions that takes one sheet from feeder to tray"

-- what action a of the plant needs and makes
unfoldable pub action_of : List ℕ → ℕ → Action
action_of p a =
    record {
      needs = record { pos = needs_true p (record_start p a); neg = needs_false p (record_start p a) };
      makes = record { pos = makes_true p (record_start p a); neg = makes_false p (record_start p a) };
    }

-- the actions of n steps, from step k on
unfoldable pub chain_from : List ℕ → List ℕ → ℕ → ℕ → List Action
chain_from p o k zero = []
chain_from p o k (suc n) = action_of p (word o (step_start p o k)) ∷ chain_from p o (k + 1) n

abbrev pub chain_of : List ℕ → List ℕ → List Action
chain_of p o = chain_from p o 0 (step_count o)

-- ---- the fact check

-- 10: "A fact is both known true and known false, or both in the goal."
unfoldable pub consistency_ruling : List ℕ → Ruling
consistency_ruling o = cond (share (known_of o).pos (known_of o).neg || share (goal_of o).pos (goal_of o).neg) (refuse 10) Accepted

-- 11 to 13: the chain worked back
unfoldable pub chain_ruling : List ℕ → List ℕ → Ruling
chain_ruling p o = fact_ruling (known_of o) (goal_of o) (chain_of p o)

-- "it returns 0 or the first of refusals 1 to 4 and 7 to 13"
unfoldable pub fact_check : List ℕ → List ℕ → Ruling
fact_check p o = and_then (plant_ruling p) (and_then (offer_ruling p o) (and_then (consistency_ruling o) (chain_ruling p o)))
