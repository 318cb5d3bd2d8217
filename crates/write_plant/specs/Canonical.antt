-- Document 02, Note 1: "The reader accepts exactly the files the writer can produce, and reading one gives the same actions. Actions that the reader would
-- refuse get 3 or 4, a count out of range gets 2". Theorems: proofs/Theorem.antt.
--   Small n        a word, as every element of a slice of u32 is
--   Writes w s     lent the words w and some buffer, the writer accepts, and s is what then stands in front of it, as long as it says
--   Producible s   the writer can produce s, of some words
--   FittingAction x, Fitting acts   the numbers of an action fit their fields; of each of a list of actions, and their count a word
--   ExactlyThose   the first half of the sentence;  SameActions: the second;  SameFile: writing what was read gives the same file
--   SameParts      the part of a good file that holds an action's allocations is that of the action
--   ReaderRules    the reader rules on the file of any actions as the writer does on them
use Rattle.std.specs.Prelude.{ℕ, ◌<◌, ◌^◌, ◌↔◌, List, [], ◌∷◌, ◌≡◌, length, get_or, take}
use Rattle.base_lists.specs.All.{All}
use Rattle.base_words.specs.Word.{u32s, Bytes}
use Rattle.base_rulings.specs.declared.Ruling.TheVariants.{Accepted}
use Rattle.read_plant.specs.Plant.{plant_ruling, allocations_of}
use Rattle.write_plant.specs.Written.{ActionFields, no_action, allocation_numbers, written, actions_in, actions_ruling}
use Rattle.write_plant.specs.Lent.{actions_lent, write_ruling, written_length, written_into}

abbrev pub Small : ℕ → Type 0
Small n = n < 2 ^ 32

pub record Writes (w s : List ℕ) : Type 0 where
  pub words : All Small w
  pub buffer : List ℕ
  pub accepted : write_ruling w (length buffer) ≡ Accepted
  pub file : take (written_length w (length buffer)) (written_into w buffer) ≡ s

abbrev pub Producible : List ℕ → Type 0
Producible s = (w : List ℕ) × Writes w s

abbrev pub ExactlyThose : Type 0
ExactlyThose = (s : List ℕ) → Bytes s → (plant_ruling s ≡ Accepted) ↔ Producible s

abbrev pub SameActions : Type 0
SameActions = (w s : List ℕ) → Writes w s → actions_in s ≡ actions_lent w

abbrev pub SameFile : Type 0
SameFile = (s : List ℕ) → Bytes s → plant_ruling s ≡ Accepted → written (actions_in s) ≡ s

abbrev pub SameParts : Type 0
SameParts =
    (s : List ℕ) → Bytes s → plant_ruling s ≡ Accepted → (a : ℕ)
    → allocations_of s a ≡ u32s (allocation_numbers (get_or (actions_in s) a no_action).allocations)

-- ---- of actions that are not all good

-- the six numbers before n
abbrev pub six_of : ActionFields → List ℕ
six_of x = x.needs_true ∷ x.needs_false ∷ x.makes_true ∷ x.makes_false ∷ x.shortest ∷ x.longest ∷ []

pub record FittingAction (x : ActionFields) : Type 0 where
  pub six : All Small (six_of x)
  pub numbers : All Small (allocation_numbers x.allocations)
  -- n is a byte
  pub few : length x.allocations < 256

pub record Fitting (acts : List ActionFields) : Type 0 where
  pub each : All FittingAction acts
  pub few : Small (length acts)

abbrev pub ReaderRules : Type 0
ReaderRules = (acts : List ActionFields) → Fitting acts → plant_ruling (written acts) ≡ actions_ruling acts
