-- Document 02, Note 1: "Given the actions as fields, it writes the file of document 01 into a lent buffer." The file of a list of actions, the actions of
-- a file, and which lists of actions are refused. A file is the list of its bytes.
--   AllocationFields, ActionFields   an action as fields; its number n is how many allocations it has
--   record_of a         an action's record, by its numbers: allocation_numbers
--   file_of rs          the file of a list of records: the records (`joined`), an index of their starts (`starts_from`), a trailer with the `mark`
--   written acts       the file of a list of actions
--   action_at s at      the action whose record starts at `at`, by allocation_at;  actions_in s: the actions that a good file holds
--   no_action           where there is none
--   bad_fields a        refusal 4 of an action, by out_of and some_out_of_range
--   action_ruling acts a   refusals 3 and 4 of action a;  actions_ruling acts: 2, then 3 and 4 action by action
use Rattle.std.specs.Prelude.{ℕ, ◌+◌, Bool, false, cond, ◌||◌, List, [], ◌∷◌, ◌++◌, map, ltb, length, get_or}
use Rattle.base_words.specs.Word.{u32s}
use Rattle.base_masks.specs.Mask.{share}
use Rattle.base_lists.specs.Loops.{build}
use Rattle.base_rulings.specs.declared.Ruling.{Ruling}
use Rattle.base_rulings.specs.declared.Ruling.TheVariants.{Accepted}
use Rattle.base_rulings.specs.Answer.{refuse, refused}
use Rattle.base_rulings.specs.Order.{first_refusal}
use Rattle.read_plant.specs.Plant.{trailer_of, needs_true, needs_false, makes_true, makes_false, shortest, longest, allocation_count, allocation_start}
use Rattle.read_plant.specs.Plant.{resource, offset, use_length, record_start, bad_duration, out_of_range}

-- ---- an action

pub record AllocationFields : Type 0 where
  pub resource : ℕ
  pub offset : ℕ
  pub length : ℕ

pub record ActionFields : Type 0 where
  pub needs_true : ℕ
  pub needs_false : ℕ
  pub makes_true : ℕ
  pub makes_false : ℕ
  pub shortest : ℕ
  pub longest : ℕ
  pub allocations : List AllocationFields

-- ---- its file: "Records follow one another from byte 0, then an index of their starts, then a 12-byte trailer"

abbrev pub allocation_numbers : List AllocationFields → List ℕ
allocation_numbers [] = []
allocation_numbers (x ∷ xs) = x.resource ∷ x.offset ∷ x.length ∷ allocation_numbers xs

-- "needs-true, needs-false, makes-true, makes-false, shortest, longest (24 bytes); one byte n (0 to 4); three zero bytes; then n allocations"
abbrev pub record_of : ActionFields → List ℕ
record_of a =
    u32s (a.needs_true ∷ a.needs_false ∷ a.makes_true ∷ a.makes_false ∷ a.shortest ∷ a.longest ∷ [])
    ++ (length a.allocations ∷ 0 ∷ 0 ∷ 0 ∷ [])
    ++ u32s (allocation_numbers a.allocations)

abbrev pub joined : List (List ℕ) → List ℕ
joined [] = []
joined (r ∷ rs) = r ++ joined rs

abbrev pub starts_from : ℕ → List (List ℕ) → List ℕ
starts_from at [] = []
starts_from at (r ∷ rs) = at ∷ starts_from (at + length r) rs

-- "the last four bytes are hex 50 4C 4E 54"
abbrev pub mark : List ℕ
mark = 0x50 ∷ 0x4C ∷ 0x4E ∷ 0x54 ∷ []

-- the trailer: "index start, action count", and the mark
abbrev pub file_of : List (List ℕ) → List ℕ
file_of rs = joined rs ++ u32s (starts_from 0 rs) ++ u32s (length (joined rs) ∷ length rs ∷ []) ++ mark

abbrev pub written : List ActionFields → List ℕ
written acts = file_of (map record_of acts)

-- ---- the actions of a file

abbrev pub allocation_at : List ℕ → ℕ → AllocationFields
allocation_at s at = record { resource = resource s at; offset = offset s at; length = use_length s at }

abbrev pub action_at : List ℕ → ℕ → ActionFields
action_at s at =
    record {
      needs_true = needs_true s at;
      needs_false = needs_false s at;
      makes_true = makes_true s at;
      makes_false = makes_false s at;
      shortest = shortest s at;
      longest = longest s at;
      allocations = build (λ k. allocation_at s (allocation_start at k)) (allocation_count s at);
    }

abbrev pub actions_in : List ℕ → List ActionFields
actions_in s = build (λ a. action_at s (record_start s a)) (trailer_of s).count

-- ---- the ruling: "Actions that the reader would refuse get 3 or 4, a count out of range gets 2"

abbrev pub out_of : AllocationFields → Bool
out_of x = out_of_range x.resource x.offset x.length

abbrev pub some_out_of_range : List AllocationFields → Bool
some_out_of_range [] = false
some_out_of_range (x ∷ xs) = out_of x || some_out_of_range xs

-- 4: "An action has a duration, resource, offset or length out of range, or a fact twice in its needs or in its makes"
abbrev pub bad_fields : ActionFields → Bool
bad_fields a =
    share a.needs_true a.needs_false
    || (share a.makes_true a.makes_false
    || (bad_duration a.shortest a.longest
    || some_out_of_range a.allocations))

-- where there is no action
abbrev pub no_action : ActionFields
no_action = record { needs_true = 0; needs_false = 0; makes_true = 0; makes_false = 0; shortest = 0; longest = 0; allocations = [] }

-- 3: "has n above 4"
unfoldable pub action_ruling : List ActionFields → ℕ → Ruling
action_ruling acts a =
    cond (ltb 4 (length (get_or acts a no_action).allocations)) (refused 3 a)
    (cond (bad_fields (get_or acts a no_action)) (refused 4 a)
    Accepted)

-- "action count (1 to 128)"
unfoldable pub actions_ruling : List ActionFields → Ruling
actions_ruling acts = cond (ltb (length acts) 1 || ltb 128 (length acts)) (refuse 2) (first_refusal (action_ruling acts) (length acts))
