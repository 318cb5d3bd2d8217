-- The actions as they are lent to the writer, and what the writer leaves: 19 words for each action, the seven numbers needs-true to n and then resource,
-- offset and length of up to four allocations. Words past the first n allocations are not looked at.
--   action_words         19
--   allocation_in w at   the allocation whose words begin at `at`;  action_from w at: the action;  action_in w a: action a;  actions_lent w: all of them
--   write_ruling w room  the ruling on a file of these actions in a buffer of `room` bytes
--   written_length, written_into   the length returned, and the buffer after the call
use Rattle.std.specs.Prelude.{ℕ, ◌+◌, ◌*◌, ◌/◌, ◌%◌, cond, not, List, ◌++◌, ltb, eqb, length, get_or, drop}
use Rattle.base_lists.specs.Loops.{build}
use Rattle.base_rulings.specs.declared.Ruling.{Ruling}
use Rattle.base_rulings.specs.declared.Ruling.TheVariants.{Accepted}
use Rattle.base_rulings.specs.Answer.{refuse}
use Rattle.base_rulings.specs.Order.{and_then, if_accepted}
use Rattle.write_plant.specs.Written.{AllocationFields, ActionFields, written, actions_ruling}

abbrev pub action_words : ℕ
action_words = 19

abbrev pub allocation_in : List ℕ → ℕ → AllocationFields
allocation_in w at = record { resource = get_or w at 0; offset = get_or w (at + 1) 0; length = get_or w (at + 2) 0 }

-- the action whose words begin at `at`
abbrev pub action_from : List ℕ → ℕ → ActionFields
action_from w at =
    record {
      needs_true = get_or w at 0;
      needs_false = get_or w (at + 1) 0;
      makes_true = get_or w (at + 2) 0;
      makes_false = get_or w (at + 3) 0;
      shortest = get_or w (at + 4) 0;
      longest = get_or w (at + 5) 0;
      allocations = build (λ k. allocation_in w (at + 7 + 3 * k)) (get_or w (at + 6) 0);
    }

abbrev pub action_in : List ℕ → ℕ → ActionFields
action_in w a = action_from w (action_words * a)

abbrev pub actions_lent : List ℕ → List ActionFields
actions_lent w = build (action_in w) (length w / action_words)

-- "a count out of range gets 2": words that are no whole number of actions too. "a buffer that is too short gets 22, tested last"
unfoldable pub write_ruling : List ℕ → ℕ → Ruling
write_ruling w room =
    cond (not (eqb (length w % action_words) 0)) (refuse 2)
    (and_then (actions_ruling (actions_lent w))
    (cond (ltb room (length (written (actions_lent w)))) (refuse 22)
    Accepted))

-- "The file's length is returned": 0 where refused
unfoldable pub written_length : List ℕ → ℕ → ℕ
written_length w room = if_accepted (write_ruling w room) (length (written (actions_lent w))) 0

-- "bytes past it stay unwritten, and a refusal writes no byte"
unfoldable pub written_into : List ℕ → List ℕ → List ℕ
written_into w s =
    if_accepted (write_ruling w (length s)) (written (actions_lent w) ++ drop (length (written (actions_lent w))) s) s
