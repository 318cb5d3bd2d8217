-- What a plan call's bytes come to: an early cause, or an offer. By the definitions of the plant file, the offer and the fact check.
--   record_of p o k     where the record of step k's action starts
--   step_of, allocation_of      a step's durations; an allocation with its place;  steps_from, allocations_of_step, allocations_from: lists of them
--   offer_of p o        the offer that a good plant file and a good offer spell
--   due_ruling s o      23: whether the due time lies within the horizon of the state s
--   plan_check s p o    the first of refusals 1 to 4, 7 to 10, 23 and 11 to 13
--   reading_of s p o    that refusal, or that offer: a Reading;  past r x: the reading x, past tests that are ruled r
use Rattle.std.specs.Prelude.{ℕ, zero, suc, ◌+◌, cond, List, [], ◌∷◌, ◌++◌, ltb}
use Rattle.base_words.specs.Word.{word}
use Rattle.base_rulings.specs.declared.Cause.{Cause}
use Rattle.base_rulings.specs.declared.Ruling.{Ruling}
use Rattle.base_rulings.specs.declared.Ruling.TheVariants.{Accepted, Refused}
use Rattle.base_rulings.specs.Answer.{refuse}
use Rattle.base_rulings.specs.Order.{and_then}
use Rattle.read_plant.specs.Plant.{record_start, shortest, longest, allocation_count, allocation_start, resource, offset, use_length, plant_ruling}
use Rattle.read_offer.specs.Offer.{batch_of, due_of, step_count, step_start, place_at, offer_ruling, consistency_ruling, chain_ruling}
use Rattle.spec_plain.specs.declared.Step.{Step}
use Rattle.spec_plain.specs.declared.Allocation.{Allocation}
use Rattle.spec_plain.specs.Plain.{Offer, State}

-- the record of the action that step k names
unfoldable pub record_of : List ℕ → List ℕ → ℕ → ℕ
record_of p o k = record_start p (word o (step_start p o k))

unfoldable pub step_of : List ℕ → List ℕ → ℕ → Step
step_of p o k = record { shortest = shortest p (record_of p o k); longest = longest p (record_of p o k) }

-- allocation j of step k: "resource, offset, length" in the plant file, "one place for each of its allocations" in the offer
unfoldable pub allocation_of : List ℕ → List ℕ → ℕ → ℕ → Allocation
allocation_of p o k j =
    record {
      resource = resource p (allocation_start (record_of p o k) j);
      place = place_at p o k j;
      step = k;
      offset = offset p (allocation_start (record_of p o k) j);
      length = use_length p (allocation_start (record_of p o k) j);
    }

-- n steps, from step k on
unfoldable pub steps_from : List ℕ → List ℕ → ℕ → ℕ → List Step
steps_from p o k zero = []
steps_from p o k (suc n) = step_of p o k ∷ steps_from p o (k + 1) n

-- n allocations of step k, from allocation j on
unfoldable pub allocations_of_step : List ℕ → List ℕ → ℕ → ℕ → ℕ → List Allocation
allocations_of_step p o k j zero = []
allocations_of_step p o k j (suc n) = allocation_of p o k j ∷ allocations_of_step p o k (j + 1) n

-- the allocations of n steps, from step k on, in offer order
unfoldable pub allocations_from : List ℕ → List ℕ → ℕ → ℕ → List Allocation
allocations_from p o k zero = []
allocations_from p o k (suc n) = allocations_of_step p o k 0 (allocation_count p (record_of p o k)) ++ allocations_from p o (k + 1) n

unfoldable pub offer_of : List ℕ → List ℕ → Offer
offer_of p o =
    record { batch = batch_of o; due = due_of o; steps = steps_from p o 0 (step_count o); allocations = allocations_from p o 0 (step_count o) }

pub data Reading : Type 0 where
  bad : Cause → Reading
  good : Offer → Reading

unfoldable pub past : Ruling → Reading → Reading
past Accepted x = x
past (Refused c) x = bad c

-- "23 when the due time is past the horizon"
unfoldable pub due_ruling : State → List ℕ → Ruling
due_ruling s o = cond (ltb s.settings.horizon (due_of o)) (refuse 23) Accepted

-- the tests of the fact check, in its order, and 23, "tested straight after 10 by plan; the fact check, which sees no board, doesn't test it"
unfoldable pub plan_check : State → List ℕ → List ℕ → Ruling
plan_check s p o =
    and_then (plant_ruling p) (and_then (offer_ruling p o) (and_then (consistency_ruling o) (and_then (due_ruling s o) (chain_ruling p o))))

unfoldable pub reading_of : State → List ℕ → List ℕ → Reading
reading_of s p o = past (plan_check s p o) (good (offer_of p o))
