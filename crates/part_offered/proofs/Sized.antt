-- The numbers of an offer that was read from a good plant file are in range. Assumes nothing.
--   step_sized, allocation_sized   a step, an allocation;  offer_sized: the offer;  checked_sized: one that passes a plan's tests
--   offer_read                     its allocations were read
use Prim.Native.Nat.{ℕ, zero, suc, ◌+◌, ◌*◌, ◌≤◌, ◌<◌}
use native.Mathlib.Omega.{arith}
use mathlib.Core.Path.{◌≡◌}
use mathlib.Core.Bool.{false}
use mathlib.Core.List.{List}
use lib.ListN.{length, length-append}
use Rattle.base_words.specs.Word.{word}
use Rattle.base_rulings.specs.declared.Ruling.TheVariants.{Accepted}
use Rattle.base_rulings.proofs.RulingLaws.{both_passed}
use Rattle.read_plant.specs.Plant.{plant_ruling, trailer_of, bad_action, allocation_count}
use Rattle.read_plant.proofs.Good.{good}
use Rattle.read_plant.proofs.Ranges.{duration_range, allocation_range}
use Rattle.read_offer.specs.Offer.{due_of, step_count, step_start, offer_ruling, fact_check}
use Rattle.read_offer.proofs.Steps.{read_of}
use Rattle.base_lists.specs.All.{All}
use Rattle.base_lists.proofs.All.{all_append, all_map}
use Rattle.spec_plain.specs.declared.Allocation.{Allocation}
use Rattle.spec_plain.specs.Plain.{State}
use Rattle.spec_rulebook.specs.Reading.{record_of, step_of, allocation_of, steps_from, allocations_of_step, allocations_from, offer_of, plan_check}
use Rattle.spec_rulebook.proofs.Reading.{checked}
use Rattle.part_lines.specs.Asked.{Readable}
use Rattle.part_allocations.specs.ReadAllocations.{ReadAllocations}
use Rattle.part_allocations.proofs.Read.{read_all}
use Rattle.part_offered.specs.Sized.{SizedStep, SizedAllocation, SizedOffer}
use Rattle.part_offered.proofs.StepLaws.{length_steps, length_step_allocations}

module _ (p o : List ℕ) (ok : plant_ruling p ≡ Accepted) (read : offer_ruling p o ≡ Accepted) where
  known : (k : ℕ) → k < step_count o → word o (step_start p o k) < (trailer_of p).count
  known k h = ((read_of p o read).steps k h).known

  in_range : (k : ℕ) → k < step_count o → bad_action p (record_of p o k) ≡ false
  unfolding record_of
  in_range k h = (good p ok).in_range (word o (step_start p o k)) (known k h)

  few_allocations : (k : ℕ) → k < step_count o → allocation_count p (record_of p o k) ≤ 4
  unfolding record_of
  few_allocations k h = ((good p ok).in_place (word o (step_start p o k)) (known k h)).few

  step_sized : (k : ℕ) → k < step_count o → SizedStep (step_of p o k)
  unfolding step_of
  step_sized k h = let r = duration_range p (record_of p o k) (in_range k h) in record { shortest = omega (arith, r.order, r.most); longest = r.most }

  steps_sized : (n k : ℕ) → k + n ≤ step_count o → All SizedStep (steps_from p o k n)
  unfolding steps_from
  steps_sized zero k le = tt
  steps_sized (suc n) k le = (step_sized k (omega arith), steps_sized n (k + 1) (omega arith))

  allocation_sized : (k j : ℕ) → k < step_count o → j < allocation_count p (record_of p o k) → SizedAllocation (step_count o) (allocation_of p o k j)
  unfolding allocation_of
  allocation_sized k j h l =
      let r = allocation_range p (record_of p o k) j (in_range k h) l in
      let few = (read_of p o read).few in
      record {
        readable = record { resource = omega (arith, r.resource); step = omega arith; offset = r.offset; length = r.most };
        step = h;
        some = r.some;
      }

  step_allocations_sized :
      (k : ℕ) → k < step_count o → (n j : ℕ) → j + n ≤ allocation_count p (record_of p o k)
      → All (SizedAllocation (step_count o)) (allocations_of_step p o k j n)
  unfolding allocations_of_step
  step_allocations_sized k h zero j le = tt
  step_allocations_sized k h (suc n) j le = (allocation_sized k j h (omega arith), step_allocations_sized k h n (j + 1) (omega arith))

  puts_sized : (n k : ℕ) → k + n ≤ step_count o → All (SizedAllocation (step_count o)) (allocations_from p o k n) × (length (allocations_from p o k n) ≤ 4 * n)
  unfolding allocations_from
  puts_sized zero k le = (tt, omega arith)
  puts_sized (suc n) k le =
      let here = allocation_count p (record_of p o k) in
      let rest = puts_sized n (k + 1) (omega arith) in
      let size = length-append (allocations_of_step p o k 0 here) (allocations_from p o (k + 1) n) in (
        all_append (SizedAllocation (step_count o)) (allocations_of_step p o k 0 here) (allocations_from p o (k + 1) n)
            (step_allocations_sized k (omega arith) here 0 (omega arith)) rest.0,
        omega (arith, size, length_step_allocations p o k 0 here, few_allocations k (omega arith), rest.1),
      )

  -- on a board of the horizon H
  pub offer_sized : (H : ℕ) → due_of o ≤ H → SizedOffer H (offer_of p o)
  unfolding offer_of
  offer_sized H due =
      let n = step_count o in
      let size = length_steps p o 0 n in
      let r = read_of p o read in
      let allocations = puts_sized n 0 (omega arith) in
      record {
        due = due;
        some = omega (arith, size, r.some);
        few = omega (arith, size, r.few);
        steps = steps_sized n 0 (omega arith);
        allocations = rw size allocations.0;
        count = omega (arith, allocations.1, r.few);
      }

  pub offer_read : (ps : List Allocation) → ps ≡ (offer_of p o).allocations → ReadAllocations ps
  offer_read ps e =
      let sized = offer_sized (due_of o) (omega arith) in
      rw e
      (read_all (offer_of p o).allocations sized.count
      (all_map (SizedAllocation (length (offer_of p o).steps)) Readable (λ a s. s.readable) (offer_of p o).allocations sized.allocations))

-- a plan's tests pass 1 to 4, 7 to 9 and 23 on their way
pub checked_sized : (s : State) (p o : List ℕ) → plan_check s p o ≡ Accepted → SizedOffer s.settings.horizon (offer_of p o)
unfolding fact_check
checked_sized s p o e =
    let both = checked s p o e in
    let first = both_passed (plant_ruling p) _ both.0 in
    offer_sized p o first.0 (both_passed (offer_ruling p o) _ first.1).0 s.settings.horizon both.1
