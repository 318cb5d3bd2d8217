-- What holds of an offer that was read from a good plant file, on a board of the horizon H: its numbers are in range.
--   SizedStep, SizedAllocation   what holds of a step, of an allocation
--   SizedOffer H o        what holds of the offer
use Rattle.std.specs.Prelude.{ℕ, ◌≤◌, ◌<◌, length}
use Rattle.spec_plain.specs.Limits.{most_steps, most_allocations}
use Rattle.spec_plain.specs.declared.Step.{Step}
use Rattle.spec_plain.specs.declared.Allocation.{Allocation}
use Rattle.spec_plain.specs.Plain.{Offer}
use Rattle.base_lists.specs.All.{All}
use Rattle.part_lines.specs.Asked.{Readable}

pub record SizedStep (s : Step) : Type 0 where
  pub shortest : s.shortest ≤ 1000000
  pub longest : s.longest ≤ 1000000

-- an allocation of one of the first n steps: what the code asks of it, and that it has a length
pub record SizedAllocation (n : ℕ) (p : Allocation) : Type 0 where
  pub readable : Readable p
  pub step : p.step < n
  pub some : 1 ≤ p.length

pub record SizedOffer (H : ℕ) (o : Offer) : Type 0 where
  pub due : o.due ≤ H
  pub some : 1 ≤ length o.steps
  pub few : length o.steps ≤ most_steps
  pub steps : All SizedStep o.steps
  pub allocations : All (SizedAllocation (length o.steps)) o.allocations
  -- 8 steps of at most 4 allocations
  pub count : length o.allocations ≤ most_allocations
