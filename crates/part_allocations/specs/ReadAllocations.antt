-- Allocations that were read.
--   ReadAllocations ps   the list ps is of no more allocations than an offer has, and the numbers of each are in range
use Rattle.std.specs.Prelude.{ℕ, ◌≤◌, ◌<◌, List, length, get_or}
use Rattle.spec_plain.specs.Limits.{most_allocations}
use Rattle.spec_plain.specs.declared.Allocation.{Allocation}
use Rattle.part_lines.specs.Asked.{Readable}

-- 8 steps of at most 4 allocations; z is what past the end would be read, which is not asked for
pub record ReadAllocations (allocations : List Allocation) : Type 0 where
  pub few : length allocations ≤ most_allocations
  pub each : (k : ℕ) → k < length allocations → (z : Allocation) → Readable (get_or allocations k z)
