-- Allocations that were read. Assumes nothing.
--   read_all     a list of which each is in range
--   used_short   the use of an allocation that was read is Short
use Prim.Native.Nat.{ℕ, ◌≤◌}
use mathlib.Core.List.{List}
use lib.ListN.{length}
use Rattle.spec_plain.specs.Limits.{most_allocations}
use Rattle.spec_plain.specs.declared.Allocation.{Allocation}
use Rattle.spec_plain.specs.Plain.{used_from}
use Rattle.part_lines.specs.Asked.{Short, Readable}
use Rattle.base_lists.specs.All.{All}
use Rattle.base_lists.proofs.All.{all_at}
use Rattle.part_allocations.specs.ReadAllocations.{ReadAllocations}

pub read_all : (ps : List Allocation) → length ps ≤ most_allocations → All Readable ps → ReadAllocations ps
read_all ps few all = record { few = few; each = λ k h z. all_at Readable ps z all k h }

pub used_short : (x : ℕ) (p : Allocation) → Readable p → Short (used_from x p)
unfolding used_from
used_short x p r = record { offset = r.offset; length = r.length }
