-- The numbers of an action that passes 4 are in range. Assumes nothing.
--   DurationInRange, AllocationInRange   what document 01 asks of a duration, of an allocation
--   duration_range, allocation_range     it holds of an action that is not refused with 4
use Prim.Native.Nat.{ℕ, ◌≤◌, ◌<◌}
use mathlib.Core.Path.{◌≡◌}
use mathlib.Core.List.{List}
use mathlib.Core.Bool.{false}
use lib.Dec.{ltb}
use borrow.Author.Tests.{ltb-false}
use Rattle.base_masks.specs.Mask.{share}
use Rattle.base_rulings.proofs.RulingLaws.{neither}
use Rattle.read_plant.proofs.SomeBad.{none_bad}
use Rattle.read_plant.specs.Plant.{
  bad_action,
  bad_allocation,
  bad_duration,
  some_bad_allocation,
  allocation_count,
  allocation_start,
  needs_true,
  needs_false,
  makes_true,
  makes_false,
  shortest,
  longest,
  resource,
  offset,
  use_length,
}

-- "1 ≤ shortest ≤ longest ≤ 1,000,000"
pub record DurationInRange (s : List ℕ) (at : ℕ) : Type 0 where
  pub some : 1 ≤ shortest s at
  pub order : shortest s at ≤ longest s at
  pub most : longest s at ≤ 1000000

-- "resource (0 to 15), offset (0 to 1,000,000), length (1 to 1,000,000)"
pub record AllocationInRange (s : List ℕ) (at : ℕ) : Type 0 where
  pub resource : resource s at ≤ 15
  pub offset : offset s at ≤ 1000000
  pub some : 1 ≤ use_length s at
  pub most : use_length s at ≤ 1000000

module _ (s : List ℕ) (at : ℕ) where
  pub duration_range : bad_action s at ≡ false → DurationInRange s at
  unfolding bad_action bad_duration
  duration_range e =
      let needs = neither (share (needs_true s at) (needs_false s at)) _ e in
      let makes = neither (share (makes_true s at) (makes_false s at)) _ needs.1 in
      let lasts = (neither (bad_duration (shortest s at) (longest s at)) (some_bad_allocation s at (allocation_count s at)) makes.1).0 in
      let some = neither (ltb (shortest s at) 1) _ lasts in
      let order = neither (ltb (longest s at) (shortest s at)) (ltb 1000000 (longest s at)) some.1 in
      record {
        some = ltb-false (shortest s at) 1 some.0;
        order = ltb-false (longest s at) (shortest s at) order.0;
        most = ltb-false 1000000 (longest s at) order.1;
      }

  allocation_of_lem : bad_allocation s at ≡ false → AllocationInRange s at
  unfolding bad_allocation
  allocation_of_lem e =
      let first = neither (ltb 15 (resource s at)) _ e in
      let second = neither (ltb 1000000 (offset s at)) _ first.1 in
      let third = neither (ltb (use_length s at) 1) (ltb 1000000 (use_length s at)) second.1 in
      record {
        resource = ltb-false 15 (resource s at) first.0;
        offset = ltb-false 1000000 (offset s at) second.0;
        some = ltb-false (use_length s at) 1 third.0;
        most = ltb-false 1000000 (use_length s at) third.1;
      }

pub allocation_range : (s : List ℕ) (at k : ℕ) → bad_action s at ≡ false → k < allocation_count s at → AllocationInRange s (allocation_start at k)
unfolding bad_action
allocation_range s at k e h =
    let needs = neither (share (needs_true s at) (needs_false s at)) _ e in
    let makes = neither (share (makes_true s at) (makes_false s at)) _ needs.1 in
    let uses = (neither (bad_duration (shortest s at) (longest s at)) (some_bad_allocation s at (allocation_count s at)) makes.1).1 in
    allocation_of_lem s (allocation_start at k) (none_bad s at (allocation_count s at) k uses h)
