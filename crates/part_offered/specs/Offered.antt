-- A step of an offer.
--   Offered p o k at start   what is known of step k, whose bytes start at `at` in the offer and whose action's record at `start` in the plant file
use Rattle.std.specs.Prelude.{ℕ, ◌+◌, ◌*◌, ◌≤◌, ◌≡◌, List, length}
use Rattle.read_plant.specs.Plant.{allocation_count}
use Rattle.read_offer.specs.Offer.{step_start}
use Rattle.spec_rulebook.specs.Reading.{record_of}

pub record Offered (p o : List ℕ) (k at start : ℕ) : Type 0 where
  pub there : at ≡ step_start p o k
  pub its : start ≡ record_of p o k
  -- both lie within their bytes
  pub record_within : start + 28 + 12 * allocation_count p start ≤ length p
  pub bytes_within : at + 4 + 4 * allocation_count p start ≤ length o
  pub few : allocation_count p start ≤ 4
