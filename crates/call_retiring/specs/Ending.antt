-- Points that leave, and what the test that they are over by the clock asks.
--   InReach l c f m   the m points from f on are points of the table l, and neither their latest times nor the clock c are large
use Rattle.std.specs.Prelude.{ℕ, ◌+◌, ◌≤◌, ◌<◌, ◌≡◌, List, length}
use Rattle.spec_plain.specs.Limits.{side, cell_count}
use Rattle.spec_stn.specs.Table.{bias}
use Rattle.part_gaps.specs.Cells.{cell}

pub record InReach (l : List ℕ) (c f m : ℕ) : Type 0 where
  pub size : length l ≡ cell_count
  pub points : f + m ≤ side
  pub clock : c ≤ bias
  pub bounded : (x : ℕ) → x < f + m → cell l 0 x ≤ bias + bias
