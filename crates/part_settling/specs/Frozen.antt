-- Points set equal to their earliest times: what send does to a table.
--   frozen n xs l   the cells l of n points with each point of xs set equal to its earliest time in l
use Rattle.std.specs.Prelude.{ℕ, List}
use Rattle.spec_plain.specs.Plain.{freeze}
use Rattle.spec_stn.specs.Table.{earliest}
use Rattle.part_gaps.specs.Cells.{table_of}
use Rattle.part_settling.specs.Settled.{added_each}

abbrev pub frozen : ℕ → List ℕ → List ℕ → List ℕ
frozen n xs l = added_each (freeze (earliest (table_of l)) xs) n l
