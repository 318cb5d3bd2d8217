-- n of the cells before place k differ.
use Rattle.std.proofs.Common.{◌≡◌}
use Rattle.log_tables.specs.Witness.{differing}
use Rattle.log_tables.proofs.showing.count_cells.Given as goal

abbrev pub invariant-loop-k : goal.invariant-loop-k
invariant-loop-k l = l.n ≡ differing l.a l.b l.k
