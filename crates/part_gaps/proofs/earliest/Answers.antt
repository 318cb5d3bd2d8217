-- The cell with the origin is the first of its row.
use Rattle.std.proofs.Common.{arith}
use Rattle.spec_stn.specs.Table.{earliest}
use Rattle.part_gaps.proofs.Overlaid.{origin_column}
use Rattle.part_gaps.proofs.earliest.Goals as goal

pub returns : goal.returns
unfolding earliest
returns c = omega (arith, origin_column c.args.t.now c.args.x)
