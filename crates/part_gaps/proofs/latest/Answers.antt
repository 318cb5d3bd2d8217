-- The cell with the origin is in the first row.
use Rattle.std.proofs.Common.{arith}
use Rattle.spec_stn.specs.Table.{latest}
use Rattle.part_gaps.proofs.Overlaid.{origin_row}
use Rattle.part_gaps.proofs.latest.Goals as goal

pub returns : goal.returns
unfolding latest
returns c = omega (arith, origin_row c.args.t.now c.args.x)
