-- In range, cells are bounded.
use Rattle.std.proofs.Common.{arith}
use Rattle.part_gaptest.proofs.Test.{in_range_bounded}
use Rattle.part_gaptest.proofs.triangle.is_closed.Goals as goal

pub are_many_closed-requires-clause-bounded : goal.are_many_closed-requires-clause-bounded
are_many_closed-requires-clause-bounded c = in_range_bounded c.args.t.now c.args.n (omega arith) c.requires.n_value
