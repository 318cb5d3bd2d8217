-- The old number of a point, by its one test.
use Rattle.std.proofs.Common.{sym}
use Rattle.spec_stn.proofs.Pick.{old_low, old_high}
use Rattle.part_gaps.proofs.dropping.old_number.Goals as goal

pub returns-then-x-f-clause-number : goal.returns-then-x-f-clause-number
returns-then-x-f-clause-number c = sym (old_low _ _ _ c.if-x-f.true)

pub returns-else-x-f-clause-number : goal.returns-else-x-f-clause-number
returns-else-x-f-clause-number c = sym (old_high _ _ _ c.if-x-f.false)
