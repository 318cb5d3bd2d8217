-- A sent job has no point to set.
use borrow.Author.Tests.{not-false}
use Rattle.spec_plain.specs.Plain.{freeze}
use Rattle.part_settling.specs.Settled.{added_each}
use Rattle.part_settling.proofs.freezing.freeze_job.Goals as goal

pub returns-else-not-job : goal.returns-else-not-job
unfolding freeze added_each
returns-else-not-job c = rw (not-false _ c.if-not-job.false)
