-- The clock is stored, and all words behind the jobs are cleared (`clock_front`).
use Rattle.std.proofs.Common.{arith}
use Rattle.part_jobwords.proofs.Fronts.{clock_front}
use Rattle.part_jobwords.proofs.changing.write_clock.Goals as goal

pub returns : goal.returns
returns c = clock_front c.args.w.now _ c.args.clock (omega arith) (omega arith) c.requires.2 c.clear_jobs.ensures
