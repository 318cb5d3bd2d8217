-- The marks are set, and all words behind the jobs are cleared (`sent_front`).
use Rattle.std.proofs.Common.{arith}
use Rattle.part_jobwords.proofs.Changes.{sent_front}
use Rattle.part_jobwords.proofs.changing.mark_sent.Goals as goal

pub returns : goal.returns
returns c = sent_front c.args.w.now c.set_marks.new.w _ c.args.n (omega arith) (omega arith) c.set_marks.ensures c.clear_jobs.ensures
