-- `next` meets its contract.
use Rattle.part_boardwords.specs.Words.{word_in}
use Rattle.call_report.proofs.RowByRow.{after_point, after_job}
use Rattle.call_report.proofs.next.Goals as goal

pub returns-then-at-job : goal.returns-then-at-job
returns-then-at-job c = after_point (word_in c.args.w.now) c.args.at _ c.job_at-job.ensures c.if-at-job.true

pub returns : goal.returns
returns c = after_job (word_in c.args.w.now) c.args.at _ c.job_at-job.ensures c.if-at-job.false
