-- The job is written behind the others, the count stored, and all words behind cleared (`add_front`).
use Rattle.std.proofs.Common.{◌∙◌, ap, arith}
use Rattle.spec_plain.specs.declared.Job.{Job}
use Rattle.spec_plain.specs.Plain.{new_job}
use Rattle.part_boardwords.specs.Layout.{count_at, job_start}
use Rattle.part_boardwords.specs.Words.{word_in}
use Rattle.part_boardwords.specs.Codec.{job_words, overwritten}
use Rattle.part_jobwords.proofs.Changes.{add_front}
use Rattle.part_jobwords.proofs.changing.add_job.Goals as goal

pub returns : goal.returns
returns c =
    let A = c.args in
    let W = A.w.now in
    let is = c.write_job.ensures ∙ ap (λ (j : Job). overwritten W (job_start (word_in W count_at)) (job_words j)) c.new_job.ensures in
    add_front W c.write_job.new.w _ (new_job A.points A.batch A.due) (omega arith) (omega arith) c.requires.2 is c.clear_jobs.ensures
