-- Word k of the part is the one a job further on.
use Rattle.std.proofs.Common.{arith, ◌+◌, ◌-◌, ◌∙◌}
use Rattle.part_boardwords.specs.Layout.{job_size, jobs_at, job_start}
use Rattle.part_boardwords.proofs.Moved.{moved}
use Rattle.part_boardwords.proofs.moving.move_jobs_down.Goals as goal

pub returns : goal.returns
returns c =
    let end = job_start c.args.n in
    let first = jobs_at + job_size in
    c.copy_within.ensures.after
    ∙ moved (λ k. k + job_size) _ first jobs_at (end + job_size - first) end (omega arith) (omega arith) (omega arith) (λ k lo hi. omega arith)
