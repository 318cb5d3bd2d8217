-- The next job's points are the first of those to come, so that no index is out of range. Assumes nothing.
use Rattle.std.proofs.Common.{◌≤◌, ap, arith}
use Rattle.spec_plain.specs.declared.Job.{Job}
use Rattle.spec_plain.specs.Plain.{total}
use Rattle.part_boardwords.specs.Words.{word_in}
use Rattle.part_boardwords.proofs.Boards.{job_next}
use Rattle.log_chart.proofs.windows.write_windows.Goals as goal

pub write_job-requires : goal.write_job-requires
unfolding total
write_job-requires g c =
    let board = c.args.board.now in
    let L = c.loop-k in
    let next = ap total (job_next (word_in board.w.now) board.jobs.count L.k _ c.loop-k-test.true c.job_at-job.ensures) in
    let some : 1 ≤ c.job_at-job.result.points = omega (arith, board.some L.k c.loop-k-test.true, ap (λ (j : Job). j.points) c.job_at-job.ensures) in
    (omega (arith, board.jobs.count), some, omega (arith, next, board.jobs.points), omega arith)

pub loop-k-preserved : goal.loop-k-preserved
unfolding total
loop-k-preserved g c =
    let board = c.args.board.now in
    let next = ap total (job_next (word_in board.w.now) board.jobs.count c.loop-k.k _ c.loop-k-test.true c.job_at-job.ensures) in
    omega (arith, next)
