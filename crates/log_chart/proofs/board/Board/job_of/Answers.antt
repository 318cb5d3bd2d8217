-- The laws of the search are in `ChartLaws`. Assumes nothing.
use Rattle.std.proofs.Common.{◌≡◌, sym, ◌∙◌, arith}
use Rattle.part_boardwords.specs.Layout.{count_at}
use Rattle.part_boardwords.specs.Words.{word_in}
use Rattle.part_boardwords.proofs.Boards.{job_next, job_over}
use Rattle.log_chart.proofs.ChartLaws.{job_here, job_on, job_end}
use Rattle.log_chart.proofs.board.Board.job_of.Goals as goal

pub returns-then-k-job : goal.returns-then-k-job
returns-then-k-job c =
    let next = job_next (word_in c.args.self.now.w.now) c.args.self.now.jobs.count c.loop-place.place _ c.loop-place-test.true c.job_at-job.ensures in
    (job_here _ _ _ _ c.loop-place.invariant _ _ next c.if-k-job.true, omega arith)

pub loop-place-preserved : goal.loop-place-preserved
loop-place-preserved c =
    let next = job_next (word_in c.args.self.now.w.now) c.args.self.now.jobs.count c.loop-place.place _ c.loop-place-test.true c.job_at-job.ensures in
    job_on _ _ _ _ c.loop-place.invariant _ next c.if-k-job.false

pub returns : goal.returns
returns c =
    let w = word_in c.args.self.now.w.now in
    let same : c.loop-place.place ≡ w count_at = omega arith in
    (sym same ∙ job_end _ _ _ _ c.loop-place.invariant (job_over w c.args.self.now.jobs.count c.loop-place.place (omega arith)), omega arith)
