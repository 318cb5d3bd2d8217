use Rattle.std.proofs.Common.{◌≡◌, refl, ◌∷◌, ℕ, List, drop, ◌+◌, ap, sym, ◌∙◌, arith}
use Rattle.spec_plain.specs.declared.Job.{Job}
use Rattle.spec_plain.specs.Plain.{total}
use Rattle.part_lines.specs.ArrayLists.{jobs_of}
use Rattle.part_lines.proofs.RuleLaws.{search_from, newest_start, newest_here, newest_not, newest_over}
use Rattle.part_boardwords.specs.Words.{word_in, held_jobs}
use Rattle.part_boardwords.proofs.Boards.{job_next, job_over}
use Rattle.part_jobwords.proofs.words.JobWords.newest_end.Goals as goal
use Rattle.part_jobwords.proofs.words.JobWords.newest_end.Goals.{After-job_at-job, then-job-batch, else-job-batch}

-- the jobs that are left begin with this one
next : (c : After-job_at-job) → (let js = jobs_of (held_jobs (word_in c.args.self.w.now)) in
    drop c.loop-k.k js ≡ c.job_at-job.result ∷ drop (c.loop-k.k + 1) js)
next c = job_next (word_in c.args.self.w.now) c.args.self.sized.count c.loop-k.k _ c.loop-k-test.true c.job_at-job.ensures

pub loop-k-init : goal.loop-k-init
loop-k-init c = record { found = λ d last. newest_start d c.args.batch last 1 _; points = refl; above = omega arith }

pub overflow_add-x : goal.overflow_add-x
unfolding total
overflow_add-x c = omega (arith, ap total (next (goal.at.overflow_add-x c).After-job_at-job))

pub loop-k-preserved : goal.loop-k-preserved
unfolding total
loop-k-preserved c =
    let is = next (goal.at.loop-k-preserved c).After-job_at-job in
    let L = c.loop-k in
    let b = c.args.batch in
    let j = c.job_at-job.result in
    let later : List Job = drop (L.k + 1) (jobs_of (held_jobs (word_in c.args.self.w.now))) in
    let turn : (d last : ℕ) → search_from d b last (L.x + j.points) later c.if-job-batch.found ≡ search_from d b last L.x (j ∷ later) L.found =
    λ d last. elim c.if-job-batch.branch [
      | then-job-batch w ↦ ap (search_from d b last (L.x + j.points) later) w.found-is ∙ newest_here d b last L.x j later L.found w.if-job-batch.true
      | else-job-batch w ↦ ap (search_from d b last (L.x + j.points) later) w.found-is ∙ newest_not d b last L.x j later L.found w.if-job-batch.false
    ] in
    record {
      found = λ d last. turn d last ∙ ap (λ (l : List Job). search_from d b last L.x l L.found) (sym is) ∙ L.invariant.found d last;
      points = omega (arith, ap total is);
      above = omega arith;
    }

pub returns : goal.returns
returns c d last =
    let L = c.loop-k in
    sym (newest_over d c.args.batch last L.x L.found)
    ∙ ap (λ (l : List Job). search_from d c.args.batch last L.x l L.found) (sym (job_over (word_in c.args.self.w.now) c.args.self.sized.count L.k c.loop-k-test.false))
    ∙ L.invariant.found d last
