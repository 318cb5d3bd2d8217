use Rattle.std.proofs.Common.{◌≡◌, refl, [], ◌∷◌, List, drop, ◌+◌, ◌++◌, ap, sym, ◌∙◌, arith}
use Rattle.spec_plain.specs.declared.Rule.{Rule}
use Rattle.spec_plain.specs.Plain.{total, starts}
use Rattle.part_lines.specs.ArrayLists.{jobs_of}
use Rattle.part_lines.proofs.RuleLaws.{Room_of, Room_less, rules_back, grows_some, grown, starts_next}
use Rattle.part_boardwords.specs.Words.{word_in, held_jobs}
use Rattle.part_boardwords.proofs.Boards.{job_next, job_over}
use Rattle.part_jobwords.proofs.reading.start_rules.Goals as goal
use Rattle.part_jobwords.proofs.reading.start_rules.Goals.{After-job_at-job}

-- the jobs that are left begin with this one
next : (c : After-job_at-job) → (let js = jobs_of (held_jobs (word_in c.args.w.now)) in
    drop c.loop-k.k js ≡ c.job_at-job.result ∷ drop (c.loop-k.k + 1) js)
next c = job_next (word_in c.args.w.now) c.requires.1.count c.loop-k.k _ c.loop-k-test.true c.job_at-job.ensures

pub loop-k-init : goal.loop-k-init
loop-k-init c =
    let r = c.new-rules.result in
    let e = c.new-rules.ensures in
    record {
      made = record {
        runs = ap (λ (l : List Rule). l ++ starts c.args.time 1 (jobs_of (held_jobs (word_in c.args.w.now)))) (sym (rules_back r [] e (omega arith)));
        room = Room_of r [] 16 e (omega arith);
      };
      points = refl;
    }

pub overflow_add-x : goal.overflow_add-x
unfolding total
overflow_add-x c = omega (arith, ap total (next (goal.at.overflow_add-x c).After-job_at-job))

pub extend-requires : goal.extend-requires
extend-requires c = Room_less c.loop-k.invariant.made.room 1 (omega arith)

pub loop-k-preserved : goal.loop-k-preserved
unfolding total
loop-k-preserved c =
    let is = next (goal.at.loop-k-preserved c).After-job_at-job in
    let L = c.loop-k in
    let j = c.job_at-job.result in
    let later = drop (L.k + 1) (jobs_of (held_jobs (word_in c.args.w.now))) in
    record {
      made = grows_some _ _ L.invariant.made
          (ap (starts c.args.time L.x) is ∙ starts_next c.args.time L.x j later
          ∙ ap (λ (l : List Rule). l ++ starts c.args.time (L.x + j.points) later) (sym c.start_rule.ensures)) c.extend.ensures (omega arith);
      points = omega (arith, ap total is);
    }

pub returns : goal.returns
unfolding starts
returns c =
    let L = c.loop-k in
    grown L.invariant.made (ap (starts c.args.time L.x) (job_over (word_in c.args.w.now) c.requires.1.count L.k c.loop-k-test.false))
