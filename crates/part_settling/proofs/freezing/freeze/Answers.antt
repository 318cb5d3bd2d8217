-- The job of a turn is the first of those that are left.
use Rattle.std.proofs.Common.{◌≡◌, ◌+◌, ◌<◌, ◌∷◌, drop, take, sym, ap, ◌∙◌, get_or, arith}
use Rattle.spec_plain.specs.Plain.{total}
use Rattle.spec_plain.proofs.Points.{unsent_below}
use lib.ListN.{length-take}
use lib.Seq.{get_or-take}
use Rattle.spec_plain.specs.declared.Job.{Job}
use Rattle.part_lines.specs.ArrayLists.{no_job}
use Rattle.part_settling.proofs.Adding.{next_left}
use Rattle.part_settling.proofs.Frozen.{begins, goes_on, ends, unsent_first, unsent_next, unsent_over}
use Rattle.part_settling.proofs.freezing.freeze.Goals as goal
use Rattle.part_settling.proofs.freezing.freeze.Goals.{In-loop-job}

next_at :
    (c : In-loop-job)
    → drop c.loop-job.job-index c.args.jobs.now
    ≡ get_or (take c.args.count c.args.jobs.now) c.loop-job.job-index no_job ∷ drop (c.loop-job.job-index + 1) c.args.jobs.now
next_at c =
    let js = c.args.jobs.now in
    let k = c.loop-job.job-index in
    let before : k < c.args.count = omega (arith, length-take c.args.count js) in
    next_left js k no_job (omega arith)
    ∙ ap (λ (j : Job). j ∷ drop (k + 1) js) (sym (get_or-take c.args.count js k no_job before))

pub loop-job-init : goal.loop-job-init
loop-job-init c =
    let p = c.requires in
    record {
      set = begins _ _ _ _ p.t_len.0 p.t_len.2 (unsent_below _ _ _ 1 (omega arith)) (unsent_first _ _ _);
      next = omega arith;
    }

pub freeze_job-requires : goal.freeze_job-requires
unfolding total
freeze_job-requires c =
    let s = c.loop-job.invariant.set in
    (s.cells, omega arith, omega (arith, ap total (next_at (goal.at.freeze_job-requires c).In-loop-job)), s.closed)

pub overflow_add-x : goal.overflow_add-x
unfolding total
overflow_add-x c = omega (arith, ap total (next_at (goal.at.overflow_add-x c).In-loop-job))

pub loop-job-preserved : goal.loop-job-preserved
unfolding total
loop-job-preserved c =
    let held = next_at (goal.at.loop-job-preserved c).In-loop-job in
    record {
      set =
          goes_on c.loop-job.invariant.set (omega arith) _ _ (unsent_next _ c.loop-job.job-index c.args.count _ _ _ (omega (arith, length-take c.args.count c.args.jobs.now)) held) _
          c.freeze_job.ensures;
      next = omega (arith, ap total held);
    }

pub returns : goal.returns
returns c = ends c.loop-job.invariant.set (unsent_over _ _ _ _ (omega (arith, length-take c.args.count c.args.jobs.now)))
