-- What is left of the jobs starts with job k.
use Rattle.std.proofs.Common.{arith, ap}
use Rattle.spec_plain.specs.Plain.{total}
use Rattle.part_boardwords.specs.Words.{word_in}
use Rattle.part_boardwords.proofs.Boards.{job_next, job_over}
use Rattle.part_sound.specs.Sound.{still_sent}
use Rattle.part_sound.proofs.Flags.{flag_next, flag_end}
use Rattle.part_sound.proofs.sent.is_sent_still.Goals as goal

pub is_job_still-ok-requires : goal.is_job_still-ok-requires
unfolding total
is_job_still-ok-requires c =
    let next = job_next (word_in c.args.w.now) c.requires.2.count c.loop-k.k _ c.loop-k-test.true c.job_at-job.ensures in
    (c.requires.1, omega (arith, ap total next))

pub loop-k-preserved : goal.loop-k-preserved
unfolding total still_sent
loop-k-preserved c =
    let L = c.loop-k in
    let next = job_next (word_in c.args.w.now) c.requires.2.count L.k _ c.loop-k-test.true c.job_at-job.ensures in
    record {
      still = rw c.is_job_still-ok.ensures (flag_next L.ok _ _ (rw next at L.invariant.still));
      points = omega (arith, ap total next);
    }

pub returns : goal.returns
unfolding still_sent
returns c =
    flag_end c.loop-k.ok (rw (job_over (word_in c.args.w.now) c.requires.2.count c.loop-k.k c.loop-k-test.false) at c.loop-k.invariant.still)
