-- `all` asks the closure of each job but the first.
use Rattle.std.proofs.Common.{rules, arith, refl, ap, ◌≡◌, ◌∙◌, ◌+◌, ◌-◌, ◌||◌, not, ℕ}
use Rattle.spec_plain.specs.declared.Job.{Job}
use Rattle.part_lines.specs.ArrayLists.{jobs_of}
use Rattle.part_boardwords.specs.Layout.{count_at}
use Rattle.part_boardwords.specs.Words.{word_in, job_at, held_jobs}
use Rattle.part_boardwords.proofs.Boards.{held_jobs_lem, held_job}
use Rattle.part_boardwords.proofs.Tests.{all_between}
use Rattle.part_sound.proofs.SentFirst.{sent_pair, sent_pairs}
use Rattle.part_sound.proofs.sent.is_sent_first.Goals as goal

pub returns : goal.returns
returns c =
    let w = word_in c.args.w.now in
    let few = c.requires.1 in
    let sent = λ (k : ℕ). (job_at w k).sent in
    all_between (λ k. sent (k - 1) || not (sent k)) (sent_pair sent) 1 _ (w count_at - 1) _ _ _ _ refl refl
    (λ k h. let back : 1 + k - 1 ≡ k = omega arith in let on : 1 + k ≡ k + 1 = omega arith in rw (back, on) refl) c.all.ensures.ran (λ k y q called. search rules)
    ∙ sent_pairs (jobs_of (held_jobs w)) sent (w count_at) (held_jobs_lem w few) (λ k h. ap (λ (j : Job). j.sent) (held_job w few k h))
