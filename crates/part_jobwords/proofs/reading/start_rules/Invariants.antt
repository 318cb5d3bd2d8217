-- The rules so far and those of the jobs that are left are all that is wanted (`Growing`), and one place is used up by each job.
use Rattle.std.proofs.Common.{◌≡◌, ◌+◌, ◌-◌, drop}
use Rattle.spec_plain.specs.Plain.{starts, total}
use Rattle.part_lines.specs.ArrayLists.{jobs_of}
use Rattle.part_lines.proofs.RuleLaws.{Growing}
use Rattle.part_boardwords.specs.Words.{word_in, held_jobs}
use Rattle.part_jobwords.proofs.reading.start_rules.Given as goal

abbrev pub invariant-loop-k : goal.invariant-loop-k
invariant-loop-k l = record {
  made : Growing (starts l.time 1 (jobs_of (held_jobs (word_in l.w)))) l.rules (starts l.time l.x (drop l.k (jobs_of (held_jobs (word_in l.w))))) (16 - l.k);
  points : l.x + total (drop l.k (jobs_of (held_jobs (word_in l.w)))) ≡ 1 + total (jobs_of (held_jobs (word_in l.w)));
}
