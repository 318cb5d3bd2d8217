-- What was found, and the search in the jobs that are left, give what the search in all jobs gives (`search_from`). The points so far and those that
-- are left never pass 65.
use Rattle.std.proofs.Common.{◌≡◌, ℕ, ◌+◌, ◌<◌, drop}
use Rattle.spec_plain.specs.Plain.{after_newest, total}
use Rattle.part_lines.specs.ArrayLists.{jobs_of}
use Rattle.part_lines.proofs.RuleLaws.{search_from}
use Rattle.part_boardwords.specs.Words.{word_in, held_jobs}
use Rattle.part_jobwords.proofs.words.JobWords.newest_end.Given as goal

abbrev pub invariant-loop-k : goal.invariant-loop-k
invariant-loop-k l = record {
  found : (d last : ℕ) → search_from d l.batch last l.x (drop l.k (jobs_of (held_jobs (word_in l.self.w.now)))) l.found
      ≡ after_newest d l.batch last 1 (jobs_of (held_jobs (word_in l.self.w.now)));
  points : l.x + total (drop l.k (jobs_of (held_jobs (word_in l.self.w.now)))) ≡ 1 + total (jobs_of (held_jobs (word_in l.self.w.now)));
  above : 0 < l.x;
}
