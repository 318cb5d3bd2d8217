-- The loop keeps whether the sent jobs passed stand still, and the first point of the next job: with the points of the jobs to come it is one more
-- than all points, so no index is out of range.
use Rattle.std.proofs.Common.{◌≡◌, ◌+◌, ◌&&◌, drop}
use Rattle.spec_plain.specs.Plain.{total}
use Rattle.part_lines.specs.ArrayLists.{jobs_of}
use Rattle.part_boardwords.specs.Words.{word_in, held_jobs}
use Rattle.part_sound.specs.Sound.{still_sent}
use Rattle.part_sound.proofs.sent.is_sent_still.Given as goal

abbrev pub invariant-loop-k : goal.invariant-loop-k
invariant-loop-k l = record {
  still : (l.ok && still_sent l.t l.x (drop l.k (jobs_of (held_jobs (word_in l.w))))) ≡ still_sent l.t 1 (jobs_of (held_jobs (word_in l.w)));
  points : l.x + total (drop l.k (jobs_of (held_jobs (word_in l.w)))) ≡ 1 + total (jobs_of (held_jobs (word_in l.w)));
}
