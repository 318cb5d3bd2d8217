-- With 16 jobs the first half of 14 holds, with fewer the second decides.
use Rattle.std.proofs.Common.{ℕ, ◌+◌, ap, ◌∙◌, arith}
use lib.Dec.{ltb}
use Rattle.spec_plain.specs.Limits.{most_points}
use Rattle.part_lines.specs.ArrayLists.{jobs_of}
use Rattle.part_lines.proofs.JobLaws.{full_jobs, full_points}
use Rattle.part_boardwords.specs.Words.{word_in, held_jobs}
use Rattle.part_boardwords.proofs.Boards.{held_jobs_lem}
use Rattle.part_jobwords.proofs.words.JobWords.is_full.Goals as goal

pub returns-then-self : goal.returns-then-self
returns-then-self c s e =
    let w = word_in c.args.self.w.now in
    full_jobs s (jobs_of (held_jobs w)) e c.args.m (omega (arith, held_jobs_lem w c.args.self.sized.count))

pub returns : goal.returns
returns c s e =
    let w = word_in c.args.self.w.now in
    ap (λ (x : ℕ). ltb most_points (x + c.args.m)) c.requires.0
    ∙ full_points s (jobs_of (held_jobs w)) e c.args.m (omega (arith, held_jobs_lem w c.args.self.sized.count))
