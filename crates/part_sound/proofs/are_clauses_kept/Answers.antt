-- Clause by clause: the numbers, how many jobs, each job, and then the others.
use Rattle.std.proofs.Common.{arith, ◌≡◌, ◌≤◌, true}
use Rattle.std.proofs.lemmas.Grind.{common_steps}
use Rattle.spec_plain.specs.Limits.{most_jobs}
use Rattle.part_lines.specs.ArrayLists.{jobs_of}
use Rattle.part_boardwords.specs.Layout.{horizon_at, count_at}
use Rattle.part_boardwords.specs.Words.{word_in, held_jobs}
use Rattle.part_sound.specs.Sound.{all_of, sized_job, sized_jobs, clauses_kept}
use Rattle.part_sound.proofs.Soundness.{few_points_lem}
use Rattle.part_sound.proofs.are_clauses_kept.Goals as goal

pub points_in-requires : goal.points_in-requires
points_in-requires c =
    let w = word_in c.args.w.now in
    let few : w count_at ≤ most_jobs = grind (arith, common_steps) in
    let each : all_of (sized_job (w horizon_at)) (jobs_of (held_jobs w)) ≡ true = grind (arith, common_steps) in
    (c.requires.0, few, few_points_lem (w horizon_at) (jobs_of (held_jobs w)) each)

pub returns-else-is_each_sized : goal.returns-else-is_each_sized
unfolding sized_jobs clauses_kept
returns-else-is_each_sized c = grind (arith, common_steps)
