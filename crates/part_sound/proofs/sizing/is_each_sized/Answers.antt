-- `all` asks the closure of each job in use.
use Rattle.std.proofs.Common.{rules, refl, ◌∙◌}
use Rattle.part_lines.specs.ArrayLists.{jobs_of, no_job}
use Rattle.part_boardwords.specs.Layout.{count_at}
use Rattle.part_boardwords.specs.Words.{word_in, job_at, held_jobs}
use Rattle.part_boardwords.proofs.Boards.{held_jobs_lem, held_job}
use Rattle.part_boardwords.proofs.Tests.{all_range}
use Rattle.part_sound.specs.Sound.{sized_job}
use Rattle.part_sound.proofs.Flags.{all_each}
use Rattle.part_sound.proofs.sizing.is_each_sized.Goals as goal

pub returns : goal.returns
returns c =
    let w = word_in c.args.w.now in
    let sized = sized_job c.args.horizon in
    let few = c.requires.1 in
    all_range (λ k. sized (job_at w k)) (w count_at) _ _ _ _ refl c.all.ensures.ran (λ k y q called. search rules)
    ∙ all_each sized no_job (jobs_of (held_jobs w)) (job_at w) (w count_at) (held_jobs_lem w few) (held_job w few)
