-- `all` asks the closure of each line.
use Rattle.std.proofs.Common.{rules, refl, ◌∙◌}
use Rattle.spec_plain.specs.Limits.{resources}
use Rattle.part_lines.specs.ArrayLists.{no_line}
use Rattle.base_lists.proofs.Build.{build_length}
use Rattle.part_boardwords.specs.Words.{word_in, line_at, lines_read}
use Rattle.part_boardwords.proofs.Boards.{line_of_lem}
use Rattle.part_boardwords.proofs.Tests.{all_range}
use Rattle.part_sound.specs.Sound.{sized_line}
use Rattle.part_sound.proofs.Flags.{all_each}
use Rattle.part_sound.proofs.lining.are_lines_sized.Goals as goal

pub returns : goal.returns
returns c =
    let w = word_in c.args.w.now in
    let sized = sized_line c.args.n in
    all_range (λ k. sized (line_at w k)) resources _ _ _ _ refl c.all.ensures.ran (λ k y q called. search rules)
    ∙ all_each sized no_line (lines_read w) (line_at w) resources (build_length (line_at w) resources) (line_of_lem w)
