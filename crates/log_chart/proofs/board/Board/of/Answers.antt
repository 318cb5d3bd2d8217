-- What a sound board has is what drawing needs. Assumes nothing.
use Rattle.std.proofs.Common.{refl, arith}
use Rattle.spec_plain.specs.Limits.{resources}
use Rattle.base_lists.proofs.Build.{build_length}
use Rattle.part_boardwords.specs.Words.{word_in, line_at, board_in}
use Rattle.part_boardwords.proofs.Lent.{cells_lent, length_lent}
use Rattle.part_sound.proofs.Soundness.{sound_sized, sound_few, sound_to}
use Rattle.log_chart.proofs.ChartLaws.{job_some, on_table}
use Rattle.log_chart.proofs.board.Board.of.Goals as goal

pub points_in-points-requires : goal.points_in-points-requires
points_in-points-requires c =
    let b = board_in c.args.w.now in
    (omega arith, (sound_sized b c.requires.1).count, sound_few b c.requires.1)

pub invariant_of-result : goal.invariant_of-result
invariant_of-result c =
    let w = c.args.w.now in
    let b = board_in w in
    let sound = sound_to b (build_length (line_at (word_in w)) resources) c.requires.1 in
    let jobs = sound_sized b c.requires.1 in
    record {
      words = c.requires.0;
      table = length_lent w c.requires.0;
      few = omega (arith, jobs.points);
      jobs = jobs;
      some = λ k lt. job_some (word_in w) _ jobs.count sound.sizes k _ lt refl;
      lines = on_table (word_in w) sound;
    }

pub returns : goal.returns
returns c = (refl, cells_lent c.args.w.now c.requires.0, c.points_in-points.ensures)
