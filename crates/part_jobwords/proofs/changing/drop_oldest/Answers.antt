-- The other jobs are moved down, the count stored, and all words behind them cleared (`left_front`).
use Rattle.std.proofs.Common.{◌-◌, get_or, arith}
use Rattle.part_boardwords.specs.Layout.{count_at}
use Rattle.part_jobwords.proofs.Changes.{left_front}
use Rattle.part_jobwords.proofs.changing.drop_oldest.Goals as goal

pub returns : goal.returns
returns c =
    let w = c.args.w.now in
    left_front w c.move_jobs_down.new.w _ (get_or w count_at 0 - 1) (omega arith) (omega arith) (omega arith) c.requires.3 c.move_jobs_down.ensures
    c.clear_jobs.ensures
