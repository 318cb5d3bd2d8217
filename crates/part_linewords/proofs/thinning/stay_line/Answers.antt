-- The uses that stay, their count, and 0 behind them (`stay_put`).
use Rattle.std.proofs.Common.{arith}
use Rattle.part_linewords.proofs.Thin.{stay_put}
use Rattle.part_linewords.proofs.thinning.stay_line.Goals as goal

pub returns : goal.returns
returns c =
    let A = c.args in
    let stayed = c.stay_uses-left in
    stay_put A.f A.m A.w.now stayed.new.w _ A.at stayed.result (omega arith) (omega arith) (omega arith) stayed.ensures.size stayed.ensures.words
    c.clear_uses.ensures
