-- A table that grew by no point is the table.
use Rattle.std.proofs.Common.{◌≡◌, ◌+◌, sym, ◌∙◌, ap₂, arith}
use Rattle.part_gaps.proofs.Grown.{grown_none}
use Rattle.part_settling.specs.Settled.{added_all}
use Rattle.part_settling.proofs.try_rules.Goals as goal

pub returns-clause-tried : goal.returns-clause-tried
returns-clause-tried c =
    let A = c.args in
    let p = c.requires.t_len in
    let same : A.n + 0 ≡ A.n = omega arith in
    c.try_grown.ensures.tried ∙ ap₂ (added_all A.rules.now) same (sym (grown_none A.t.now A.n 0 p.0 p.2))
