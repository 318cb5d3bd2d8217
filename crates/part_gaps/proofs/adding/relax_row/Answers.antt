-- A row that no way across the rule can shorten is left as it is.
use Rattle.part_gaps.proofs.Added.{relaxed_same}
use Rattle.part_gaps.proofs.adding.relax_row.Goals as goal

pub returns-then-t-a : goal.returns-then-t-a
returns-then-t-a c =
    let A = c.args in
    let p = c.requires in
    relaxed_same A.t.now A.row.now A.a A.n A.early A.via A.cut p.t_len.0 p.t_len.1 p.t_len.2 p.by_index_4 c.if-t-a.true
