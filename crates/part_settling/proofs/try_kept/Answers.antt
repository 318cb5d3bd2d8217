-- The table with its new points is closed, so that rules can be tried on it. Where one does not agree, the cells of the live rows are put back.
use Rattle.std.proofs.Common.{ℕ, ◌+◌, ◌*◌, ◌∙◌, ap, List, get_or, length, arith}
use Rattle.spec_plain.specs.Limits.{side}
use Rattle.base_lists.proofs.Parts.{front_copied}
use Rattle.part_gaps.proofs.Grown.{grown_length, grown_past}
use Rattle.part_gaps.proofs.GapTable.{grown_closed}
use Rattle.part_settling.specs.Settled.{added_all}
use Rattle.part_settling.proofs.Adding.{not_added, put_back}
use Rattle.part_settling.proofs.try_kept.Goals as goal

pub add_all-requires-clause-t_len : goal.add_all-requires-clause-t_len
add_all-requires-clause-t_len g c =
    let p = c.requires.t_len in
    let A = c.args in
    let e = c.grow.ensures in
    (ap length e ∙ grown_length A.t.now A.n A.m A.most p.0 p.2, p.2, rw e (grown_closed A.t.now A.n A.m A.most p.0 p.1 p.2 p.3 p.4))

pub returns-clause-tried : goal.returns-clause-tried
returns-clause-tried g c =
    let A = c.args in
    not_added _ _ _ (c.add_all.ensures.tried ∙ ap (added_all A.rules.now (A.n + A.m)) c.grow.ensures) c.if-add_all.false _

pub returns-clause-kept : goal.returns-clause-kept
returns-clause-kept g c e =
    let A = c.args in
    let p = c.requires.t_len in
    let old = c.first_cells-old.result in
    let live = (A.n + A.m) * side in
    put_back A.t.now old c.add_all.new.t _ g.row.N live c.first_cells-old.ensures.first c.requires.live_kept.0 (omega arith)
    (λ k h. c.add_all.ensures.rest k h ∙ ap (λ (l : List ℕ). get_or l k 0) c.grow.ensures ∙ grown_past A.t.now A.n A.m A.most p.0 p.2 k h)
    (front_copied _ _ _ _ c.copy_from_slice.ensures.after (omega arith) (omega arith))
