-- The rule that is added is the one of the two that can change a cell.
use Rattle.part_settling.proofs.Frozen.{asked, frozen_one}
use Rattle.part_settling.proofs.freezing.freeze_point.Goals as goal

pub add_new-requires : goal.add_new-requires
add_new-requires c =
    let p = c.requires in
    let a = asked _ p.1 c.args.t.now p.0 p.3 _ _ p.2 c.earliest-time.ensures _ c.not_after.ensures in
    record { t_len = a.0; closed = a.1 }

pub returns : goal.returns
returns c =
    let p = c.requires in
    frozen_one _ p.1 c.args.t.now p.0 p.3 _ _ p.2 c.earliest-time.ensures _ c.not_after.ensures _ c.add_new.ensures
