-- `all` asks the closure of each point, by the two cells that it has with the origin.
use Rattle.std.proofs.Common.{rules, arith, refl, ◌+◌, ◌*◌, get_or, eqb}
use Rattle.spec_plain.specs.Limits.{side}
use Rattle.spec_stn.specs.Table.{bias}
use Rattle.part_gaps.specs.Cells.{cell}
use Rattle.part_gaps.proofs.Overlaid.{origin_row, origin_column}
use Rattle.part_boardwords.proofs.Tests.{all_between}
use Rattle.part_sound.specs.Sound.{stand_still}
use Rattle.part_sound.proofs.sent.stand_still.Goals as goal

pub returns : goal.returns
unfolding stand_still
returns c =
    let t = c.args.t.now in
    let x = c.args.x in
    all_between (λ i. eqb (get_or t i 0 + get_or t (i * side) 0) (bias + bias)) (λ k. eqb (cell t 0 (x + k) + cell t (x + k) 0) (bias + bias)) x _ c.args.m _ _ _ _
    refl (omega arith) (λ k h. rw (origin_row t (x + k), origin_column t (x + k)) refl) c.all.ensures.ran (λ k y q called. search rules)
