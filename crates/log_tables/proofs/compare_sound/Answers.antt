-- The points, then the cells where they lie.
use Rattle.std.proofs.Common.{arith, ◌∙◌}
use Rattle.part_boardwords.specs.Words.{board_in}
use Rattle.part_boardwords.proofs.Lent.{cells_lent, length_lent}
use Rattle.part_sound.proofs.Soundness.{sound_sized, sound_few}
use Rattle.log_tables.specs.Compared.{compared_cells}
use Rattle.log_tables.proofs.Answers.{other_points, by_cells}
use Rattle.log_tables.proofs.compare_sound.Goals as goal

pub points_in-n-requires : goal.points_in-n-requires
points_in-n-requires c =
    let a = board_in c.args.a.now in
    let p = c.requires.a_len in
    (omega arith, (sound_sized a p.1).count, sound_few a p.1)

pub overflow_add-n : goal.overflow_add-n
overflow_add-n c = omega (arith, (sound_sized (board_in c.args.a.now) c.requires.a_len.1).points)

pub points_in-m-requires : goal.points_in-m-requires
points_in-m-requires c =
    let b = board_in c.args.b.now in
    let p = c.requires.b_len in
    (omega arith, (sound_sized b p.1).count, sound_few b p.1)

pub overflow_add-m : goal.overflow_add-m
overflow_add-m c = omega (arith, (sound_sized (board_in c.args.b.now) c.requires.b_len.1).points)

pub returns-then-n-m : goal.returns-then-n-m
returns-then-n-m c =
    other_points (board_in c.args.a.now) (board_in c.args.b.now) c.requires.a_len.1 c.requires.b_len.1 c.points_in-n.ensures c.points_in-m.ensures c.if-n-m.true

pub compare_cells-requires : goal.compare_cells-requires
compare_cells-requires c = (length_lent c.args.a.now c.requires.a_len.0, length_lent c.args.b.now c.requires.b_len.0)

pub returns : goal.returns
returns c =
    let a = c.args.a.now in
    let b = c.args.b.now in
    let p = c.requires.a_len in
    let q = c.requires.b_len in
    c.compare_cells.ensures
    ∙ (λ i. compared_cells (cells_lent a p.0 i) (cells_lent b q.0 i))
    ∙ by_cells (board_in a) (board_in b) p.1 q.1 c.points_in-n.ensures c.points_in-m.ensures c.if-n-m.false
