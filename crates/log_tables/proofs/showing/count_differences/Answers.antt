-- Both are sound, and their cells are counted where they lie; or none are.
use Rattle.std.proofs.Common.{arith, ◌∙◌, sym}
use Rattle.part_boardwords.proofs.Lent.{length_lent}
use Rattle.log_tables.proofs.Answers.{lent_sound}
use Rattle.log_tables.proofs.Witnesses.{first_uncounted, second_uncounted, all_counted}
use Rattle.log_tables.proofs.showing.count_differences.Goals as goal
use Rattle.log_tables.proofs.showing.count_differences.Goals.{else-is_sound-via-then-is_sound+else-is_sound-2, else-is_sound-via-else-is_sound}

pub slice_bounds-count_cells-count : goal.slice_bounds-count_cells-count
slice_bounds-count_cells-count c = omega (arith, (lent_sound c.args.a.now (sym c.is_sound.ensures ∙ c.if-is_sound.true)).0)

pub slice_bounds-count_cells-start : goal.slice_bounds-count_cells-start
slice_bounds-count_cells-start c = omega (arith, (lent_sound c.args.a.now (sym c.is_sound.ensures ∙ c.if-is_sound.true)).0)

pub slice_bounds-count_cells-count-then-is_sound-2 : goal.slice_bounds-count_cells-count-then-is_sound-2
slice_bounds-count_cells-count-then-is_sound-2 c = omega (arith, (lent_sound c.args.b.now (sym c.is_sound-then-is_sound.ensures ∙ c.if-is_sound-2.true)).0)

pub slice_bounds-count_cells-start-then-is_sound-2 : goal.slice_bounds-count_cells-start-then-is_sound-2
slice_bounds-count_cells-start-then-is_sound-2 c = omega (arith, (lent_sound c.args.b.now (sym c.is_sound-then-is_sound.ensures ∙ c.if-is_sound-2.true)).0)

pub count_cells-requires : goal.count_cells-requires
count_cells-requires c =
    let first = lent_sound c.args.a.now (sym c.is_sound.ensures ∙ c.if-is_sound.true) in
    let second = lent_sound c.args.b.now (sym c.is_sound-then-is_sound.ensures ∙ c.if-is_sound-2.true) in
    (length_lent c.args.a.now first.0, length_lent c.args.b.now second.0)

pub returns-then-is_sound-2 : goal.returns-then-is_sound-2
returns-then-is_sound-2 c =
    c.count_cells.ensures
    ∙ all_counted c.args.a.now c.args.b.now (sym c.is_sound.ensures ∙ c.if-is_sound.true) (sym c.is_sound-then-is_sound.ensures ∙ c.if-is_sound-2.true)

pub returns-else-is_sound : goal.returns-else-is_sound
returns-else-is_sound c =
    elim c.else-is_sound.branch [
      | else-is_sound-via-then-is_sound+else-is_sound-2 w ↦
          second_uncounted _ _ (sym c.is_sound.ensures ∙ w.if-is_sound.true) (sym w.is_sound-then-is_sound.ensures ∙ w.if-is_sound-2.false)
      | else-is_sound-via-else-is_sound w ↦ first_uncounted _ _ (sym c.is_sound.ensures ∙ w.if-is_sound.false)
    ]
