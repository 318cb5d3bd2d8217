-- No such row, no such point, no board; or the difference of two cells.
use Rattle.std.proofs.Common.{◌∙◌}
use Rattle.log_tables.proofs.Witnesses.{no_row, no_point, no_board, time_is}
use Rattle.log_tables.proofs.showing.witness_time.Goals as goal
use Rattle.log_tables.proofs.showing.witness_time.Goals.{
  then-i-ge-SIDE-via-then-i-ge-SIDE,
  then-i-ge-SIDE-via-else-i-ge-SIDE+then-k-ge-SIDE,
  then-i-ge-SIDE-via-else-i-ge-SIDE+else-k-ge-SIDE+then-w-ne-BOARD_WORDS,
}

pub returns-then-i-ge-SIDE : goal.returns-then-i-ge-SIDE
returns-then-i-ge-SIDE c =
    elim c.then-i-ge-SIDE.branch [
      | then-i-ge-SIDE-via-then-i-ge-SIDE w ↦ no_row _ _ _ w.if-i-ge-SIDE.true
      | then-i-ge-SIDE-via-else-i-ge-SIDE+then-k-ge-SIDE w ↦ no_point _ _ _ w.if-i-ge-SIDE.false w.if-k-ge-SIDE.true
      | then-i-ge-SIDE-via-else-i-ge-SIDE+else-k-ge-SIDE+then-w-ne-BOARD_WORDS w ↦
          no_board _ _ _ w.if-i-ge-SIDE.false w.if-k-ge-SIDE.false w.if-w-ne-BOARD_WORDS.true
    ]

pub returns : goal.returns
returns c =
    c.saturating_sub.ensures
    ∙ time_is c.args.w.now c.args.i c.args.k c.if-i-ge-SIDE.false c.if-k-ge-SIDE.false c.if-w-ne-BOARD_WORDS.false c.cell_at.ensures c.cell_at-2.ensures
