-- After k turns the first k rows are laid over the list, and the cursor stands at row k.
use Rattle.std.proofs.Common.{◌≡◌, take}
use Rattle.part_boardwords.specs.Words.{word_in, board_in}
use Rattle.call_report.specs.Rows.{rows_of, laid, cursor}
use Rattle.call_report.proofs.report.Given as goal

abbrev pub invariant-loop-k : goal.invariant-loop-k
invariant-loop-k l = record {
  rows : l.rows ≡ laid (take l.k (rows_of (board_in l.w))) l.initial.rows;
  at : l.at ≡ cursor (word_in l.w) l.k;
}
