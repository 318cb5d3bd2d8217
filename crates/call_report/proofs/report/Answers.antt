-- `report` meets its contract: where a row is stored, the board is sound and the row one of its rows.
use Rattle.std.proofs.Common.{◌≡◌, ℕ, ◌+◌, length, take, refl, sym, ◌∙◌, ap, add-one, arith}
use Rattle.std.specs.Prelude.{Result}
use Rattle.std.specs.Result.{result_unwrap_or}
use Rattle.base_rulings.specs.declared.Cause.{Cause}
use Rattle.base_rulings.specs.Order.{refusal_of}
use Rattle.part_gaps.specs.Cells.{table_of}
use Rattle.part_boardwords.specs.Words.{word_in, cells_read, board_in}
use Rattle.call_report.specs.declared.Cursor.{Cursor}
use Rattle.call_report.specs.Rows.{row_of, rows_of, laid, next_cursor, cursor}
use Rattle.call_report.proofs.Laid.{laid_none, laid_turn}
use Rattle.call_report.proofs.Answers.{Storing, storing, stores, asked_is}
use Rattle.call_report.proofs.RowByRow.{cursor_row, cursor_fits}
use Rattle.call_report.proofs.report.Goals as goal
use Rattle.call_report.proofs.report.Goals.{In-loop-k}

stored : (c : In-loop-k) → Storing c.args.w.now (length c.args.rows.now) c.loop-k.k
stored c =
    let all = c.unwrap_or-k-end.ensures ∙ ap (λ (r : Result ℕ Cause). result_unwrap_or r 0) c.ask-answer.ensures in
    storing c.args.w.now (length c.args.rows.now) c.loop-k.k (omega (arith, all))

pub loop-k-init : goal.loop-k-init
unfolding cursor
loop-k-init c = record { rows = sym (laid_none (rows_of (board_in c.args.w.now)) c.args.rows.now); at = refl }

pub row_at-requires : goal.row_at-requires
row_at-requires c = ((stored c).size, (stored c).few)

pub offset_bounds-rows-k : goal.offset_bounds-rows-k
offset_bounds-rows-k c = omega (arith, (stored (goal.at.offset_bounds-rows-k c).In-loop-k).few)

pub bounds-rows-k : goal.bounds-rows-k
bounds-rows-k c = omega (arith, (stored (goal.at.bounds-rows-k c).In-loop-k).room)

pub next-at-requires : goal.next-at-requires
next-at-requires c =
    let s = stored (goal.at.next-at-requires c).In-loop-k in
    let fits = cursor_fits (word_in c.args.w.now) s.is c.loop-k.k s.row in
    let at = c.loop-k.invariant.at in
    (s.size, omega (arith, fits.1, ap (λ (a : Cursor). a.place) at), omega (arith, fits.2, ap (λ (a : Cursor). a.point) at))

pub loop-k-preserved : goal.loop-k-preserved
unfolding cursor
loop-k-preserved c =
    let s = stored (goal.at.loop-k-preserved c).In-loop-k in
    let L = c.loop-k in
    let words = word_in c.args.w.now in
    let rows = rows_of (board_in c.args.w.now) in
    let row =
    c.row_at.ensures ∙ ap (λ (a : Cursor). row_of (table_of (cells_read words)) a.place a.point (L.k + 1)) L.invariant.at
    ∙ cursor_row words s.is L.k s.row in record {
      rows = laid_turn rows c.args.rows.now L.rows L.k _ L.invariant.rows row s.row s.room;
      at = c.next-at.ensures ∙ ap (next_cursor words) L.invariant.at ∙ ap (cursor words) (sym (add-one L.k));
    }

pub returns : goal.returns
returns c =
    let A = c.args in
    let is = asked_is A.w.now A.rows.now in
    let answer = c.ask-answer.ensures in
    let all = c.unwrap_or-k-end.ensures ∙ ap (λ (r : Result ℕ Cause). result_unwrap_or r 0) answer in
    let end : c.loop-k.k ≡ stores A.w.now (length A.rows.now) = omega (arith, all) in (
      c.from.ensures ∙ ap (λ (r : Result ℕ Cause). refusal_of r) answer ∙ is.0,
      c.loop-k.invariant.rows ∙ ap (λ (k : ℕ). laid (take k (rows_of (board_in A.w.now))) A.rows.now) end ∙ is.1,
    )
