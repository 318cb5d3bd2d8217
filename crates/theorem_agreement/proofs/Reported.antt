-- The report: on every sound board, one made by hand too, each row tells the least and the greatest time of its point.
--   rows_many        there is a row for each live point but the origin
--   row_tells        row k is that of point k + 1, with its least and greatest time over the board's timetables
--   report_accepted  accepted exactly when the board is sound and the list long enough
--   report_row       the list after an accepted report: row k in place k;  report_beyond: rows beyond stay unwritten
--   report_in        on words as many as a board has, the answer is that for their board
use mathlib.Core.Path.{◌≡◌, refl, sym, ap, subst, ◌∙◌}
use mathlib.Core.Logic.{◌↔◌}
use mathlib.Core.Bool.{Bool, true, false}
use mathlib.Core.List.{List}
use Prim.Native.Nat.{ℕ, suc, ◌+◌, ◌≤◌, ◌<◌}
use lib.ListN.{length, get_or}
use lib.Dec.{ltb}
use native.Mathlib.Omega.{arith}
use borrow.Author.Tests.{ltb-false, le-ltb, eq-eqb}
use Rattle.base_rulings.specs.declared.Ruling.{Ruling}
use Rattle.base_rulings.specs.declared.Ruling.TheVariants.{Accepted, Refused}
use Rattle.base_rulings.specs.Order.{if_accepted}
use Rattle.base_rulings.specs.Answer.{plain}
use Rattle.base_rulings.proofs.RulingLaws.{refused_no}
use Rattle.spec_plain.specs.Plain.{live_count}
use Rattle.spec_rulebook.specs.Book.{GreatestTime}
use Rattle.spec_stn.specs.Table.{latest}
use Rattle.part_gaps.specs.Cells.{table_of}
use Rattle.part_boardwords.specs.Board.{Board}
use Rattle.part_boardwords.specs.Layout.{board_size}
use Rattle.part_boardwords.specs.Words.{board_in}
use Rattle.part_sound.specs.Sound.{Sound, sound}
use Rattle.part_sound.proofs.Soundness.{sound_to, sound_of}
use Rattle.call_board.specs.Boards.{state_of}
use Rattle.call_report.specs.declared.Row.{Row}
use Rattle.call_report.specs.Rows.{row_of, rows_in, rows_of, no_row, laid, report_ruling, reported, reported_in}
use Rattle.call_report.proofs.Laid.{laid_in, laid_beyond}
use Rattle.call_report.proofs.RowLaws.{found, length_rows}
use Rattle.theorem_demands.proofs.Values.{sim_greatest}
use Rattle.theorem_agreement.specs.Abstract.{Shaped, live_points}
use Rattle.theorem_agreement.specs.Timetables.{Timetable, Tells}
use Rattle.theorem_agreement.proofs.Books.{sound_sim}
use Rattle.theorem_agreement.proofs.Exact.{greatest_over}
use Rattle.theorem_agreement.proofs.Decided.{sound_minimal}

pub rows_many : (b : Board) → suc (length (rows_of b)) ≡ live_points b
unfolding live_count
rows_many b = ap suc (length_rows b.gaps (state_of b).jobs)

module _ (b : Board) (w : Shaped b) (s : Sound b) where
  greatest_time : (x : ℕ) → x < live_points b → GreatestTime (Timetable b) x (latest (table_of b.gaps) x)
  greatest_time x h =
      let same = (sound_sim b w s).holds.same in
      greatest_over (λ u. ((same u).1, (same u).0)) (sim_greatest (sound_sim b w s) x h)

  pub row_tells : (k : ℕ) → k < length (rows_of b) → Tells b (suc k) (get_or (rows_of b) k no_row)
  unfolding rows_in
  row_tells k h =
      let many = length_rows b.gaps (state_of b).jobs in
      let f = found (table_of b.gaps) 0 1 (state_of b).jobs k (omega (arith, h, many)) in
      let live : suc k < live_points b = omega (arith, h, rows_many b) in
      let place : 0 + f.place ≡ f.place = omega arith in
      let number : 1 + k ≡ suc k = omega arith in
      subst (Tells b (suc k)) (sym (f.row ∙ (λ i. row_of (table_of b.gaps) (place i) f.point (number i))))
      (record {
        number = ap suc f.number;
        point = f.inside;
        earliest = (sound_minimal b w s).earliests (suc k) live;
        latest = greatest_time (suc k) live;
      })

-- ---- the report

module _ (b : Board) (l : List Row) where
  pub report_accepted : Shaped b → ((reported b l).ruling ≡ Accepted) ↔ (Sound b × (length (rows_of b) ≤ length l))
  unfolding reported report_ruling
  report_accepted w = (to (sound b) (ltb (length l) (length (rows_of b))) refl refl, back)
    where
      to :
          (t u : Bool) → sound b ≡ t → ltb (length l) (length (rows_of b)) ≡ u → report_ruling b (length l) ≡ Accepted
          → Sound b × (length (rows_of b) ≤ length l)
      to false u e f r = absurd (refused_no (plain 6) (rw e at r))
      to true true e f r = absurd (refused_no (plain 22) (rw (e, f) at r))
      to true false e f r = (sound_to b w.lines e, ltb-false (length l) (length (rows_of b)) f)

      back : Sound b × (length (rows_of b) ≤ length l) → report_ruling b (length l) ≡ Accepted
      back h = rw (sound_of b w.lines h.0, le-ltb (length l) (length (rows_of b)) h.1) refl

  pub report_row :
      Shaped b → Sound b → length (rows_of b) ≤ length l → (k : ℕ) → k < length (rows_of b) → Tells b (suc k) (get_or (reported b l).rows k no_row)
  unfolding reported report_ruling
  report_row w s room k h =
      rw (sound_of b w.lines s, le-ltb (length l) (length (rows_of b)) room)
      (subst (Tells b (suc k)) (sym (laid_in (rows_of b) l k no_row h (omega (arith, h, room)))) (row_tells b w s k h))

  -- whatever the ruling
  pub report_beyond : (k : ℕ) → length (rows_of b) ≤ k → get_or (reported b l).rows k no_row ≡ get_or l k no_row
  unfolding reported
  report_beyond k h = go (report_ruling b (length l))
    where
      go : (r : Ruling) → get_or (if_accepted r (laid (rows_of b) l) l) k no_row ≡ get_or l k no_row
      go Accepted = laid_beyond (rows_of b) l k no_row h
      go (Refused c) = refl

-- ---- on a board that is lent as its words

pub report_in : (w : List ℕ) (l : List Row) → length w ≡ board_size → reported_in w l ≡ reported (board_in w) l
unfolding reported_in
report_in w l h = rw (eq-eqb (length w) board_size h)
