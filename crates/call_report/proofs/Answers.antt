-- Laws of what a report comes to.
--   rows_few                 a sound board has at most 64 rows
--   sound_words              words that stand for a sound board are as many as a board has, and their board is sound
--   asked_unsound, asked_short, asked_rows   what a report comes to, by the words and the room
--   stores w n               how many rows are stored: all where accepted, else none
--   Storing, storing         row k is stored: the words hold a sound board, that has such a row, and there is room for it
--   asked_is                 with the rows stored, it is what is defined
use Prim.Native.Nat.{ℕ, ◌≤◌, ◌<◌}
use mathlib.Core.Path.{◌≡◌, refl, sym, ◌∙◌, ap}
use mathlib.Core.Bool.{Bool, true, false}
use mathlib.Core.List.{List}
use native.Mathlib.Omega.{arith}
use native.Mathlib.Decide.{ℕ_discrete}
use lib.ListN.{length, take}
use lib.Seq.{take_all}
use lib.Dec.{ltb, eqb}
use borrow.Author.Tests.{ltb-false, lt-ltb, le-ltb, eqb-true, eq-eqb, ne_eqb}
use Rattle.std.specs.Prelude.{Ok, Err}
use Rattle.std.specs.Result.{result_unwrap_or}
use Rattle.base_rulings.specs.declared.Ruling.{Ruling}
use Rattle.base_rulings.specs.declared.Ruling.TheVariants.{Accepted, Refused}
use Rattle.base_rulings.specs.Answer.{plain}
use Rattle.base_rulings.specs.Order.{refusal_of, if_accepted}
use Rattle.spec_plain.specs.Limits.{most_points}
use Rattle.spec_plain.specs.Plain.{total}
use Rattle.part_lines.specs.ArrayLists.{jobs_of}
use Rattle.part_boardwords.specs.Board.{Board}
use Rattle.part_boardwords.specs.Layout.{board_size}
use Rattle.part_boardwords.specs.Words.{word_in, held_jobs, cells_read, board_in, lent_board}
use Rattle.part_sound.specs.Sound.{sound}
use Rattle.part_sound.proofs.Soundness.{sound_sized}
use Rattle.part_sound.proofs.InWords.{lent_is, lent_whole}
use Rattle.call_report.specs.declared.Row.{Row}
use Rattle.call_report.specs.Rows.{rows_of, laid, report_ruling, reported, ruling_in, reported_in, granted, asked}
use Rattle.call_report.proofs.Laid.{laid_none}
use Rattle.call_report.proofs.RowLaws.{length_rows}

-- ---- what a report comes to

pub rows_few : (b : Board) → sound b ≡ true → length (rows_of b) ≤ most_points
rows_few b h = omega (arith, length_rows b.gaps (jobs_of b.jobs), (sound_sized b h).points)

pub sound_words : (w : List ℕ) → sound (lent_board w) ≡ true → (length w ≡ board_size) × (sound (board_in w) ≡ true)
sound_words w e = let whole = lent_whole w e in (whole.0, sym (ap sound whole.1) ∙ e)

module _ (w : List ℕ) (n : ℕ) where
  pub asked_unsound : sound (lent_board w) ≡ false → Err (plain 6) ≡ asked w n
  unfolding asked ruling_in report_ruling
  asked_unsound e = go (ℕ_discrete (length w) board_size)
    where
      go : Dec (length w ≡ board_size) → Err (plain 6) ≡ asked w n
      go (yes size) = rw (eq-eqb (length w) board_size size, sym (ap sound (lent_is w size)) ∙ e)
      go (no other) = rw (ne_eqb (length w) board_size other)

  module _ (pass : sound (lent_board w) ≡ true) (m : ℕ) (many : m ≡ total (jobs_of (held_jobs (word_in w)))) where
    size : length w ≡ board_size
    size = (sound_words w pass).0

    s : sound (board_in w) ≡ true
    s = (sound_words w pass).1

    as_many : m ≡ length (rows_of (board_in w))
    as_many = many ∙ sym (length_rows (cells_read (word_in w)) (jobs_of (held_jobs (word_in w))))

    pub asked_short : n < m → Err (plain 22) ≡ asked w n
    unfolding asked ruling_in report_ruling
    asked_short h = rw (eq-eqb (length w) board_size size, s, lt-ltb n (length (rows_of (board_in w))) (omega (arith, h, as_many)))

    pub asked_rows : m ≤ n → Ok m ≡ asked w n
    unfolding asked ruling_in report_ruling
    asked_rows h =
        rw (eq-eqb (length w) board_size size, s, le-ltb n (length (rows_of (board_in w))) (omega (arith, h, as_many))) (ap Ok as_many)

-- ---- the rows that are stored

abbrev pub stores : List ℕ → ℕ → ℕ
stores w n = result_unwrap_or (asked w n) 0

-- Row k is stored: the words hold a sound board that has such a row, and there is room for it in a list of n.
pub record Storing (w : List ℕ) (n k : ℕ) : Type 0 where
  pub size : length w ≡ board_size
  pub is : sound (board_in w) ≡ true
  pub row : k < length (rows_of (board_in w))
  pub few : k < most_points
  pub room : k < n

module _ (w : List ℕ) (n : ℕ) where
  pub storing : (k : ℕ) → k < stores w n → Storing w n k
  unfolding asked ruling_in report_ruling
  storing k = go (eqb (length w) board_size) refl (sound (board_in w)) refl (ltb n (length (rows_of (board_in w)))) refl
    where
      go :
          (t : Bool) → eqb (length w) board_size ≡ t → (u : Bool) → sound (board_in w) ≡ u → (v : Bool) → ltb n (length (rows_of (board_in w))) ≡ v
          → k < stores w n → Storing w n k
      go false e u f v g h = absurd (omega (arith, rw e at h))
      go true e false f v g h = absurd (omega (arith, rw (e, f) at h))
      go true e true f true g h = absurd (omega (arith, rw (e, f, g) at h))
      go true e true f false g h =
          let row : k < length (rows_of (board_in w)) = rw (e, f, g) at h in
          record {
            size = eqb-true (length w) board_size e;
            is = f;
            row = row;
            few = omega (arith, row, rows_few (board_in w) f);
            room = omega (arith, row, ltb-false n (length (rows_of (board_in w))) g);
          }

-- what is asked, with the rows stored, is what is defined
pub asked_is :
    (w : List ℕ) (l : List Row)
    → (refusal_of (asked w (length l)) ≡ (reported_in w l).ruling)
    × (laid (take (stores w (length l)) (rows_of (board_in w))) l ≡ (reported_in w l).rows)
unfolding asked ruling_in reported_in reported
asked_is w l = go (eqb (length w) board_size) refl
  where
    rows : List Row
    rows = rows_of (board_in w)

    stored :
        (r : Ruling)
        → (refusal_of (granted r (length rows)) ≡ r) × (laid (take (result_unwrap_or (granted r (length rows)) 0) rows) l ≡ if_accepted r (laid rows l) l)
    stored Accepted = (refl, ap (λ (rs : List Row). laid rs l) (take_all (length rows) rows (omega arith)))
    stored (Refused c) = (refl, laid_none rows l)

    go :
        (t : Bool) → eqb (length w) board_size ≡ t
        → (refusal_of (asked w (length l)) ≡ (reported_in w l).ruling) × (laid (take (stores w (length l)) rows) l ≡ (reported_in w l).rows)
    go false e = rw e (refl, laid_none rows l)
    go true e = rw e (stored (report_ruling (board_in w) (length l)))
