-- The way from row to row: where the cursor stands after k turns, and that the row there is row k.
--   Rest                     the rows from x on are those of the jobs from a place on: rest_start, rest_here, rest_next
--   Stands                   a cursor stands at row k: stands_first, stands_row, stands_next
--   cursor_fits, cursor_row  on a sound board the cursor next_cursor k turns names a job and a point, and the row there is row k
--   after_point, after_job, row_lent   the cursor moved on, and a row, as the code gives them
use Prim.Native.Nat.{ℕ, zero, suc, ◌+◌, ◌-◌, ◌≤◌, ◌<◌}
use mathlib.Core.Path.{◌≡◌, refl, sym, ◌∙◌, ap}
use mathlib.Core.Bool.{Bool, true, false, ◌&&◌}
use mathlib.Core.List.{List, [], ◌∷◌}
use native.Mathlib.Omega.{arith}
use native.Mathlib.Decide.{dec_lt}
use lib.ListN.{length, get_or, drop}
use lib.Dec.{ltb, leb}
use borrow.Author.Tests.{ltb-false, ltb-true, leb-true, lt-ltb, le-ltb}
use Rattle.spec_plain.specs.Limits.{most_jobs, most_points}
use Rattle.spec_plain.specs.declared.Job.{Job}
use Rattle.spec_plain.specs.Plain.{total}
use Rattle.part_lines.specs.ArrayLists.{jobs_of, no_job}
use Rattle.base_lists.proofs.AllBelow.{both_true}
use Rattle.spec_stn.specs.Table.{earliest, latest}
use Rattle.part_gaps.specs.Cells.{table_of}
use Rattle.part_boardwords.specs.Layout.{count_at, board_size}
use Rattle.part_boardwords.specs.Words.{Words, word_in, settings_read, job_at, held_jobs, cells_read, board_read}
use Rattle.part_boardwords.proofs.Lent.{lent_table, cells_lent}
use Rattle.part_boardwords.proofs.Boards.{held_jobs_lem, held_job, job_next, job_over}
use Rattle.part_sound.specs.Sound.{sound, all_of, sized_job}
use Rattle.part_sound.proofs.Soundness.{sound_sized, sound_each}
use Rattle.call_report.specs.declared.Cursor.{Cursor}
use Rattle.call_report.specs.Rows.{row_of, rows_from, rows_in, rows_of, no_row, next_cursor, cursor}
use Rattle.call_report.proofs.RowLaws.{same_row, row_here, row_on, length_rows}

-- ---- the rows from a job on

-- The rows from x on are those of the jobs from `place` on.
abbrev Rest : List ℕ → List Job → ℕ → ℕ → Type 0
Rest l js x place =
    (k : ℕ) → get_or (rows_in l js) (x + k) no_row ≡ get_or (rows_from (table_of l) place (x + 1) (drop place js)) k no_row

rest_start : (l : List ℕ) (js : List Job) → Rest l js 0 0
unfolding rows_in
rest_start l js k = ap (λ (i : ℕ). get_or (rows_in l js) i no_row) {x = 0 + k} {y = k} (omega arith)

module _ (l : List ℕ) (js : List Job) (x place : ℕ) (j : Job) (next : drop place js ≡ j ∷ drop (place + 1) js) (rest : Rest l js x place) where
  here : (k : ℕ) → get_or (rows_in l js) (x + k) no_row ≡ get_or (rows_from (table_of l) place (x + 1) (j ∷ drop (place + 1) js)) k no_row
  here k = rest k ∙ ap (λ (r : List Job). get_or (rows_from (table_of l) place (x + 1) r) k no_row) next

  rest_here : (k : ℕ) → k < j.points → row_of (table_of l) place k (x + k + 1) ≡ get_or (rows_in l js) (x + k) no_row
  rest_here k h =
      same_row (table_of l) place refl (omega arith) ∙ sym (here k ∙ row_here (table_of l) place (x + 1) j (drop (place + 1) js) k h)

  rest_next : Rest l js (x + j.points) (place + 1)
  rest_next k =
      let p : suc place ≡ place + 1 = omega arith in
      let y : x + 1 + j.points ≡ x + j.points + 1 = omega arith in
      let at : x + (j.points + k) ≡ x + j.points + k = omega arith in
      let left : j.points + k - j.points ≡ k = omega arith in
      rw (← at)
      (here (j.points + k)
      ∙ row_on (table_of l) place (x + 1) j (drop (place + 1) js) (j.points + k) (omega arith)
      ∙ (λ i. get_or (rows_from (table_of l) (p i) (y i) (drop (place + 1) js)) (left i) no_row))

-- ---- the cursor

-- The cursor c stands at row k: x rows come before those of its job, and where there is such a job, its point is one of the job's.
record Stands (w : Words) (k : ℕ) (c : Cursor) : Type 0 where
  x : ℕ
  number : x + c.point ≡ k
  rest : Rest (cells_read w) (jobs_of (held_jobs w)) x c.place
  points : x + total (drop c.place (jobs_of (held_jobs w))) ≡ total (jobs_of (held_jobs w))
  inside : c.place < w count_at → c.point < (job_at w c.place).points

each_some : (H : ℕ) (js : List Job) → all_of (sized_job H) js ≡ true → (p : ℕ) → p < length js → 2 ≤ (get_or js p no_job).points
each_some H [] e p h = absurd (omega arith)
each_some H (j ∷ js) e zero h =
    let sized = (both_true (sized_job H j) (all_of (sized_job H) js) e).0 in
    let points = (both_true (leb 2 j.points && leb j.points 9) (leb j.due H) sized).0 in
    leb-true 2 j.points (both_true (leb 2 j.points) (leb j.points 9) points).0
each_some H (j ∷ js) e (suc p) h = each_some H js (both_true (sized_job H j) (all_of (sized_job H) js) e).1 p (omega arith)

module _ (w : Words) (s : sound (board_read w) ≡ true) where
  few : w count_at ≤ most_jobs
  few = (sound_sized (board_read w) s).count

  -- a job on a sound board has a point
  some : (p : ℕ) → p < w count_at → 0 < (job_at w p).points
  some p h =
      let least = each_some (settings_read w).horizon (jobs_of (held_jobs w)) (sound_each (board_read w) s) p (omega (arith, held_jobs_lem w few)) in
      omega (arith, least, ap (λ (j : Job). j.points) (held_job w few p h))

  stands_first : Stands w 0 (record { place = 0; point = 0 })
  stands_first = record {
    x = 0;
    number = omega arith;
    rest = rest_start (cells_read w) (jobs_of (held_jobs w));
    points = omega arith;
    inside = some 0;
  }

  module _ (k : ℕ) (c : Cursor) (st : Stands w k c) (h : k < total (jobs_of (held_jobs w))) where
    -- past the last job there is no row
    place_fits : c.place < w count_at
    unfolding total
    place_fits = go (dec_lt c.place (w count_at))
      where
        go : Dec (c.place < w count_at) → c.place < w count_at
        go (yes lt) = lt
        go (no ge) = absurd (omega (arith, ap total (job_over w few c.place (omega arith)), st.points, st.number, h))

    next : drop c.place (jobs_of (held_jobs w)) ≡ job_at w c.place ∷ drop (c.place + 1) (jobs_of (held_jobs w))
    next = job_next w few c.place (job_at w c.place) place_fits refl

    stands_row : row_of (table_of (cells_read w)) c.place c.point (k + 1) ≡ get_or (rows_of (board_read w)) k no_row
    stands_row =
        let row = rest_here (cells_read w) (jobs_of (held_jobs w)) st.x c.place (job_at w c.place) next st.rest c.point (st.inside place_fits) in
        rw st.number at row

    stands_next : Stands w (suc k) (next_cursor w c)
    unfolding next_cursor total
    stands_next = go (ltb (c.point + 1) (job_at w c.place).points) refl
      where
        go : (t : Bool) → ltb (c.point + 1) (job_at w c.place).points ≡ t → Stands w (suc k) (next_cursor w c)
        go true e = rw e (record {
          x = st.x;
          number = omega (arith, st.number);
          rest = st.rest;
          points = st.points;
          inside = λ _. ltb-true (c.point + 1) (job_at w c.place).points e;
        })
        go false e =
            let last = ltb-false (c.point + 1) (job_at w c.place).points e in
            rw e (record {
              x = st.x + (job_at w c.place).points;
              number = omega (arith, st.number, last, st.inside place_fits);
              rest = rest_next (cells_read w) (jobs_of (held_jobs w)) st.x c.place (job_at w c.place) next st.rest;
              points = omega (arith, st.points, ap total next);
              inside = some (c.place + 1);
            })

  cursor_stands : (k : ℕ) → k ≤ total (jobs_of (held_jobs w)) → Stands w k (cursor w k)
  unfolding cursor
  cursor_stands zero h = stands_first
  cursor_stands (suc k) h = stands_next k (cursor w k) (cursor_stands k (omega arith)) (omega arith)

  module _ (k : ℕ) (h : k < length (rows_of (board_read w))) where
    within : k < total (jobs_of (held_jobs w))
    within = omega (arith, h, length_rows (cells_read w) (jobs_of (held_jobs w)))

    pub cursor_row : row_of (table_of (cells_read w)) (cursor w k).place (cursor w k).point (k + 1) ≡ get_or (rows_of (board_read w)) k no_row
    cursor_row = stands_row k (cursor w k) (cursor_stands k (omega (arith, within))) within

    pub cursor_fits : (k < 64) × ((cursor w k).place < most_jobs) × ((cursor w k).point < most_points)
    cursor_fits =
        let st = cursor_stands k (omega (arith, within)) in
        let most = (sound_sized (board_read w) s).points in
        (omega (arith, within, most), omega (arith, few, place_fits k (cursor w k) st within), omega (arith, within, most, st.number))

-- ---- as the code gives them

module _ (w : Words) (c : Cursor) (j : Job) (is : j ≡ job_at w c.place) where
  pub after_point : c.point + 1 < j.points → record { place = c.place; point = c.point + 1 } ≡ next_cursor w c
  unfolding next_cursor
  after_point h =
      let points = ap (λ (i : Job). i.points) is in
      rw (lt-ltb (c.point + 1) (job_at w c.place).points (omega (arith, h, points)))

  pub after_job : j.points ≤ c.point + 1 → record { place = c.place + 1; point = 0 } ≡ next_cursor w c
  unfolding next_cursor
  after_job h =
      let points = ap (λ (i : Job). i.points) is in
      rw (le-ltb (c.point + 1) (job_at w c.place).points (omega (arith, h, points)))

-- a row of the table as it is lent
pub row_lent :
    (w : List ℕ) (p k x e f : ℕ) → length w ≡ board_size → e ≡ earliest (table_of (lent_table w)) x → f ≡ latest (table_of (lent_table w)) x
    → record { job = p; point = k; earliest = e; latest = f } ≡ row_of (table_of (cells_read (word_in w))) p k x
row_lent w p k x e f size early late =
    (λ i. record { job = p; point = k; earliest = early i; latest = late i }) ∙ ap (λ (t : List ℕ). row_of (table_of t) p k x) (cells_lent w size)
