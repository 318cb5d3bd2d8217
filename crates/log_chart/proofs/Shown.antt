-- Each time that the picture of a sound board has to show has a column: the widest columns are wide enough.
--   last_most, end_most, lines_most   no earliest time and no end of a use is after 102,000,000
--   fit_most                          so some width fits
--   shown                             and no time up to the right end of the span is past column 79
use Prim.Native.Nat.{ℕ, zero, suc, ◌+◌, ◌*◌, ◌≤◌, ◌<◌}
use mathlib.Core.Path.{◌≡◌, refl}
use mathlib.Core.Bool.{Bool, true, false}
use mathlib.Core.List.{List, [], ◌∷◌}
use native.Mathlib.Omega.{arith}
use lib.ListN.{length, get_or}
use borrow.Author.Tests.{lt-ltb, ltb-true}
use Rattle.spec_plain.specs.Limits.{resources}
use Rattle.spec_plain.specs.declared.Use.{Use}
use Rattle.part_lines.specs.declared.Line.{Line}
use Rattle.part_lines.specs.ArrayLists.{line_of, no_line}
use Rattle.base_lists.specs.All.{All}
use Rattle.spec_stn.specs.Table.{Table, earliest}
use Rattle.part_gaps.specs.Cells.{table_of}
use Rattle.part_boardwords.specs.Board.{Board}
use Rattle.part_sound.specs.Sound.{Sound, SizedUse, points_of}
use Rattle.log_chart.specs.Chart.{begin_of, first_fit, fits, last_end, last_time, left_of, lines_end, right_of, scale_of, width_of, widths}

abbrev most : ℕ
most = 102000000

module _ (c : Table) where
  earliest_most : (x : ℕ) → earliest c x ≤ 100000000
  unfolding earliest
  earliest_most x = omega arith

  last_most : (n t : ℕ) → t ≤ most → last_time c n t ≤ most
  unfolding last_time
  last_most zero t h = h
  last_most (suc n) t h = omega (arith, last_most n t h, earliest_most (suc n))

  end_most : (n : ℕ) (us : List Use) (t : ℕ) → All (SizedUse n) us → t ≤ most → last_end c us t ≤ most
  unfolding last_end
  end_most n [] t sized h = h
  end_most n (u ∷ us) t sized h =
      end_most n us _ sized.1 (omega (arith, earliest_most u.point, sized.0.offset, sized.0.length))

  lines_most :
      (n : ℕ) (ls : List Line) (t : ℕ) → ((k : ℕ) → k < length ls → All (SizedUse n) (line_of (get_or ls k no_line))) → t ≤ most
      → lines_end c ls t ≤ most
  unfolding lines_end
  lines_most n [] t sized h = h
  lines_most n (l ∷ ls) t sized h =
      lines_most n ls _ (λ k lt. sized (suc k) (omega arith)) (end_most n (line_of l) t (sized zero (omega arith)) h)

fit_most : (left right : ℕ) (ws : List ℕ) → right ≤ most → fits left right (first_fit left right ws) ≡ true
unfolding first_fit
fit_most left right [] h = lt-ltb right (begin_of left 2000000 + 80 * 2000000) (omega arith)
fit_most left right (w ∷ ws) h = go (fits left right w) refl (fit_most left right ws h)
  where
    go : (t : Bool) → fits left right w ≡ t → fits left right (first_fit left right ws) ≡ true
        → fits left right (first_fit left right (w ∷ ws)) ≡ true
    go true e rest = rw e e
    go false e rest = rw e rest

pub shown :
    (b : Board) → length b.lines ≡ resources → Sound b → (t : ℕ)
    → let s = scale_of (table_of b.gaps) (points_of b) b.lines b.clock in
    t ≤ s.end → t < s.begin + 80 * s.column
unfolding scale_of
shown b size s t h =
    let c = table_of b.gaps in
    let n = points_of b in
    let left = left_of c n b.clock in
    let right = right_of c n b.lines b.clock in
    let last = last_most c n b.clock (omega (arith, s.clock, s.horizon.1)) in
    let few : right ≤ most = lines_most c n b.lines (last_time c n b.clock) (λ k lt. s.uses k (omega arith)) last in
    let fit = ltb-true right (begin_of left (width_of left right) + 80 * width_of left right) (fit_most left right widths few) in
    omega (arith, fit, h)
