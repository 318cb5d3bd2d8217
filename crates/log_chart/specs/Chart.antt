-- The picture of a board: what it shows, and where. c is the table that the board's cells hold, js its jobs, us a line.
--   job_of js x          the place of the job that the point x belongs to
--   start_time, end_time  when a use starts and ends at its earliest
--   covers c p q u      the use u is under way at some time from p on and before q
--   glyph_of k           the mark of the job at place k
--   glyph_over c js us p q z  the mark of the last of the uses us that covers the times from p on and before q; z where none does
--   first_time, last_time, last_end, lines_end   the least and the largest of a time t and of the earliest times of points or ends of uses
--   left_of, right_of     the span of the picture, from the clock and the table
--   widths, width_of     the round widths of a column, and the narrowest with which the picture has at most 80 columns
--   begin_of left w      where the picture begins, rounded down: a time is written every ten columns
--   scale_of             the span and the width of a board's picture;  column_of s t: the column of a time
-- What the code asks of its arguments, so that no index is out of range and no sum wraps; soundness shows it:
--   OnTable w at        the line whose first word is number `at` has at most 32 uses, each of a point of the table;  AllOnTable w: every line
--   Scaled s            a scale's numbers are small, and a column has a width
use Rattle.std.specs.Prelude.{ℕ, zero, suc, ◌+◌, ◌-◌, ◌*◌, ◌/◌, ◌%◌, ◌≤◌, ◌<◌, min, max, Bool, cond, ◌&&◌, List, [], ◌∷◌, leb, ltb}
use Rattle.spec_plain.specs.Limits.{most_points, resources, most_uses}
use Rattle.spec_plain.specs.declared.Job.{Job}
use Rattle.spec_plain.specs.declared.Use.{Use}
use Rattle.part_lines.specs.declared.Line.{Line}
use Rattle.part_lines.specs.ArrayLists.{line_of}
use Rattle.spec_stn.specs.Table.{Table, earliest}
use Rattle.part_boardwords.specs.Layout.{line_start}
use Rattle.part_boardwords.specs.Words.{Words, use_at}
use Rattle.log_chart.specs.declared.scale.Scale.{Scale}

-- ---- uses

-- "Live points are numbered in job order", from 1: the origin is no job's
unfoldable pub job_of : List Job → ℕ → ℕ
job_of [] x = 0
job_of (j ∷ js) x = cond (leb x j.points) 0 (suc (job_of js (x - j.points)))

-- "An allocation starts at its step's start plus its offset, and ends its length later."
abbrev pub start_time : Table → Use → ℕ
start_time c u = earliest c u.point + u.offset

abbrev pub end_time : Table → Use → ℕ
end_time c u = start_time c u + u.length

abbrev pub covers : Table → ℕ → ℕ → Use → Bool
covers c p q u = ltb (start_time c u) q && ltb p (end_time c u)

-- 0 to 9, then a to f
abbrev pub glyph_of : ℕ → ℕ
glyph_of k = cond (ltb k 10) (48 + k) (87 + k)

unfoldable pub glyph_over : Table → List Job → List Use → ℕ → ℕ → ℕ → ℕ
glyph_over c js [] p q z = z
glyph_over c js (u ∷ us) p q z = glyph_over c js us p q (cond (covers c p q u) (glyph_of (job_of js u.point)) z)

-- ---- the span

-- of the points 1 to n
unfoldable pub first_time : Table → ℕ → ℕ → ℕ
first_time c zero t = t
first_time c (suc n) t = min (first_time c n t) (earliest c (suc n))

unfoldable pub last_time : Table → ℕ → ℕ → ℕ
last_time c zero t = t
last_time c (suc n) t = max (last_time c n t) (earliest c (suc n))

unfoldable pub last_end : Table → List Use → ℕ → ℕ
last_end c [] t = t
last_end c (u ∷ us) t = last_end c us (max t (end_time c u))

unfoldable pub lines_end : Table → List Line → ℕ → ℕ
lines_end c [] t = t
lines_end c (l ∷ ls) t = lines_end c ls (last_end c (line_of l) t)

-- the clock and the earliest time of every live point are in the picture, and at the right the end of every use
abbrev pub left_of : Table → ℕ → ℕ → ℕ
left_of c n clock = first_time c n clock

abbrev pub right_of : Table → ℕ → List Line → ℕ → ℕ
right_of c n ls clock = lines_end c ls (last_time c n clock)

-- ---- the scale

-- 1, 2, 5, 10, 20, 50, .. ms
abbrev pub widths : List ℕ
widths =
    1 ∷ 2 ∷ 5 ∷ 10 ∷ 20 ∷ 50 ∷ 100 ∷ 200 ∷ 500 ∷ 1000 ∷ 2000 ∷ 5000 ∷ 10000 ∷ 20000 ∷ 50000 ∷ 100000 ∷ 200000 ∷ 500000 ∷ 1000000 ∷ 2000000 ∷ []

abbrev pub begin_of : ℕ → ℕ → ℕ
begin_of left w = left - left % (10 * w)

abbrev pub fits : ℕ → ℕ → ℕ → Bool
fits left right w = ltb right (begin_of left w + 80 * w)

-- the first of the widths ws that fits; where none does, the widest
unfoldable pub first_fit : ℕ → ℕ → List ℕ → ℕ
first_fit left right [] = 2000000
first_fit left right (w ∷ ws) = cond (fits left right w) w (first_fit left right ws)

abbrev pub width_of : ℕ → ℕ → ℕ
width_of left right = first_fit left right widths

abbrev pub scaled : ℕ → ℕ → ℕ → Scale
scaled left right w = record { begin = begin_of left w; end = right; column = w }

unfoldable pub scale_of : Table → ℕ → List Line → ℕ → Scale
scale_of c n ls clock =
    scaled (left_of c n clock) (right_of c n ls clock) (width_of (left_of c n clock) (right_of c n ls clock))

-- columns are numbered from 0 to 79
abbrev pub column_of : Scale → ℕ → ℕ
column_of s t = min ((t - s.begin) / s.column) 79

-- ---- what the code asks

pub record OnTable (w : Words) (at : ℕ) : Type 0 where
  pub count : w at ≤ most_uses
  pub points : (k : ℕ) → k < w at → (use_at w at k).point ≤ most_points

abbrev pub AllOnTable : Words → Type 0
AllOnTable w = (k : ℕ) → k < resources → OnTable w (line_start k)

pub record Scaled (s : Scale) : Type 0 where
  pub begin : s.begin ≤ 4294967295
  pub some : 1 ≤ s.column
  pub column : s.column ≤ 2000000
