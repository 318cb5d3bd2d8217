-- What a sound board gives the code of its calls. Assumes nothing.
--   sized         the jobs are as many as the walks of them ask
--   lines_small   no line holds more than 32;  lined: and each use is short
--   Fits n u      a use of one of the first n points, its offset and length in range
--   fitting       the lines as the plain machine has them: each use fits the live points
--   closed        the table is closed
use Prim.Native.Nat.{ℕ, zero, suc, ◌≤◌, ◌<◌}
use native.Mathlib.Omega.{arith}
use native.Mathlib.Decide.{dec_lt}
use mathlib.Core.Path.{◌≡◌, refl, ap}
use mathlib.Core.Bool.{Bool, true, false}
use mathlib.Core.List.{List, [], ◌∷◌, map}
use lib.ListN.{length, get_or, get_or-eq_default}
use lib.Dec.{ltb}
use borrow.Author.Tests.{ltb-true, ltb-false}
use Rattle.spec_plain.specs.Limits.{resources, most_uses}
use Rattle.spec_plain.specs.declared.Use.{Use}
use Rattle.spec_plain.specs.Plain.{no_use, total}
use Rattle.part_lines.specs.declared.Line.{Line}
use Rattle.part_lines.specs.ArrayLists.{jobs_of, line_of, lines_of, no_line}
use Rattle.part_lines.specs.Asked.{Sized, Short, AllShort, Lined}
use Rattle.part_lines.proofs.Lists.{map_at}
use Rattle.spec_stn.specs.Table.{Closed}
use Rattle.part_gaps.specs.Cells.{table_of}
use Rattle.part_gaps.proofs.GapTable.{cells_of}
use Rattle.part_boardwords.specs.Board.{Board}
use Rattle.part_sound.specs.Sound.{points_of, SizedUse, Sound}
use Rattle.base_lists.specs.All.{All}
use Rattle.base_lists.proofs.All.{all_at, all_from, all_map}

past_end : (l : List Line) (k : ℕ) → length l ≤ k → get_or l k no_line ≡ no_line
past_end [] k h = refl
past_end (x ∷ l) zero h = absurd (omega arith)
past_end (x ∷ l) (suc k) h = past_end l k (omega arith)

pub record Fits (n : ℕ) (u : Use) : Type 0 where
  pub point : u.point < n
  pub offset : u.offset ≤ 1000000
  pub length : u.length ≤ 1000000

module _ (b : Board) (s : Sound b) where
  pub sized : Sized b.jobs
  sized = record { count = s.jobs; points = s.points }

  pub lines_small : length b.lines ≡ resources → (k : ℕ) → (get_or b.lines k no_line).count ≤ most_uses
  lines_small e k = go (ltb k 16) refl
    where
      go : (x : Bool) → ltb k 16 ≡ x → (get_or b.lines k no_line).count ≤ most_uses
      go true q = s.lines k (ltb-true k 16 q)
      go false q = let far = ltb-false k 16 q in rw (past_end b.lines k (omega (arith, e, far))) (omega arith)

  pub closed : Closed (suc (total (jobs_of b.jobs))) (table_of b.gaps)
  closed = (cells_of b.gaps (suc (points_of b)) b.settings.horizon (omega arith) s.horizon.1 s.table).closed

  -- the line of a resource, as the plain machine has it
  line_is : length b.lines ≡ resources → (k : ℕ) → k < resources → get_or (lines_of b.lines) k [] ≡ line_of (get_or b.lines k no_line)
  line_is e k h = map_at line_of b.lines k no_line [] (omega arith)

  length_lines : length (lines_of b.lines) ≡ length b.lines
  length_lines = go b.lines
    where
      go : (l : List Line) → length (map line_of l) ≡ length l
      go [] = refl
      go (x ∷ l) = ap suc (go l)

  pub fitting : length b.lines ≡ resources → All (All (Fits (suc (points_of b)))) (lines_of b.lines)
  fitting e =
      all_from (All (Fits (suc (points_of b)))) (lines_of b.lines) []
      (λ k h. let lt : k < 16 = omega (arith, h, e, length_lines) in
      rw (line_is e k lt)
      (all_map (SizedUse (points_of b)) (Fits (suc (points_of b)))
      (λ u s. record { point = omega (arith, s.live); offset = s.offset; length = s.length })
      (line_of (get_or b.lines k no_line)) (s.uses k lt)))

  short_of : (P : ℕ) (us : List Use) → All (SizedUse P) us → AllShort us
  short_of P us a k = go (dec_lt k (length us))
    where
      go : Dec (k < length us) → Short (get_or us k no_use)
      go (yes h) = let s = all_at (SizedUse P) us no_use a k h in record { offset = s.offset; length = s.length }
      go (no h) = rw (get_or-eq_default us no_use {n = k} (omega arith)) (record { offset = omega arith; length = omega arith })

  pub lined : length b.lines ≡ resources → Lined b.lines
  lined e = record { counts = lines_small e; short = λ i. go i (dec_lt i 16) }
    where
      go : (i : ℕ) → Dec (i < 16) → AllShort (get_or (lines_of b.lines) i [])
      go i (yes h) = rw (line_is e i h) (short_of (points_of b) (line_of (get_or b.lines i no_line)) (s.uses i h))
      go i (no h) =
          rw (get_or-eq_default (lines_of b.lines) [] {n = i} (omega (arith, e, length_lines)))
          (λ k. record { offset = omega arith; length = omega arith })
