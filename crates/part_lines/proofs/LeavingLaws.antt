-- Laws of what stays when points leave: the m points from f on.
--   goes_below               a point that leaves is one of them
--   goes_later               a point that stays and is not before them is past them all
--   staying_append           what stays of two parts of a line;  few_stay: no more than there were
--   stays_of, stayed_all      all lines: what stays of a line, by the arrays that hold them
use mathlib.Core.Path.{◌≡◌, refl, sym, ◌∙◌, ap}
use mathlib.Core.Bool.{Bool, true, false, false≢true, cond, ◌&&◌}
use mathlib.Core.List.{List, [], ◌∷◌, ◌++◌, map, append_assoc}
use Prim.Native.Nat.{ℕ, suc, ◌+◌, ◌≤◌, ◌<◌}
use native.Mathlib.Omega.{arith}
use lib.Dec.{leb, ltb}
use lib.ListN.{length}
use native.Mathlib.Decide.{dec_lt}
use borrow.Author.Tests.{ltb-true, lt-ltb, le-leb}
use Rattle.spec_plain.specs.Plain.{goes, new_number, staying}
use Rattle.part_lines.specs.ArrayLists.{line_of, line_from, lines_of, lines_from}
use Rattle.spec_plain.specs.declared.Use.{Use}
use Rattle.part_lines.specs.declared.Line.{Line}

-- ---- points

pub goes_below : (f m x : ℕ) → goes f m x ≡ true → x < f + m
unfolding goes
goes_below f m x e = go (leb f x) e
  where
    go : (b : Bool) → (b && ltb x (f + m)) ≡ true → x < f + m
    go true t = ltb-true x (f + m) t
    go false t = absurd (false≢true t)

pub goes_later : (f m x : ℕ) → goes f m x ≡ false → f ≤ x → f + m ≤ x
unfolding goes
goes_later f m x e h = go (dec_lt x (f + m))
  where
    go : Dec (x < f + m) → f + m ≤ x
    go (no ge) = omega arith
    go (yes lt) =
        let t : (leb f x && ltb x (f + m)) ≡ true = rw (le-leb f x h, lt-ltb x (f + m) lt) in
        absurd (false≢true (sym e ∙ t))

-- ---- a line

module _ (f m : ℕ) where
  pub few_stay : (l : List Use) → length (staying f m l) ≤ length l
  unfolding staying
  few_stay [] = omega arith
  few_stay (u ∷ l) = go (goes f m u.point) (few_stay l)
    where
      moved : Use
      moved = record { point = new_number f m u.point; offset = u.offset; length = u.length }

      go : (b : Bool) → length (staying f m l) ≤ length l → length (cond b [] (moved ∷ []) ++ staying f m l) ≤ suc (length l)
      go true h = omega arith
      go false h = omega arith

  pub staying_append : (l r : List Use) → staying f m (l ++ r) ≡ staying f m l ++ staying f m r
  unfolding staying
  staying_append [] r = refl
  staying_append (u ∷ l) r =
      let here : List Use =
      cond (goes f m u.point) [] (record { point = new_number f m u.point; offset = u.offset; length = u.length } ∷ []) in
      ap (◌++◌ here) (staying_append l r) ∙ sym (append_assoc here (staying f m l) (staying f m r))

  -- ---- all lines

  abbrev pub stays_of : Line → Line
  stays_of q = line_from (staying f m (line_of q))

  pub stayed_all : (ls : List Line) → map stays_of ls ≡ lines_from (map (staying f m) (lines_of ls))
  stayed_all [] = refl
  stayed_all (q ∷ ls) = ap (◌∷◌ (stays_of q)) (stayed_all ls)
