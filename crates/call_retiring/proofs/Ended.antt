-- Laws of the test that points that leave are over by the clock c.
--   ends_stays, ends_goes      a use of a point that stays, and of one that leaves
--   ends_split, lines_split    the first of a line's uses and the others; the first line and the others
--   uses_end, lines_end          the tests of a list of uses, and of lines
--   uses_next, uses_stop, uses_end_lem   the loop over the uses of a line;  lines_next, lines_stop, lines_end_lem: over the lines
--   last_late, last_over       the last point after the clock, and by it
--   read_at, read_next         a use of a line read where it lies, in words
--   lined_read                 what is asked of a line of a board's words;  read_line_next, _stops, _end: the loop over them
use mathlib.Core.Path.{◌≡◌, refl, sym, ◌∙◌, ap, subst}
use mathlib.Core.Bool.{Bool, true, false, cond, ◌&&◌, and-true}
use mathlib.Core.List.{List, [], ◌∷◌, append-nil}
use Prim.Native.Nat.{ℕ, ◌+◌, ◌≤◌, ◌<◌}
use native.Mathlib.Omega.{arith}
use native.Mathlib.Numerals.{add-one}
use lib.Dec.{leb}
use lib.ListN.{length, get_or, drop, drop_of_length-le}
use lib.Seq.{drop-cons, get_or-take}
use borrow.Author.Tests.{le-leb, lt-leb}
use Rattle.spec_plain.specs.Limits.{resources, most_uses}
use Rattle.spec_plain.specs.declared.Settings.{Settings}
use Rattle.spec_plain.specs.declared.Rule.{Rule}
use Rattle.spec_plain.specs.declared.Use.{Use}
use Rattle.spec_plain.specs.Plain.{no_use, goes, over_by, end_of, ends_by, all_end_by}
use Rattle.part_lines.specs.declared.Line.{Line}
use Rattle.part_lines.specs.ArrayLists.{line_of, lines_of, no_line}
use Rattle.part_lines.specs.Asked.{AllShort, Lined}
use Rattle.part_lines.proofs.Lists.{held_next}
use Rattle.part_boardwords.specs.Layout.{line_start}
use Rattle.part_boardwords.specs.Words.{Words, use_at, uses_read, line_read, line_at, lines_read}
use Rattle.part_boardwords.proofs.Boards.{line_of_lem, line_count, line_held}
use Rattle.base_lists.proofs.Build.{build_length, build_at}
use Rattle.spec_stn.specs.Table.{bias, entails_all}
use Rattle.spec_stn.proofs.Fits.{implied_append}
use Rattle.part_gaps.specs.Cells.{cell, table_of}
use Rattle.part_gaps.proofs.Overlaid.{origin_row}

-- ---- a loop that goes down a list and stops at the first that fails. Its invariant: the test of what is left is the test of the whole list

module _
    {A : Type 0} (one : A → Bool) (all : List A → Bool) (split : (a : A) (l : List A) → all (a ∷ l) ≡ (one a && all l)) (l : List A) (k : ℕ)
    (is : all (drop k l) ≡ all l) where
  here : (a : A) → drop k l ≡ a ∷ drop (k + 1) l → (one a && all (drop (k + 1) l)) ≡ all l
  here a e = sym (split a (drop (k + 1) l)) ∙ ap all (sym e) ∙ is

  goes_on : (a : A) → drop k l ≡ a ∷ drop (k + 1) l → one a ≡ true → all (drop (k + 1) l) ≡ all l
  goes_on a e y = ap (λ (b : Bool). b && all (drop (k + 1) l)) (sym y) ∙ here a e

  stops : (a : A) → drop k l ≡ a ∷ drop (k + 1) l → one a ≡ false → false ≡ all l
  stops a e n = ap (λ (b : Bool). b && all (drop (k + 1) l)) (sym n) ∙ here a e

  ends : drop k l ≡ [] → all [] ≡ true → true ≡ all l
  ends e z = sym z ∙ ap all (sym e) ∙ is

-- ---- the test

module _ (l : List ℕ) (s : Settings) (c f m : ℕ) where
  abbrev pub uses_end : List Use → Bool
  uses_end us = entails_all (table_of l) (ends_by s c f m us)

  abbrev pub lines_end : List Line → Bool
  lines_end ls = entails_all (table_of l) (all_end_by s c f m (lines_of ls))

  pub ends_stays : (u : Use) → goes f m u.point ≡ false → true ≡ uses_end (u ∷ [])
  unfolding ends_by entails_all
  ends_stays u e = rw e

  pub ends_goes :
      (u : Use) → goes f m u.point ≡ true
      → leb (get_or l u.point 0 + end_of s u) (bias + c) ≡ uses_end (u ∷ [])
  unfolding ends_by over_by entails_all
  ends_goes u e = rw (e, origin_row l u.point, and-true)

  ends_split :
      (u : Use) (us : List Use) → uses_end (u ∷ us) ≡ (uses_end (u ∷ []) && uses_end us)
  unfolding ends_by
  ends_split u us =
      let here : List Rule = cond (goes f m u.point) (over_by u.point (end_of s u) c ∷ []) [] in
      implied_append (table_of l) here (ends_by s c f m us)
      ∙ ap (λ (rs : List Rule). entails_all (table_of l) rs && entails_all (table_of l) (ends_by s c f m us)) (sym (append-nil here))

  lines_split :
      (q : Line) (ls : List Line) → lines_end (q ∷ ls) ≡ (uses_end (line_of q) && lines_end ls)
  unfolding all_end_by
  lines_split q ls = implied_append (table_of l) (ends_by s c f m (line_of q)) (all_end_by s c f m (lines_of ls))

  -- ---- the loops

  module _ (us : List Use) (k : ℕ) (is : uses_end (drop k us) ≡ uses_end us) where
    pub uses_next : (u : Use) → drop k us ≡ u ∷ drop (k + 1) us → uses_end (u ∷ []) ≡ true → uses_end (drop (k + 1) us) ≡ uses_end us
    uses_next = goes_on (λ u. uses_end (u ∷ [])) uses_end ends_split us k is

    pub uses_stop : (u : Use) → drop k us ≡ u ∷ drop (k + 1) us → uses_end (u ∷ []) ≡ false → false ≡ uses_end us
    uses_stop = stops (λ u. uses_end (u ∷ [])) uses_end ends_split us k is

    pub uses_end_lem : drop k us ≡ [] → true ≡ uses_end us
    unfolding ends_by entails_all
    uses_end_lem e = ends (λ u. uses_end (u ∷ [])) uses_end ends_split us k is e refl

  module _ (ls : List Line) (k : ℕ) (is : lines_end (drop k ls) ≡ lines_end ls) where
    left : k < length ls → drop k ls ≡ get_or ls k no_line ∷ drop (k + 1) ls
    left h = rw (add-one k) (drop-cons ls k no_line h)

    lines_next : k < length ls → uses_end (line_of (get_or ls k no_line)) ≡ true → lines_end (drop (k + 1) ls) ≡ lines_end ls
    lines_next h = goes_on (λ q. uses_end (line_of q)) lines_end lines_split ls k is (get_or ls k no_line) (left h)

    lines_stop : k < length ls → uses_end (line_of (get_or ls k no_line)) ≡ false → false ≡ lines_end ls
    lines_stop h = stops (λ q. uses_end (line_of q)) lines_end lines_split ls k is (get_or ls k no_line) (left h)

    lines_end_lem : length ls ≤ k → true ≡ lines_end ls
    unfolding all_end_by entails_all
    lines_end_lem h = ends (λ q. uses_end (line_of q)) lines_end lines_split ls k is (drop_of_length-le ls h) refl

-- ---- the last point, with the tray gap d behind it

module _ (l : List ℕ) (c x d : ℕ) (rs : List Rule) where
  pub last_late : bias + c < get_or l x 0 + d → false ≡ entails_all (table_of l) (over_by x d c ∷ rs)
  unfolding entails_all over_by
  last_late h = rw (lt-leb (cell l 0 x + d) (bias + c) (omega (arith, origin_row l x)))

  pub last_over : (test : Bool) → test ≡ entails_all (table_of l) rs → get_or l x 0 + d ≤ bias + c → test ≡ entails_all (table_of l) (over_by x d c ∷ rs)
  unfolding entails_all over_by
  last_over test e h = e ∙ rw (le-leb (cell l 0 x + d) (bias + c) (omega (arith, origin_row l x)))

-- ---- uses read one by one

module _ (w : Words) (at k : ℕ) (few : w at ≤ most_uses) (h : k < w at) (u : Use) (is : u ≡ use_at w at k) where
  use_at_lem : get_or (uses_read w at) k no_use ≡ u
  use_at_lem = build_at (use_at w at) most_uses k no_use (omega arith) ∙ sym is

  pub read_at : get_or (line_of (line_read w at)) k no_use ≡ u
  read_at = get_or-take (w at) (uses_read w at) k no_use h ∙ use_at_lem

  pub read_next : drop k (line_of (line_read w at)) ≡ u ∷ drop (k + 1) (line_of (line_read w at))
  read_next =
      held_next (w at) (uses_read w at) k no_use h (omega (arith, build_length (use_at w at) most_uses))
      ∙ ap (λ (a : Use). a ∷ drop (k + 1) (line_of (line_read w at))) use_at_lem

-- ---- lines of a board's words

-- the line whose first word is number i
abbrev LineShort : Words → ℕ → Type 0
LineShort w i = (w i ≤ most_uses) × AllShort (line_of (line_read w i))

pub lined_read : (w : Words) (k at : ℕ) → k < resources → at ≡ line_start k → Lined (lines_read w) → LineShort w at
lined_read w k at h start l =
    let there : LineShort w (line_start k) = (omega (arith, line_count w k h, l.counts k), subst AllShort (line_held w k h) (l.short k)) in
    subst (LineShort w) (sym start) there

module _ (l : List ℕ) (s : Settings) (c f m : ℕ) (w : Words) (k : ℕ)
    (is : lines_end l s c f m (drop k (lines_read w)) ≡ lines_end l s c f m (lines_read w)) where
  many : length (lines_read w) ≡ resources
  many = build_length (line_at w) resources

  -- the line that is read is line k
  same : (at : ℕ) → k < resources → at ≡ line_start k → uses_end l s c f m (line_of (get_or (lines_read w) k no_line)) ≡ uses_end l s c f m (line_of (line_read w at))
  same at h start =
      ap (λ (q : Line). uses_end l s c f m (line_of q)) (line_of_lem w k h)
      ∙ ap (λ (i : ℕ). uses_end l s c f m (line_of (line_read w i))) (sym start)

  pub read_line_next :
      (at : ℕ) → k < resources → at ≡ line_start k → uses_end l s c f m (line_of (line_read w at)) ≡ true
      → lines_end l s c f m (drop (k + 1) (lines_read w)) ≡ lines_end l s c f m (lines_read w)
  read_line_next at h start y = lines_next l s c f m (lines_read w) k is (omega (arith, many)) (same at h start ∙ y)

  pub read_line_stops :
      (at : ℕ) → k < resources → at ≡ line_start k → uses_end l s c f m (line_of (line_read w at)) ≡ false → false ≡ lines_end l s c f m (lines_read w)
  read_line_stops at h start n = lines_stop l s c f m (lines_read w) k is (omega (arith, many)) (same at h start ∙ n)

  pub read_line_end : resources ≤ k → true ≡ lines_end l s c f m (lines_read w)
  read_line_end h = lines_end_lem l s c f m (lines_read w) k is (omega (arith, many))
