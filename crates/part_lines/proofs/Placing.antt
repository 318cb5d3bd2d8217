-- Placing an offer's allocations, one after the other: what holds at the start and is kept by each allocation holds at the end.
--   rules_for s x ls p     the rules that are made for the allocation p
--   placed_keeps          I is what holds of the allocations left, the lines and the rules so far; Q what is to be shown of what placing comes to
--   placed_done           where placing comes to lines, they are those with all the allocations put in, and all fit
--   with_more, with_many  one allocation more put in;  there are as many lines as before
--   fits_more, fits_less  one allocation more fits;  the others fit without it
use mathlib.Core.Path.{◌≡◌, refl, ◌∙◌, subst}
use mathlib.Core.Bool.{Bool, true, false, cond}
use mathlib.Core.List.{List, [], ◌∷◌, ◌++◌}
use Prim.Native.Nat.{ℕ, suc, ◌≤◌, ◌<◌}
use lib.Dec.{ltb, leb}
use lib.ListN.{length, length-set}
use borrow.Author.Tests.{ltb-false, leb-false}
use Rattle.base_rulings.specs.Answer.{cause}
use Rattle.spec_plain.specs.Limits.{most_uses}
use Rattle.spec_plain.specs.declared.Settings.{Settings}
use Rattle.spec_plain.specs.declared.Allocation.{Allocation}
use Rattle.spec_plain.specs.declared.Rule.{Rule}
use Rattle.spec_plain.specs.declared.Use.{Use}
use Rattle.spec_plain.specs.Plain.{used_from, rule_before, rule_after, inserted, Placed, placed}
use Rattle.part_lines.specs.Placing.{line_for, lines_with, all_with, AllFit}

abbrev pub rules_for : Settings → ℕ → List (List Use) → Allocation → List Rule
rules_for s x ls p = rule_before s (line_for ls p) p.place (used_from x p) ++ rule_after s (line_for ls p) p.place (used_from x p)

module _ (s : Settings) (x : ℕ) (I : List Allocation → List (List Use) → List Rule → Type 0) (Q : Placed → Type 0)
    (stops : (i : ℕ) → Q (Placed.stop (cause 15 i)) × Q (Placed.stop (cause 16 i)))
    (ends : (ls : List (List Use)) (rs : List Rule) → I [] ls rs → Q (Placed.done ls rs))
    (keeps : (p : Allocation) (ps : List Allocation) (ls : List (List Use)) (rs : List Rule)
    → p.place ≤ length (line_for ls p) → length (line_for ls p) < most_uses
    → I (p ∷ ps) ls rs → I ps (lines_with x ls p) (rs ++ rules_for s x ls p)) where
  pub placed_keeps : (i : ℕ) (ps : List Allocation) (ls : List (List Use)) (rs : List Rule) → I ps ls rs → Q (placed s x i ps ls rs)
  unfolding placed
  placed_keeps i [] ls rs h = ends ls rs h
  placed_keeps i (p ∷ ps) ls rs h =
      choose (ltb (length (line_for ls p)) p.place) refl (leb most_uses (length (line_for ls p))) refl _
      (λ fits room. placed_keeps (suc i) ps (lines_with x ls p) (rs ++ rules_for s x ls p) (keeps p ps ls rs fits room h))
    where
      choose :
          (exceeds : Bool) → ltb (length (line_for ls p)) p.place ≡ exceeds → (has32 : Bool) → leb most_uses (length (line_for ls p)) ≡ has32
          → (next : Placed) → (p.place ≤ length (line_for ls p) → length (line_for ls p) < most_uses → Q next)
          → Q (cond exceeds (Placed.stop (cause 15 i)) (cond has32 (Placed.stop (cause 16 i)) next))
      choose true e has32 d next q = (stops i).0
      choose false e true d next q = (stops i).1
      choose false e false d next q = q (ltb-false _ _ e) (leb-false _ _ d)

-- ---- all of them put in

module _ (s : Settings) (x : ℕ) (ls : List (List Use)) (ps : List Allocation) where
  unfoldable Went : Placed → Type 0
  Went (Placed.stop c) = Unit {0}
  Went (Placed.done ms rs) = AllFit x ls ps × (ms ≡ all_with x ls ps)

  -- if those that are left fit, all do; and with them put in too, the lines are those with all of them
  abbrev Left : List Allocation → List (List Use) → List Rule → Type 0
  Left qs ms rs = (AllFit x ms qs → AllFit x ls ps) × (all_with x ms qs ≡ all_with x ls ps)

  placed_went : (i : ℕ) (rs : List Rule) → Went (placed s x i ps ls rs)
  unfolding Went AllFit all_with
  placed_went i rs =
      placed_keeps s x Left Went (λ k. (tt, tt)) (λ ms qs h. (h.0 tt, h.1)) (λ p qs ms rs fits room h. ((λ f. h.0 (fits, room, f)), h.1)) i ps ls rs
      ((λ f. f), refl)

pub placed_done :
    (s : Settings) (x i : ℕ) (ps : List Allocation) (ls ms : List (List Use)) (rs qs : List Rule) → placed s x i ps ls rs ≡ Placed.done ms qs
    → AllFit x ls ps × (ms ≡ all_with x ls ps)
unfolding Went
placed_done s x i ps ls ms rs qs e = subst (Went s x ls ps) e (placed_went s x ls ps i rs)

pub with_more :
    (x : ℕ) (ls : List (List Use)) (ps : List Allocation) (p : Allocation) → all_with x ls (ps ++ (p ∷ [])) ≡ lines_with x (all_with x ls ps) p
unfolding all_with
with_more x ls [] p = refl
with_more x ls (q ∷ ps) p = with_more x (lines_with x ls q) ps p

pub with_many : (x : ℕ) (ls : List (List Use)) (ps : List Allocation) → length (all_with x ls ps) ≡ length ls
unfolding all_with
with_many x ls [] = refl
with_many x ls (p ∷ ps) =
    with_many x (lines_with x ls p) ps ∙ length-set ls p.resource (inserted p.place (used_from x p) (line_for ls p))

pub fits_more :
    (x : ℕ) (ls : List (List Use)) (ps : List Allocation) (p : Allocation) → AllFit x ls ps → p.place ≤ length (line_for (all_with x ls ps) p)
    → length (line_for (all_with x ls ps) p) < most_uses → AllFit x ls (ps ++ (p ∷ []))
unfolding all_with AllFit
fits_more x ls [] p f place room = (place, room, tt)
fits_more x ls (q ∷ ps) p f place room = (f.0, f.1, fits_more x (lines_with x ls q) ps p f.2 place room)

pub fits_less :
    (x : ℕ) (ls : List (List Use)) (ps : List Allocation) (p : Allocation) → AllFit x ls (ps ++ (p ∷ []))
    → AllFit x ls ps × (p.place ≤ length (line_for (all_with x ls ps) p)) × (length (line_for (all_with x ls ps) p) < most_uses)
unfolding all_with AllFit
fits_less x ls [] p f = (tt, f.0, f.1)
fits_less x ls (q ∷ ps) p f = let rest = fits_less x (lines_with x ls q) ps p f.2 in ((f.0, f.1, rest.0), rest.1, rest.2)
