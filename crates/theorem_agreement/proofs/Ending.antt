-- When all of a job's uses are over by the clock, by the rules that say so: in a timetable that keeps them, and in a table that implies them.
--   over_line, over_lines   rules that are kept say that uses end by the clock
--   late_line, late_lines   rules that the table does not imply name a use whose latest end is after it (Late)
--   both_false              one of two flags that are not both true
use mathlib.Core.Path.{◌≡◌, refl, sym, ap, ◌∙◌}
use mathlib.Core.Logic.{◌⊎◌, inl, inr}
use mathlib.Core.Bool.{Bool, true, false, true≢false, cond, ◌&&◌}
use mathlib.Core.List.{List, [], ◌∷◌, ◌++◌}
use Prim.Native.Nat.{ℕ, ◌+◌, ◌≤◌, ◌<◌}
use native.Mathlib.Omega.{arith}
use lib.Dec.{leb}
use lib.IntN.{pos, ◌+ℤ◌}
use lib.Signed.{◌≤ℤ◌}
use borrow.Author.Tests.{leb-false}
use Rattle.spec_plain.specs.declared.Settings.{Settings}
use Rattle.spec_plain.specs.declared.Use.{Use}
use Rattle.spec_plain.specs.Plain.{end_of, over_by, goes, ends_by, all_end_by}
use Rattle.spec_plain.specs.Rules.{Times, AllKept, Keeps, KeepsAll}
use Rattle.spec_plain.proofs.Whole.{up, dn, of_below, add_spec}
use Rattle.spec_plain.proofs.Rules.{keeps_to, keeps_append}
use Rattle.spec_stn.specs.Table.{bias, Table, entails_all}
use Rattle.spec_stn.proofs.Fits.{implied_append}
use Rattle.spec_stn.proofs.Pick.{Number, leaves, stays, number, goes_yes}
use Rattle.theorem_agreement.specs.Timetables.{In}
use Rattle.theorem_agreement.specs.Retire.{InLines}

-- ---- rules that are kept

module _ (s : Settings) (c m : ℕ) (u : Times) (o : u 0 ≡ pos 0) where
  ended : (x : Use) → Keeps u (over_by x.point (end_of s x) c) → (u x.point +ℤ pos (end_of s x)) ≤ℤ pos c
  unfolding over_by
  ended x k =
      of_below (u x.point +ℤ pos (end_of s x)) (pos c)
      (omega (
        arith,
        keeps_to u (over_by x.point (end_of s x) c) k,
        add_spec (u x.point) (end_of s x),
        ap up o,
        ap dn o,
      ))

  over_line :
      (us : List Use) → KeepsAll u (ends_by s c 1 m us) → (x : Use) → In x us → 1 ≤ x.point → x.point ≤ m
      → (u x.point +ℤ pos (end_of s x)) ≤ℤ pos c
  unfolding AllKept ends_by
  over_line [] k x i lo hi = absurd i
  over_line (y ∷ us) k x i lo hi = go (goes 1 m y.point) refl k i (over_line us)
    where
      go :
          (t : Bool) → goes 1 m y.point ≡ t
          → KeepsAll u (cond t (over_by y.point (end_of s y) c ∷ []) [] ++ ends_by s c 1 m us)
          → (x ≡ y) ⊎ In x us
          → (KeepsAll u (ends_by s c 1 m us) → (x : Use) → In x us → 1 ≤ x.point → x.point ≤ m → (u x.point +ℤ pos (end_of s x)) ≤ℤ pos c)
          → (u x.point +ℤ pos (end_of s x)) ≤ℤ pos c
      go true e k (inl is) rest = rw is (ended y k.0)
      go true e k (inr i) rest = rest k.1 x i lo hi
      go false e k (inl is) rest =
          let here : goes 1 m x.point ≡ true = goes_yes 1 m x.point lo (omega arith) in
          absurd (true≢false (sym here ∙ ap (λ (z : Use). goes 1 m z.point) is ∙ e))
      go false e k (inr i) rest = rest k x i lo hi

  pub over_lines :
      (ls : List (List Use)) → KeepsAll u (all_end_by s c 1 m ls) → (x : Use) → InLines x ls → 1 ≤ x.point → x.point ≤ m
      → (u x.point +ℤ pos (end_of s x)) ≤ℤ pos c
  unfolding AllKept all_end_by
  over_lines [] k x i lo hi = absurd i
  over_lines (us ∷ ls) k x (inl i) lo hi = over_line us ((keeps_append u (ends_by s c 1 m us) (all_end_by s c 1 m ls)).0 k).0 x i lo hi
  over_lines (us ∷ ls) k x (inr i) lo hi = over_lines ls ((keeps_append u (ends_by s c 1 m us) (all_end_by s c 1 m ls)).0 k).1 x i lo hi

-- ---- rules that are not implied

pub both_false : (a b : Bool) → (a && b) ≡ false → (a ≡ false) ⊎ (b ≡ false)
both_false true b e = inr e
both_false false b e = inl refl

module _ (s : Settings) (t : Table) (c m : ℕ) where
  -- a use of those points whose latest end is after c
  abbrev pub Late : Use → Type 0
  Late x = (1 ≤ x.point) × (x.point ≤ m) × (bias + c < t 0 x.point + end_of s x)

  late_line : (us : List Use) → entails_all t (ends_by s c 1 m us) ≡ false → (x : Use) × In x us × Late x
  unfolding entails_all ends_by over_by
  late_line [] e = absurd (true≢false e)
  late_line (y ∷ us) e = go (number 1 m y.point) (late_line us)
    where
      further : (x : Use) × In x us × Late x → (x : Use) × In x (y ∷ us) × Late x
      further q = (q.0, inr q.1, q.2)

      one :
          1 ≤ y.point → y.point ≤ m
          → (leb (t 0 y.point + end_of s y) (bias + c) ≡ false) ⊎ (entails_all t (ends_by s c 1 m us) ≡ false)
          → (entails_all t (ends_by s c 1 m us) ≡ false → (x : Use) × In x us × Late x) → (x : Use) × In x (y ∷ us) × Late x
      one lo hi (inl f) rest = (y, inl refl, (lo, hi, leb-false _ _ f))
      one lo hi (inr f) rest = further (rest f)

      go : Number 1 m y.point → (entails_all t (ends_by s c 1 m us) ≡ false → (x : Use) × In x us × Late x) → (x : Use) × In x (y ∷ us) × Late x
      go (leaves lo hi g) rest = one lo (omega arith) (both_false (leb (t 0 y.point + end_of s y) (bias + c)) _ (rw g at e)) rest
      go (stays is g) rest = further (rest (rw g at e))

  pub late_lines : (ls : List (List Use)) → entails_all t (all_end_by s c 1 m ls) ≡ false → (x : Use) × InLines x ls × Late x
  unfolding entails_all all_end_by
  late_lines [] e = absurd (true≢false e)
  late_lines (us ∷ ls) e =
      go
      (both_false (entails_all t (ends_by s c 1 m us)) (entails_all t (all_end_by s c 1 m ls))
      (sym (implied_append t (ends_by s c 1 m us) (all_end_by s c 1 m ls)) ∙ e))
      (late_lines ls)
    where
      go :
          (entails_all t (ends_by s c 1 m us) ≡ false) ⊎ (entails_all t (all_end_by s c 1 m ls) ≡ false)
          → (entails_all t (all_end_by s c 1 m ls) ≡ false → (x : Use) × InLines x ls × Late x) → (x : Use) × InLines x (us ∷ ls) × Late x
      go (inl f) rest = let q = late_line us f in (q.0, inl q.1, q.2)
      go (inr f) rest = let q = rest f in (q.0, inr q.1, q.2)
