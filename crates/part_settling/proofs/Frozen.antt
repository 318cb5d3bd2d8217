-- Laws of points set equal to their earliest times in a closed table. Setting one to its earliest time changes no other's: the column of
-- gaps to the origin, where the earliest times stand, stays as it is. So every such rule agrees.
--   Same n l m             m is closed, and has the earliest times of l
--   point_is, point_same   one point set: only its upper rule changes a cell, and the earliest times stay
--   asked, frozen_one      what the code of one point asks, and what it gives
--   frozen_same            points set one after the other;  frozen_append: first some, then others
--   Freezing l n xs t left   the table t comes of l by setting points of xs, and `left` are left to set
--   range-.., unsent-..    the points of a job, and of the unsent jobs: the first, the next, none left
--   begins, goes_on, ends  one law for each place of a loop
use Prim.Native.Nat.{ℕ, suc, ◌+◌, ◌-◌, ◌≤◌, ◌<◌}
use native.Mathlib.Omega.{arith}
use mathlib.Core.Path.{◌≡◌, refl, sym, ap, ap₂, subst, ◌∙◌}
use mathlib.Core.Bool.{cond}
use mathlib.Core.List.{List, [], ◌∷◌, ◌++◌}
use lib.ListN.{length}
use Rattle.spec_plain.specs.Limits.{side, cell_count}
use Rattle.spec_plain.specs.declared.Job.{Job}
use Rattle.spec_plain.specs.declared.Rule.{Rule}
use Rattle.spec_plain.specs.Plain.{not_before, not_after, freeze, range, unsent_points}
use Rattle.spec_plain.proofs.Points.{Below}
use Rattle.spec_stn.specs.Table.{bias, Closed, IsConsistent, add, earliest}
use Rattle.part_gaps.specs.Cells.{cell, table_of, added, Usable}
use Rattle.part_gaps.proofs.Added.{added_length, added_agree, added_closed, added_known}
use Rattle.part_settling.specs.Settled.{added_each}
use Rattle.part_settling.specs.Frozen.{frozen}

-- ---- tables

pub record Same (n : ℕ) (l m : List ℕ) : Type 0 where
  pub cells : length m ≡ cell_count
  pub closed : Closed n (table_of m)
  pub column : (i : ℕ) → i < n → cell m i 0 ≡ cell l i 0

module _ (n : ℕ) (few : n ≤ side) where
  module _ (l : List ℕ) (size : length l ≡ cell_count) (cl : Closed n (table_of l)) (x v : ℕ) (h : x < n) (e : v ≡ earliest (table_of l) x) where
    at_floor : v + cell l x 0 ≡ bias
    unfolding earliest
    at_floor = omega (arith, e, cl.floor x h)

    point_agrees : IsConsistent (not_after x v) (table_of l)
    unfolding IsConsistent not_after
    point_agrees = omega (arith, at_floor)

    point_usable : Usable n (not_after x v)
    unfolding not_after
    point_usable =
        record { early_live = h; late_live = omega arith; few_more = omega arith; few_slack = omega (arith, at_floor) }

    point_is : added (added l n (not_before x v)) n (not_after x v) ≡ added l n (not_after x v)
    unfolding not_before
    point_is =
        ap (λ (z : List ℕ). added z n (not_after x v))
        (added_known l n (not_before x v) size few cl (omega arith) h (omega (arith, at_floor)))

    point_same : Same n l (added l n (not_after x v))
    unfolding not_after add
    point_same =
        record {
          cells = added_length l n (not_after x v) size few;
          closed = added_closed l n (not_after x v) size few cl point_usable.early_live point_usable.late_live point_agrees;
          column = λ i hi. omega (arith, added_agree l n (not_after x v) size few i 0 hi (omega arith), at_floor);
        }

    module _ (r : Rule) (er : r ≡ not_after x v) where
      -- what adding the rule asks
      pub asked : ((length l ≡ cell_count) × (n ≤ side) × Usable n r) × (Closed n (table_of l) × IsConsistent r (table_of l))
      asked = rw er ((size, few, point_usable), (cl, point_agrees))

      pub frozen_one : (m : List ℕ) → m ≡ added l n r → m ≡ frozen n (x ∷ []) l
      unfolding freeze added_each
      frozen_one m q =
          q ∙ ap (added l n) er ∙ sym point_is ∙ ap (λ (z : ℕ). added (added l n (not_before x z)) n (not_after x z)) e

  -- the same earliest times set the same rules
  freeze_same : (v w : ℕ → ℕ) → ((x : ℕ) → x < n → v x ≡ w x) → (xs : List ℕ) → Below n xs → freeze v xs ≡ freeze w xs
  unfolding freeze
  freeze_same v w e [] b = refl
  freeze_same v w e (x ∷ xs) b = rw (e x b.0, freeze_same v w e xs b.1)

  earliest_same : (l m : List ℕ) → Same n l m → (x : ℕ) → x < n → earliest (table_of l) x ≡ earliest (table_of m) x
  unfolding earliest
  earliest_same l m s x h = ap (λ (z : ℕ). bias - z) (sym (s.column x h))

  module _ (l : List ℕ) (size : length l ≡ cell_count) (cl : Closed n (table_of l)) where
    self_same : Same n l l
    self_same = record { cells = size; closed = cl; column = λ i h. refl }

  -- v are the earliest times of l
  added_same :
      (l : List ℕ) → length l ≡ cell_count → Closed n (table_of l) → (v : ℕ → ℕ) → ((x : ℕ) → x < n → v x ≡ earliest (table_of l) x)
      → (xs : List ℕ) → Below n xs → Same n l (added_each (freeze v xs) n l)
  unfolding freeze added_each
  added_same l size cl v e [] b = self_same l size cl
  added_same l size cl v e (x ∷ xs) b =
      let one = point_same l size cl x (v x) b.0 (e x b.0) in
      let next = added l n (not_after x (v x)) in
      let rest = added_same next one.cells one.closed v (λ y h. e y h ∙ earliest_same l next one y h) xs b.1 in
      subst (λ (z : List ℕ). Same n l (added_each (freeze v xs) n z)) (sym (point_is l size cl x (v x) b.0 (e x b.0)))
      (record { cells = rest.cells; closed = rest.closed; column = λ i h. rest.column i h ∙ one.column i h })

  pub frozen_same : (l : List ℕ) → length l ≡ cell_count → Closed n (table_of l) → (xs : List ℕ) → Below n xs → Same n l (frozen n xs l)
  frozen_same l size cl xs b = added_same l size cl (earliest (table_of l)) (λ x h. refl) xs b

  added_append : (v : ℕ → ℕ) (xs ys : List ℕ) (l : List ℕ) → added_each (freeze v (xs ++ ys)) n l ≡ added_each (freeze v ys) n (added_each (freeze v xs) n l)
  unfolding freeze added_each
  added_append v [] ys l = refl
  added_append v (x ∷ xs) ys l = added_append v xs ys (added (added l n (not_before x (v x))) n (not_after x (v x)))

  pub frozen_append :
      (l : List ℕ) → length l ≡ cell_count → Closed n (table_of l) → (xs ys : List ℕ) → Below n xs → Below n ys
      → frozen n (xs ++ ys) l ≡ frozen n ys (frozen n xs l)
  frozen_append l size cl xs ys a b =
      added_append (earliest (table_of l)) xs ys l
      ∙ ap (λ (rs : List Rule). added_each rs n (frozen n xs l))
      (freeze_same (earliest (table_of l)) (earliest (table_of (frozen n xs l)))
      (earliest_same l (frozen n xs l) (frozen_same l size cl xs a)) ys b)

-- ---- loops

pub range_first : (x m : ℕ) → range x (x + m - x) ≡ range x m
range_first x m = ap (range x) {x = x + m - x} {y = m} (omega arith)

-- the points from x on and before e
pub range_next : (x e : ℕ) → x < e → range x (e - x) ≡ x ∷ range (x + 1) (e - (x + 1))
unfolding range
range_next x e h =
    ap (range x) (let d : e - x ≡ suc (e - (x + 1)) = omega arith in d)
    ∙ ap (λ (y : ℕ). x ∷ range y (e - (x + 1))) {x = suc x} {y = x + 1} (omega arith)

pub range_over : (x e : ℕ) → e ≤ x → range x (e - x) ≡ []
unfolding range
range_over x e h = ap (range x) (let d : e - x ≡ 0 = omega arith in d)

pub unsent_first : (x n : ℕ) (js : List Job) → unsent_points x (n - 0) js ≡ unsent_points x n js
unsent_first x n js = ap (λ (z : ℕ). unsent_points x z js) (omega arith)

-- the jobs from place k on, of which the first n - k are sent
pub unsent_next :
    (x k n : ℕ) (js rest : List Job) (j : Job) → k < n → js ≡ j ∷ rest
    → unsent_points x (n - k) js ≡ cond j.sent [] (range x j.points) ++ unsent_points (x + j.points) (n - (k + 1)) rest
unfolding unsent_points
unsent_next x k n js rest j h e = ap₂ (unsent_points x) (let d : n - k ≡ suc (n - (k + 1)) = omega arith in d) e

pub unsent_over : (x k n : ℕ) (js : List Job) → n ≤ k → unsent_points x (n - k) js ≡ []
unfolding unsent_points
unsent_over x k n js h = ap (λ (z : ℕ). unsent_points x z js) (let e : n - k ≡ 0 = omega arith in e)

pub record Freezing (l : List ℕ) (n : ℕ) (xs : List ℕ) (t : List ℕ) (left : List ℕ) : Type 0 where
  pub cells : length t ≡ cell_count
  pub closed : Closed n (table_of t)
  pub below : Below n left
  -- setting what is left comes to what setting all comes to
  pub same : frozen n left t ≡ frozen n xs l

pub begins :
    (l : List ℕ) (n : ℕ) (xs left : List ℕ) → length l ≡ cell_count → Closed n (table_of l) → Below n xs → left ≡ xs → Freezing l n xs l left
begins l n xs left e c b q = rw q (record { cells = e; closed = c; below = b; same = refl })

below_first : (n : ℕ) (xs ys : List ℕ) → Below n (xs ++ ys) → Below n xs × Below n ys
below_first n [] ys b = (tt, b)
below_first n (x ∷ xs) ys b = let r = below_first n xs ys b.1 in ((b.0, r.0), r.1)

module _ {l : List ℕ} {n : ℕ} {xs : List ℕ} {t : List ℕ} {left : List ℕ} (s : Freezing l n xs t left) where
  pub ends : left ≡ [] → t ≡ frozen n xs l
  unfolding freeze added_each
  ends e = subst (λ (z : List ℕ). frozen n z t ≡ frozen n xs l) e s.same

  pub goes_on : n ≤ side → (ys rest : List ℕ) → left ≡ ys ++ rest → (m : List ℕ) → m ≡ frozen n ys t → Freezing l n xs m rest
  goes_on few ys rest e m q =
      let b = below_first n ys rest (subst (Below n) e s.below) in
      let now = frozen_same n few t s.cells s.closed ys b.0 in
      subst (λ (z : List ℕ). Freezing l n xs z rest) (sym q)
      (record {
        cells = now.cells;
        closed = now.closed;
        below = b.1;
        same =
            sym (frozen_append n few t s.cells s.closed ys rest b.0 b.1)
            ∙ subst (λ (z : List ℕ). frozen n z t ≡ frozen n xs l) e s.same;
      })
