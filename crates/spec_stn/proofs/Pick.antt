-- Points dropped. What is left of a closed table is closed; and when the dropped points stand still, nothing else is lost: a timetable
-- of the rest is completed by their still times (`spread`).
--   pick_closed, pick_fits   any choice of points that begins with the origin
--   Number f m x             x is one of the m points from f on that leave, or the old number of one that stays: `number` says which
--   old_lt, new_lt           old and new numbers are within the old and the new number of points;  new_positive: not the origin's
--   goes_old, over_old       the old number of a point that stays does not go, and is renumbered to the new one
--   spread f m c u           the times u, with the leaving points at their still times
--   spread_old, spread_origin, spread_still   what these times are;  spread_fits: they keep to the table before
use mathlib.Core.Path.{◌≡◌, ap, sym, subst, ◌∙◌}
use mathlib.Core.Logic.{◌⊎◌, inl, inr}
use mathlib.Core.Bool.{true, false, cond}
use Prim.Native.Nat.{ℕ, ◌+◌, ◌-◌, ◌≤◌, ◌<◌}
use native.Mathlib.Omega.{arith}
use native.Mathlib.Decide.{dec_lt}
use lib.IntN.{pos, sub_ℕ}
use borrow.Author.Tests.{lt-ltb, le-ltb, le-leb, lt-leb}
use Rattle.spec_plain.specs.Rules.{Times}
use Rattle.spec_plain.specs.Plain.{goes, new_number}
use Rattle.spec_plain.proofs.Whole.{up, dn, sub_spec}
use Rattle.spec_plain.proofs.Rules.{NotLater}
use Rattle.spec_stn.specs.Table.{bias, Table, Closed, Fits, pick, Still, old_number}
use Rattle.spec_stn.proofs.Fits.{fits_to, fits_of, still_sum}

pub pick_closed : (m n : ℕ) (σ : ℕ → ℕ) (c : Table) → Closed n c → σ 0 ≡ 0 → ((a : ℕ) → a < m → σ a < n) → Closed m (pick σ c)
unfolding pick
pick_closed m n σ c cl o s =
    record {
      diagonal = λ i h. cl.diagonal (σ i) (s i h);
      triangle = λ i j k hi hj hk. cl.triangle (σ i) (σ j) (σ k) (s i hi) (s j hj) (s k hk);
      bounded = λ i j hi hj. cl.bounded (σ i) (σ j) (s i hi) (s j hj);
      floor = λ i h. rw o (cl.floor (σ i) (s i h));
    }

pub pick_fits : (m n : ℕ) (σ : ℕ → ℕ) (c : Table) → ((a : ℕ) → a < m → σ a < n) → (t : Times) → Fits n c t → Fits m (pick σ c) (λ k. t (σ k))
unfolding pick
pick_fits m n σ c s t f = fits_of m (pick σ c) (λ k. t (σ k)) λ i j hi hj. fits_to f (σ i) (σ j) (s i hi) (s j hj)

-- ---- m points from f on leave

module _ (f m : ℕ) where
  pub old_low : (x : ℕ) → x < f → old_number f m x ≡ x
  unfolding old_number
  old_low x h = rw (lt-ltb x f h)

  pub old_high : (x : ℕ) → f ≤ x → old_number f m x ≡ x + m
  unfolding old_number
  old_high x h = rw (le-ltb x f h)

  goes_low : (x : ℕ) → x < f → goes f m x ≡ false
  unfolding goes
  goes_low x h = simp (lt-leb f x h)

  goes_high : (x : ℕ) → f + m ≤ x → goes f m x ≡ false
  unfolding goes
  goes_high x h = simp (le-leb f x (omega arith), le-ltb x (f + m) h)

  pub goes_yes : (x : ℕ) → f ≤ x → x < f + m → goes f m x ≡ true
  unfolding goes
  goes_yes x lo hi = simp (le-leb f x lo, lt-ltb x (f + m) hi)

  over_low : (x : ℕ) → x < f → new_number f m x ≡ x
  unfolding new_number
  over_low x h = rw (lt-ltb x f h)

  over_high : (x : ℕ) → f + m ≤ x → new_number f m x ≡ x - m
  unfolding new_number
  over_high x h = rw (le-ltb x f (omega arith))

pub data Number (f m x : ℕ) : Type 0 where
  leaves : f ≤ x → x < f + m → goes f m x ≡ true → Number f m x
  stays : x ≡ old_number f m (new_number f m x) → goes f m x ≡ false → Number f m x

pub number : (f m x : ℕ) → Number f m x
number f m x = go (dec_lt x f) (dec_lt x (f + m))
  where
    go : Dec (x < f) → Dec (x < f + m) → Number f m x
    go (yes l) d = stays (sym (rw (over_low f m x l) (old_low f m x l))) (goes_low f m x l)
    go (no l) (yes h) = leaves (omega arith) h (goes_yes f m x (omega arith) h)
    go (no l) (no h) =
        let past : f + m ≤ x = omega arith in
        stays (rw (over_high f m x past) (omega (arith, old_high f m (x - m) (omega arith)))) (goes_high f m x past)

-- below f a point keeps its number; from there on m are between
abbrev OldNumber : ℕ → ℕ → ℕ → Type 0
OldNumber f m x = ((x < f) × (old_number f m x ≡ x)) ⊎ ((f ≤ x) × (old_number f m x ≡ x + m))

module _ (f m : ℕ) where
  old_cases : (x : ℕ) → OldNumber f m x
  old_cases x = go (dec_lt x f)
    where
      go : Dec (x < f) → OldNumber f m x
      go (yes l) = inl (l, old_low f m x l)
      go (no l) = inr (omega arith, old_high f m x (omega arith))

  pub old_lt : (n x : ℕ) → x < n → old_number f m x < n + m
  old_lt n x h = go (old_cases x)
    where
      go : OldNumber f m x → old_number f m x < n + m
      go (inl p) = omega arith
      go (inr p) = omega arith

  pub new_lt : (n x : ℕ) → f ≤ n → old_number f m x < n + m → x < n
  new_lt n x le h = go (old_cases x)
    where
      go : OldNumber f m x → x < n
      go (inl p) = omega arith
      go (inr p) = omega arith

  pub new_positive : (x : ℕ) → 0 < f → 0 < old_number f m x → 0 < x
  new_positive x z h = go (old_cases x)
    where
      go : OldNumber f m x → 0 < x
      go (inl p) = omega arith
      go (inr p) = omega arith

  pub goes_old : (x : ℕ) → goes f m (old_number f m x) ≡ false
  goes_old x = go (old_cases x)
    where
      go : OldNumber f m x → goes f m (old_number f m x) ≡ false
      go (inl p) = rw p.1 (goes_low f m x p.0)
      go (inr p) = rw p.1 (goes_high f m (x + m) (omega arith))

  pub over_old : (x : ℕ) → new_number f m (old_number f m x) ≡ x
  over_old x = go (old_cases x)
    where
      go : OldNumber f m x → new_number f m (old_number f m x) ≡ x
      go (inl p) = rw p.1 (over_low f m x p.0)
      go (inr p) = rw p.1 (omega (arith, over_high f m (x + m) (omega arith)))

-- ---- the leaving points stand still

unfoldable pub spread : ℕ → ℕ → Table → Times → Times
spread f m c u x = cond (goes f m x) (sub_ℕ (c 0 x) bias) (u (new_number f m x))

module _ (f m : ℕ) (c : Table) (u : Times) where
  pub spread_stays : (x : ℕ) → goes f m x ≡ false → spread f m c u x ≡ u (new_number f m x)
  unfolding spread
  spread_stays x e = rw e

  pub spread_old : (x : ℕ) → spread f m c u (old_number f m x) ≡ u x
  spread_old x = spread_stays (old_number f m x) (goes_old f m x) ∙ ap u (over_old f m x)

  pub spread_origin : 0 < f → spread f m c u 0 ≡ u 0
  spread_origin z = ap (spread f m c u) (sym (old_low f m 0 z)) ∙ spread_old 0

  pub spread_still : (x : ℕ) → goes f m x ≡ true → up (spread f m c u x) + bias ≡ c 0 x + dn (spread f m c u x)
  unfolding spread
  spread_still x e = rw e (sub_spec (c 0 x) bias)

-- A cell between two points that stay is the new table's. A still point has one time after the origin, so the triangle through it and
-- the origin says for it what the cell with the origin says for the other point
pub spread_fits :
    (f m n : ℕ) (c : Table) (u : Times) → 0 < f → f ≤ n → Closed (n + m) c → ((x : ℕ) → f ≤ x → x < f + m → Still c x)
    → u 0 ≡ pos 0 → Fits n (pick (old_number f m) c) u → Fits (n + m) c (spread f m c u)
unfolding pick
spread_fits f m n c u z le cl st o fit =
    fits_of (n + m) c (spread f m c u) λ i j hi hj. go i j hi hj (number f m i) (number f m j)
  where
    t : Times
    t = spread f m c u

    sum : (x : ℕ) → f ≤ x → x < f + m → c 0 x + c x 0 ≡ bias + bias
    sum x lo top = still_sum (n + m) c cl x (omega arith) (st x lo top)

    -- the cell of two points that stay
    cell : (a b : ℕ) → a < n + m → b < n + m → (x y : ℕ) → a ≡ old_number f m x → b ≡ old_number f m y → NotLater t b bias a (c a b)
    cell a b ha hb x y ea eb =
        let e : c a b ≡ c (old_number f m x) (old_number f m y) = cc in
        let p : t a ≡ u x = ap t ea ∙ spread_old f m c u x in
        let q : t b ≡ u y = ap t eb ∙ spread_old f m c u y in
        omega (
          arith,
          fits_to fit x y (new_lt f m n x le (subst (λ (k : ℕ). k < n + m) ea ha)) (new_lt f m n y le (subst (λ (k : ℕ). k < n + m) eb hb)),
          ap up p,
          ap dn p,
          ap up q,
          ap dn q,
        )

    origin : 0 ≡ old_number f m 0
    origin = sym (old_low f m 0 z)

    zero_time : t 0 ≡ pos 0
    zero_time = spread_origin f m c u z ∙ o

    go : (i j : ℕ) → i < n + m → j < n + m → Number f m i → Number f m j → NotLater t j bias i (c i j)
    go i j hi hj (stays a d) (stays b e) = cell i j hi hj (new_number f m i) (new_number f m j) a b
    go i j hi hj (stays a d) (leaves lo top e) =
        omega (
          arith,
          cell i 0 hi (omega arith) (new_number f m i) 0 a origin,
          ap up zero_time,
          ap dn zero_time,
          spread_still f m c u j e,
          sum j lo top,
          cl.triangle i j 0 hi hj (omega arith),
        )
    go i j hi hj (leaves lo top d) (stays b e) =
        omega (
          arith,
          cell 0 j (omega arith) hj 0 (new_number f m j) origin b,
          ap up zero_time,
          ap dn zero_time,
          spread_still f m c u i d,
          sum i lo top,
          cl.triangle 0 i j (omega arith) hi hj,
        )
    go i j hi hj (leaves lo top d) (leaves low high e) =
        omega (
          arith,
          spread_still f m c u i d,
          spread_still f m c u j e,
          sum i lo top,
          cl.triangle 0 i j (omega arith) hi hj,
        )
