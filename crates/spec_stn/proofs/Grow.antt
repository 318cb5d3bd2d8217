-- New points, each from 0 to H. A new point hangs on the origin: a gap to it is the gap to the origin plus H, and a gap from it is that
-- from the origin.
--   grow_old              two old points keep their cell
--   grow_closed           the table with one more point is closed
--   grow_fits             its timetables are those of the table that have the new point from 0 to H
--   grow_all_closed, _fits the same of k new points: rule (a), `bounds`
--   grow_all_roof          no point is later than H, where none was before
use mathlib.Core.Path.{◌≡◌, refl, subst}
use mathlib.Core.Logic.{◌↔◌, ◌⊎◌, inl, inr}
use Prim.Native.Nat.{ℕ, zero, suc, ◌+◌, ◌≤◌, ◌<◌}
use native.Mathlib.Omega.{arith}
use native.Mathlib.Decide.{dec_lt}
use borrow.Author.Tests.{eq-eqb, ne_eqb}
use Rattle.spec_plain.specs.Rules.{Times, AllKept, Keeps, KeepsAll}
use Rattle.spec_plain.specs.Plain.{not_before, not_after, bounds}
use Rattle.spec_plain.proofs.Rules.{NotLater, keeps_to, keeps_of}
use Rattle.spec_stn.specs.Table.{bias, Table, Closed, Fits, grow, grow_all}
use Rattle.spec_stn.proofs.Fits.{fits_to, fits_of}

-- ---- the cells

module _ (H n : ℕ) (c : Table) where
  pub grow_old : (a b : ℕ) → a < n → b < n → grow H n c a b ≡ c a b
  unfolding grow
  grow_old a b ha hb = simp (ne_eqb a n (λ e. omega arith), ne_eqb b n (λ e. omega arith))

  grow_to : (a : ℕ) → a < n → grow H n c a n ≡ c a 0 + H
  unfolding grow
  grow_to a ha = simp (ne_eqb a n (λ e. omega arith), eq-eqb n n refl)

  grow_from : (b : ℕ) → b < n → grow H n c n b ≡ c 0 b
  unfolding grow
  grow_from b hb = simp (ne_eqb b n (λ e. omega arith), eq-eqb n n refl)

  grow_self : grow H n c n n ≡ bias
  unfolding grow
  grow_self = simp (eq-eqb n n refl)

-- an old point, or the new one
abbrev Place : ℕ → ℕ → Type 0
Place n i = (i < n) ⊎ (i ≡ n)

place : (n i : ℕ) → i < suc n → Place n i
place n i h = go (dec_lt i n)
  where
    go : Dec (i < n) → Place n i
    go (yes l) = inl l
    go (no g) = inr (omega arith)

-- ---- one point

module _ (H n : ℕ) (c : Table) (cl : Closed n c) (z : 0 < n) (small : H ≤ bias) where
  -- a new point in a triangle stands for the origin: its triangle law is the origin's, or says that H is not negative
  grow_triangle : (i j k : ℕ) → Place n i → Place n j → Place n k → grow H n c i k + bias ≤ grow H n c i j + grow H n c j k
  grow_triangle i j k (inl x) (inl y) (inl w) =
      omega (arith, grow_old H n c i k x w, grow_old H n c i j x y, grow_old H n c j k y w, cl.triangle i j k x y w)
  grow_triangle i j k (inl x) (inl y) (inr w) =
      rw w (omega (arith, grow_to H n c i x, grow_old H n c i j x y, grow_to H n c j y, cl.triangle i j 0 x y z))
  grow_triangle i j k (inl x) (inr y) (inl w) =
      rw y (omega (arith, grow_old H n c i k x w, grow_to H n c i x, grow_from H n c k w, cl.triangle i 0 k x z w))
  grow_triangle i j k (inl x) (inr y) (inr w) = rw (y, w) (omega (arith, grow_self H n c))
  grow_triangle i j k (inr x) (inl y) (inl w) =
      rw x (omega (arith, grow_from H n c k w, grow_from H n c j y, grow_old H n c j k y w, cl.triangle 0 j k z y w))
  grow_triangle i j k (inr x) (inl y) (inr w) =
      rw (x, w) (omega (arith, grow_self H n c, grow_from H n c j y, grow_to H n c j y, cl.triangle 0 j 0 z y z, cl.diagonal 0 z))
  grow_triangle i j k (inr x) (inr y) (inl w) = rw (x, y) (omega (arith, grow_self H n c))
  grow_triangle i j k (inr x) (inr y) (inr w) = rw (x, y, w) (omega (arith, grow_self H n c))

  grow_diagonal : (i : ℕ) → Place n i → grow H n c i i ≡ bias
  grow_diagonal i (inl x) = omega (arith, grow_old H n c i i x x, cl.diagonal i x)
  grow_diagonal i (inr x) = rw x (grow_self H n c)

  grow_bounded : (i j : ℕ) → Place n i → Place n j → grow H n c i j ≤ bias + bias
  grow_bounded i j (inl x) (inl y) = omega (arith, grow_old H n c i j x y, cl.bounded i j x y)
  grow_bounded i j (inl x) (inr y) = rw y (omega (arith, grow_to H n c i x, cl.floor i x))
  grow_bounded i j (inr x) (inl y) = rw x (omega (arith, grow_from H n c j y, cl.bounded 0 j z y))
  grow_bounded i j (inr x) (inr y) = rw (x, y) (omega (arith, grow_self H n c))

  grow_floor : (i : ℕ) → Place n i → grow H n c i 0 ≤ bias
  grow_floor i (inl x) = omega (arith, grow_old H n c i 0 x z, cl.floor i x)
  grow_floor i (inr x) = rw x (omega (arith, grow_from H n c 0 z, cl.diagonal 0 z))

  pub grow_closed : Closed (suc n) (grow H n c)
  grow_closed =
      record {
        diagonal = λ i h. grow_diagonal i (place n i h);
        triangle = λ i j k hi hj hk. grow_triangle i j k (place n i hi) (place n j hj) (place n k hk);
        bounded = λ i j hi hj. grow_bounded i j (place n i hi) (place n j hj);
        floor = λ i h. grow_floor i (place n i h);
      }

  cell_fits :
      (t : Times) → Fits n c t → NotLater t 0 0 n 0 → NotLater t n 0 0 H
      → (i j : ℕ) → Place n i → Place n j → NotLater t j bias i (grow H n c i j)
  cell_fits t f lo hi i j (inl x) (inl y) = omega (arith, grow_old H n c i j x y, fits_to f i j x y)
  cell_fits t f lo hi i j (inl x) (inr y) = rw y (omega (arith, grow_to H n c i x, fits_to f i 0 x z))
  cell_fits t f lo hi i j (inr x) (inl y) = rw x (omega (arith, grow_from H n c j y, fits_to f 0 j z y))
  cell_fits t f lo hi i j (inr x) (inr y) = rw (x, y) (omega (arith, grow_self H n c))

  pub grow_fits : (t : Times) → Fits (suc n) (grow H n c) t ↔ (Fits n c t × Keeps t (not_before n 0) × Keeps t (not_after n H))
  unfolding not_before not_after
  grow_fits t = (
    λ f. (
      fits_of n c t λ i j hi hj. omega (arith, fits_to f i j (omega arith) (omega arith), grow_old H n c i j hi hj),
      keeps_of t (not_before n 0) (omega (arith, fits_to f n 0 (omega arith) (omega arith), grow_from H n c 0 z, cl.diagonal 0 z)),
      keeps_of t (not_after n H) (omega (arith, fits_to f 0 n (omega arith) (omega arith), grow_to H n c 0 z, cl.diagonal 0 z)),
    ),
    λ p.
        fits_of (suc n) (grow H n c) t
        λ i j hi hj. cell_fits t p.0 (keeps_to t (not_before n 0) p.1) (keeps_to t (not_after n H) p.2) i j (place n i hi) (place n j hj),
  )

  grow_roof : ((i : ℕ) → i < n → c 0 i ≤ bias + H) → (j : ℕ) → Place n j → grow H n c 0 j ≤ bias + H
  grow_roof r j (inl x) = omega (arith, grow_old H n c 0 j z x, r j x)
  grow_roof r j (inr x) = rw x (omega (arith, grow_to H n c 0 z, cl.diagonal 0 z))

-- ---- k points; N is their number with the old ones

pub grow_all_closed : (H n k N : ℕ) (c : Table) → N ≡ n + k → Closed n c → 0 < n → H ≤ bias → Closed N (grow_all H n k c)
unfolding grow_all
grow_all_closed H n zero N c e cl z small = subst (λ (m : ℕ). Closed m c) (omega arith) cl
grow_all_closed H n (suc k) N c e cl z small =
    grow_all_closed H (suc n) k N (grow H n c) (omega arith) (grow_closed H n c cl z small) (omega arith) small

pub grow_all_fits :
    (H n k N : ℕ) (c : Table) → N ≡ n + k → Closed n c → 0 < n → H ≤ bias → (t : Times)
    → Fits N (grow_all H n k c) t ↔ (Fits n c t × KeepsAll t (bounds H n k))
unfolding grow_all bounds AllKept
grow_all_fits H n zero N c e cl z small t =
    let same : N ≡ n = omega arith in
    (λ f. (rw same at f, tt), λ p. rw same p.0)
grow_all_fits H n (suc k) N c e cl z small t =
    let rest = grow_all_fits H (suc n) k N (grow H n c) (omega arith) (grow_closed H n c cl z small) (omega arith) small t in
    let one = grow_fits H n c cl z small t in (
      λ f.
          let p = rest.0 f in
          let q = one.0 p.0 in
          (q.0, (q.1, (q.2, p.1))),
      λ p. rest.1 (one.1 (p.0, p.1.0, p.1.1.0), p.1.1.1),
    )

pub grow_all_roof :
    (H n k N : ℕ) (c : Table) → N ≡ n + k → Closed n c → 0 < n → H ≤ bias → ((i : ℕ) → i < n → c 0 i ≤ bias + H)
    → (i : ℕ) → i < N → grow_all H n k c 0 i ≤ bias + H
unfolding grow_all
grow_all_roof H n zero N c e cl z small r i h = r i (omega arith)
grow_all_roof H n (suc k) N c e cl z small r i h =
    grow_all_roof H (suc n) k N (grow H n c) (omega arith) (grow_closed H n c cl z small) (omega arith) small
    (λ j l. grow_roof H n c cl z small r j (place n j l)) i h
