-- What timetables a closed table has.
--   fits_to, fits_of     a timetable fits when each cell is NotLater, and the other way
--   far_fits, far_origin the largest gap after a point is attained: by `far`
--   tight                a cell is no larger than in any table that allows the same timetables or more
--   implied_of, _to      all timetables of the table keep a rule exactly when one cell says so
--   implied_no, _yes     the same of a list of rules and the test `entails_all`
--   implied_append       two lists of rules, one after the other: both are implied
--   latest_far, latest_most   the latest time of a point is attained by `far` from the origin, and no timetable is later there
--   still_sum, sum_still   a point stands still exactly when its gaps to and from the origin sum to 0
--   soonest_fits, soonest_origin, soonest_least   the earliest times are a timetable together, and no timetable is sooner anywhere
use mathlib.Core.Path.{◌≡◌, refl, sym, ◌∙◌, ap}
use mathlib.Core.Bool.{Bool, true, false, ◌&&◌, and_assoc}
use mathlib.Core.List.{List, [], ◌∷◌, ◌++◌}
use Prim.Native.Nat.{ℕ, ◌+◌, ◌≤◌, ◌<◌}
use native.Mathlib.Omega.{arith}
use lib.Dec.{T}
use lib.IntN.{pos, ◌+ℤ◌, sub_ℕ}
use borrow.Author.Tests.{leb-true, leb-false}
use Rattle.spec_plain.specs.declared.Rule.{Rule}
use Rattle.spec_plain.specs.Rules.{Times, AllKept, Keeps, KeepsAll}
use Rattle.spec_plain.proofs.Whole.{up, dn, below_of, of_below, sub_spec, sum_spec, whole_eq}
use Rattle.spec_plain.proofs.Rules.{NotLater, keeps_to, keeps_of}
use Rattle.spec_stn.specs.Table.{bias, Table, gap, Closed, Fits, far, earliest, latest, soonest, Still, Within, entails, entails_all}

pub fits_to : {n : ℕ} {c : Table} {t : Times} → Fits n c t → (i j : ℕ) → i < n → j < n → NotLater t j bias i (c i j)
fits_to {n} {c} {t} f i j hi hj =
    omega (arith, below_of (t j) (t i +ℤ gap c i j) (f.within i j hi hj), sum_spec (t i) (gap c i j), sub_spec (c i j) bias)

pub fits_of : (n : ℕ) (c : Table) (t : Times) → ((i j : ℕ) → i < n → j < n → NotLater t j bias i (c i j)) → Fits n c t
fits_of n c t f =
    record {
      within = λ i j hi hj. of_below (t j) (t i +ℤ gap c i j) (omega (arith, f i j hi hj, sum_spec (t i) (gap c i j), sub_spec (c i j) bias));
    }

-- ---- as late after i as can be

-- The time of b minus the time of a is c i b − c i a, and the triangle i, a, b bounds it by cell (a, b)
pub far_fits : (n : ℕ) (c : Table) → Closed n c → (i : ℕ) → i < n → Fits n c (far c i)
unfolding far
far_fits n c cl i hi =
    fits_of n c (far c i) λ a b ha hb. omega (arith, sub_spec (c i b) (c i 0), sub_spec (c i a) (c i 0), cl.triangle i a b hi ha hb)

pub far_origin : (c : Table) (i : ℕ) → far c i 0 ≡ pos 0
unfolding far
far_origin c i = whole_eq (sub_ℕ (c i 0) (c i 0)) (pos 0) (omega (arith, sub_spec (c i 0) (c i 0)))

-- The timetable `far c i` has j the whole of cell (i, j) after i; a table d that allows it has no smaller cell there
pub tight :
    (n m : ℕ) (c d : Table) → Closed n c → m ≤ n → ((t : Times) → t 0 ≡ pos 0 → Fits n c t → Fits m d t)
    → (i j : ℕ) → i < m → j < m → c i j ≤ d i j
unfolding far
tight n m c d cl le same i j hi hj =
    let h : i < n = omega arith in
    let f : NotLater (far c i) j bias i (d i j) = fits_to (same (far c i) (far_origin c i) (far_fits n c cl i h)) i j hi hj in
    omega (arith, sub_spec (c i j) (c i 0), sub_spec (c i i) (c i 0), cl.diagonal i h)

-- ---- rules that every timetable keeps

pub implied_of :
    (n : ℕ) (c : Table) (r : Rule) → Closed n c → r.early < n → r.late < n → ((t : Times) → t 0 ≡ pos 0 → Fits n c t → Keeps t r)
    → c r.late r.early + r.more ≤ bias + r.slack
unfolding far
implied_of n c r cl x y all =
    let t : Times = far c r.late in
    let f = keeps_to t r (all t (far_origin c r.late) (far_fits n c cl r.late y)) in
    omega (
      arith,
      sub_spec (c r.late r.early) (c r.late 0),
      sub_spec (c r.late r.late) (c r.late 0),
      cl.diagonal r.late y,
    )

pub implied_to :
    (n : ℕ) (c : Table) (r : Rule) → r.early < n → r.late < n → c r.late r.early + r.more ≤ bias + r.slack
    → (t : Times) → Fits n c t → Keeps t r
implied_to n c r x y h t f = keeps_of t r (omega (arith, fits_to f r.late r.early y x))

pub implied_yes : (n : ℕ) (c : Table) (rs : List Rule) → Within n rs → T (entails_all c rs) → (t : Times) → Fits n c t → KeepsAll t rs
unfolding Within entails_all AllKept
implied_yes n c [] w i t f = tt
implied_yes n c (r ∷ rs) w i t f =
    go (entails c r) refl i (λ j. implied_yes n c rs w.2 j t f)
  where
    go :
        (b : Bool) → entails c r ≡ b → T (b && entails_all c rs)
        → (T (entails_all c rs) → KeepsAll t rs) → Keeps t r × KeepsAll t rs
    go true e i rest = (implied_to n c r w.0 w.1 (leb-true _ _ e) t f, rest i)
    go false e i rest = absurd i

pub implied_no :
    (n : ℕ) (c : Table) (rs : List Rule) → Closed n c → Within n rs → ((t : Times) → t 0 ≡ pos 0 → Fits n c t → KeepsAll t rs) → T (entails_all c rs)
unfolding Within entails_all AllKept
implied_no n c [] cl w k = tt
implied_no n c (r ∷ rs) cl w k =
    go (entails c r) refl (implied_no n c rs cl w.2 (λ t o f. (k t o f).1))
  where
    go : (b : Bool) → entails c r ≡ b → T (entails_all c rs) → T (b && entails_all c rs)
    go true e rest = rest
    go false e rest =
        let fails : bias + r.slack < c r.late r.early + r.more = leb-false _ _ e in
        absurd (omega (arith, implied_of n c r cl w.0 w.1 (λ t o f. (k t o f).0)))

pub implied_append : (c : Table) (rs ss : List Rule) → entails_all c (rs ++ ss) ≡ (entails_all c rs && entails_all c ss)
unfolding entails_all
implied_append c [] ss = refl
implied_append c (r ∷ rs) ss =
    let here : Bool = entails c r in
    ap (◌&&◌ here) (implied_append c rs ss) ∙ sym (and_assoc here (entails_all c rs) (entails_all c ss))

-- ---- the earliest times

-- The triangle i, j, origin: i is no earlier than its own earliest time less what j may be behind
pub soonest_fits : (n : ℕ) (c : Table) → Closed n c → 0 < n → Fits n c (soonest c)
unfolding soonest earliest
soonest_fits n c cl z =
    fits_of n c (soonest c) λ i j hi hj. omega (arith, cl.triangle i j 0 hi hj z, cl.floor i hi, cl.floor j hj)

pub soonest_origin : (n : ℕ) (c : Table) → Closed n c → 0 < n → soonest c 0 ≡ pos 0
unfolding soonest earliest
soonest_origin n c cl z = ap pos (omega (arith, cl.diagonal 0 z))

pub soonest_least :
    (n : ℕ) (c : Table) → Closed n c → 0 < n → (t : Times) → t 0 ≡ pos 0 → Fits n c t → (x : ℕ) → x < n → earliest c x + dn (t x) ≤ up (t x)
unfolding earliest
soonest_least n c cl z t o f x h = omega (arith, fits_to f x 0 h z, ap up o, ap dn o, cl.floor x h)

-- ---- the latest times

pub latest_far : (n : ℕ) (c : Table) → Closed n c → (x : ℕ) → x < n → far c 0 x ≡ pos (latest c x)
unfolding far latest
latest_far n c cl x h =
    let z : 0 < n = omega arith in
    whole_eq (sub_ℕ (c 0 x) (c 0 0)) (pos (latest c x))
    (omega (arith, sub_spec (c 0 x) (c 0 0), cl.diagonal 0 z, cl.triangle 0 x 0 z h z, cl.floor x h))

pub latest_most :
    (n : ℕ) (c : Table) → Closed n c → (t : Times) → t 0 ≡ pos 0 → Fits n c t → (x : ℕ) → x < n → up (t x) ≤ latest c x + dn (t x)
unfolding latest
latest_most n c cl t o f x h =
    let z : 0 < n = omega arith in
    omega (arith, fits_to f 0 x z h, ap up o, ap dn o, cl.diagonal 0 z, cl.triangle 0 x 0 z h z, cl.floor x h)

-- ---- points that stand still

pub still_sum : (n : ℕ) (c : Table) → Closed n c → (x : ℕ) → x < n → Still c x → c 0 x + c x 0 ≡ bias + bias
unfolding earliest latest
still_sum n c cl x h still =
    let z : 0 < n = omega arith in
    omega (arith, cl.triangle 0 x 0 z h z, cl.diagonal 0 z, cl.floor x h)

pub sum_still : (c : Table) (x : ℕ) → c 0 x + c x 0 ≡ bias + bias → Still c x
unfolding earliest latest
sum_still c x sum = omega arith
