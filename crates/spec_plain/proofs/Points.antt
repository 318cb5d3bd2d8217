-- Lists of points among the first n.
--   Below n xs      each of these points is among the first n;  below_append: two such lists, one after the other
--   range_below     the points of a range;  unsent_below: of the unsent ones among the first jobs
use mathlib.Core.Bool.{Bool, true, false, cond}
use mathlib.Core.List.{List, [], ◌∷◌, ◌++◌}
use Prim.Native.Nat.{ℕ, zero, suc, ◌+◌, ◌≤◌, ◌<◌}
use native.Mathlib.Omega.{arith}
use Rattle.spec_plain.specs.declared.Job.{Job}
use Rattle.spec_plain.specs.Plain.{total, range, unsent_points}

abbrev pub Below : ℕ → List ℕ → Type 0
Below n [] = Unit {0}
Below n (x ∷ xs) = (x < n) × Below n xs

pub below_append : (n : ℕ) (xs ys : List ℕ) → Below n xs → Below n ys → Below n (xs ++ ys)
below_append n [] ys a b = b
below_append n (x ∷ xs) ys a b = (a.0, below_append n xs ys a.1 b)

pub range_below : (n m x : ℕ) → x + m ≤ n → Below n (range x m)
unfolding range
range_below n zero x le = tt
range_below n (suc m) x le = (omega arith, range_below n m (suc x) (omega arith))

pub unsent_below : (n k : ℕ) (js : List Job) (x : ℕ) → x + total js ≤ n → Below n (unsent_points x k js)
unfolding unsent_points total
unsent_below n zero js x le = tt
unsent_below n (suc k) [] x le = tt
unsent_below n (suc k) (j ∷ js) x le =
    below_append n (cond j.sent [] (range x j.points)) (unsent_points (x + j.points) k js) (go j.sent)
    (unsent_below n k js (x + j.points) (omega arith))
  where
    go : (b : Bool) → Below n (cond b [] (range x j.points))
    go true = tt
    go false = range_below n j.points x (omega arith)
