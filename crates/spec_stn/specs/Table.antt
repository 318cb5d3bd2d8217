-- Closed tables: the gap table of document 01, "the minimal network of Dechter, Meiri and Pearl (1991)". A table is a function of two
-- point numbers, so that its laws are arithmetic; a cell holds its gap plus a bias, so that it is a natural number.
--   bias, Table      100,000,000, the largest horizon; the tables
--   gap c i j        the gap from point i to point j: how a cell is read by all that says what a table means. What is computed of a table keeps to
--                    cells, with the bias on the other side, as the code adds them; and so does `Closed`, the laws' own form of a good table
--   Closed n c       c is a minimal network of the first n points
--   Fits n c t       the timetable t keeps to the cells of the first n points
--   IsConsistent r c  some timetable of the closed table c keeps the rule r too;  is_consistent r c: the test;  add r c: the table of those that do
--   add_all rs c      rule after rule, or none when one does not agree with those before it
--   Within n rs      every rule names only the first n points
--   grow H n c       a new point, numbered n, from 0 to H;  grow_all H n k c: k new points
--   far c i          the timetable in which each point is as late after i as the table allows
--   earliest, latest the earliest and the latest time of a point;  soonest c: the timetable of the earliest times
--   Still c x        the point x stands still: its earliest time is its latest
--   entails c r      every timetable of the table keeps this rule;  entails_all c rs: these rules
--   pick σ c         the table of the points σ 0, σ 1, ..;  old_number f m: numbers before m points from f on left
--   Agree n c d      the same cells among the first n points
use Rattle.std.specs.Prelude.{◌≡◌, Bool, true, false, cond, ◌&&◌, List, [], ◌∷◌, ℕ, zero, suc, ◌+◌, ◌-◌, ◌≤◌, ◌<◌, min, leb, ltb, eqb, ℤ, pos, ◌+ℤ◌, ◌≤ℤ◌}
use Rattle.std.proofs.Math.Option.{Option, some, none}
use Rattle.std.proofs.Math.IntN.{sub_ℕ}
use Rattle.spec_plain.specs.declared.Rule.{Rule}
use Rattle.spec_plain.specs.Rules.{Times}

abbrev pub bias : ℕ
bias = 100000000

abbrev pub Table : Type 0
Table = ℕ → ℕ → ℕ

abbrev pub gap : Table → ℕ → ℕ → ℤ
gap c i j = sub_ℕ (c i j) bias

pub record Closed (n : ℕ) (c : Table) : Type 0 where
  -- the diagonal is 0
  pub diagonal : (i : ℕ) → i < n → c i i ≡ bias
  -- no entry exceeds the sum by way of a third point
  pub triangle : (i j k : ℕ) → i < n → j < n → k < n → c i k + bias ≤ c i j + c j k
  -- no gap exceeds the largest horizon
  pub bounded : (i j : ℕ) → i < n → j < n → c i j ≤ bias + bias
  -- no point is before the origin
  pub floor : (i : ℕ) → i < n → c i 0 ≤ bias

-- ---- timetables

pub record Fits (n : ℕ) (c : Table) (t : Times) : Type 0 where
  -- time of j minus time of i is at most the gap
  pub within : (i j : ℕ) → i < n → j < n → t j ≤ℤ (t i +ℤ gap c i j)

-- the origin is 0, and k is the gap from i to k later than i
unfoldable pub far : Table → ℕ → Times
far c i k = sub_ℕ (c i k) (c i 0)

unfoldable pub earliest : Table → ℕ → ℕ
earliest c x = bias - c x 0

unfoldable pub latest : Table → ℕ → ℕ
latest c x = c 0 x - bias

unfoldable pub soonest : Table → Times
soonest c x = pos (earliest c x)

abbrev pub Still : Table → ℕ → Type 0
Still c x = earliest c x ≡ latest c x

-- ---- a rule added

unfoldable pub IsConsistent : Rule → Table → Type 0
IsConsistent r c = bias + r.more ≤ r.slack + c r.early r.late

abbrev pub is_consistent : Rule → Table → Bool
is_consistent r c = leb (bias + r.more) (r.slack + c r.early r.late)

-- the least of the cell and the way from a by late and early to b
unfoldable pub add : Rule → Table → Table
add r c a b = min (c a b) (c a r.late + r.slack + c r.early b - (bias + r.more))

unfoldable pub add_all : List Rule → Table → Option Table
add_all [] c = some c
add_all (r ∷ rs) c = elim (is_consistent r c) [ true ↦ add_all rs (add r c) | false ↦ none ]

unfoldable pub Within : ℕ → List Rule → Type 0
Within n [] = Unit {0}
Within n (r ∷ rs) = (r.early < n) × (r.late < n) × Within n rs

-- the largest that early is after late is at most slack − more
abbrev pub entails : Table → Rule → Bool
entails c r = leb (c r.late r.early + r.more) (bias + r.slack)

unfoldable pub entails_all : Table → List Rule → Bool
entails_all c [] = true
entails_all c (r ∷ rs) = entails c r && entails_all c rs

-- ---- points added and dropped

-- the new point hangs on the origin: no earlier, and at most H later
unfoldable pub grow : ℕ → ℕ → Table → Table
grow H n c a b = cond (eqb a n) (cond (eqb b n) bias (c 0 b)) (cond (eqb b n) (c a 0 + H) (c a b))

unfoldable pub grow_all : ℕ → ℕ → ℕ → Table → Table
grow_all H n zero c = c
grow_all H n (suc k) c = grow_all H (suc n) k (grow H n c)

unfoldable pub pick : (ℕ → ℕ) → Table → Table
pick σ c a b = c (σ a) (σ b)

-- the number that point x had before the m points from f on left
unfoldable pub old_number : ℕ → ℕ → ℕ → ℕ
old_number f m x = cond (ltb x f) x (x + m)

-- ---- tables that agree

abbrev pub Agree : ℕ → Table → Table → Type 0
Agree n c d = (i j : ℕ) → i < n → j < n → c i j ≡ d i j
