-- Placing keeps to the points that are there: its lines name only live points, and so do its rules.
--   use_in, lines_get, lines_set   a use of a line, a line of the lines, a line put in its place
--   lines_wider            more points
--   inserted_in            a use put into a line
--   within_append          rules of two lists
--   PutsIn k ps            the allocations of an offer begin at its first k steps
--   PlacedIn n q           what placing comes to names only the first n points;  placed_in shows it
use mathlib.Core.Bool.{Bool, true, false, cond}
use mathlib.Core.List.{List, [], ◌∷◌, ◌++◌}
use Prim.Native.Nat.{ℕ, zero, suc, ◌+◌, ◌≤◌, ◌<◌}
use native.Mathlib.Omega.{arith}
use lib.Dec.{ltb, leb}
use lib.ListN.{length, get_or, set}
use Rattle.base_rulings.specs.Answer.{cause}
use Rattle.spec_plain.specs.Limits.{most_uses}
use Rattle.spec_plain.specs.declared.Settings.{Settings}
use Rattle.spec_plain.specs.declared.Use.{Use}
use Rattle.spec_plain.specs.declared.Allocation.{Allocation}
use Rattle.spec_plain.specs.declared.Rule.{Rule}
use Rattle.spec_plain.specs.Plain.{no_use, in_order, inserted, rule_before, rule_after, used_from, placed, Placed}
use Rattle.spec_stn.specs.Table.{Within}
use Rattle.theorem_demands.specs.Beside.{LineOfLive, LinesOfLive}

-- ---- lines

use_in : (n p : ℕ) (l : List Use) → 0 < n → LineOfLive n l → (get_or l p no_use).point < n
unfolding LineOfLive
use_in n p [] z a = z
use_in n zero (u ∷ l) z a = a.0
use_in n (suc p) (u ∷ l) z a = use_in n p l z a.1

line_wider : (n k : ℕ) (l : List Use) → n ≤ k → LineOfLive n l → LineOfLive k l
unfolding LineOfLive
line_wider n k [] le a = tt
line_wider n k (u ∷ l) le a = (omega (arith, a.0), line_wider n k l le a.1)

pub lines_wider : (n k : ℕ) (ls : List (List Use)) → n ≤ k → LinesOfLive n ls → LinesOfLive k ls
unfolding LinesOfLive
lines_wider n k [] le a = tt
lines_wider n k (l ∷ ls) le a = (line_wider n k l le a.0, lines_wider n k ls le a.1)

lines_get : (n r : ℕ) (ls : List (List Use)) → LinesOfLive n ls → LineOfLive n (get_or ls r [])
unfolding LinesOfLive LineOfLive
lines_get n r [] a = tt
lines_get n zero (l ∷ ls) a = a.0
lines_get n (suc r) (l ∷ ls) a = lines_get n r ls a.1

lines_set : (n r : ℕ) (ls : List (List Use)) (l : List Use) → LinesOfLive n ls → LineOfLive n l → LinesOfLive n (set ls r l)
unfolding LinesOfLive
lines_set n r [] l a b = tt
lines_set n zero (x ∷ ls) l a b = (b, a.1)
lines_set n (suc r) (x ∷ ls) l a b = (a.0, lines_set n r ls l a.1 b)

inserted_in : (n p : ℕ) (u : Use) (l : List Use) → u.point < n → LineOfLive n l → LineOfLive n (inserted p u l)
unfolding LineOfLive inserted
inserted_in n zero u l h a = (h, a)
inserted_in n (suc p) u [] h a = (h, tt)
inserted_in n (suc p) u (x ∷ l) h a = (a.0, inserted_in n p u l h a.1)

-- ---- rules

pub within_append : (n : ℕ) (rs ss : List Rule) → Within n rs → Within n ss → Within n (rs ++ ss)
unfolding Within
within_append n [] ss a b = b
within_append n (r ∷ rs) ss a b = (a.0, a.1, within_append n rs ss a.2 b)

before_within : (s : Settings) (n p : ℕ) (l : List Use) (u : Use) → 0 < n → LineOfLive n l → u.point < n → Within n (rule_before s l p u)
unfolding Within rule_before in_order
before_within s n zero l u z a h = tt
before_within s n (suc p) l u z a h = (use_in n p l z a, h, tt)

after_within : (s : Settings) (n p : ℕ) (l : List Use) (u : Use) → 0 < n → LineOfLive n l → u.point < n → Within n (rule_after s l p u)
unfolding Within rule_after in_order
after_within s n p l u z a h = go (ltb p (length l))
  where
    go : (b : Bool) → Within n (cond b (in_order s u (get_or l p no_use) ∷ []) [])
    go true = (h, use_in n p l z a, tt)
    go false = tt

-- ---- placing

unfoldable pub PutsIn : ℕ → List Allocation → Type 0
PutsIn k [] = Unit {0}
PutsIn k (p ∷ ps) = (p.step < k) × PutsIn k ps

unfoldable pub PlacedIn : ℕ → Placed → Type 0
PlacedIn n (Placed.stop c) = Unit {0}
PlacedIn n (Placed.done ls rs) = LinesOfLive n ls × Within n rs

-- x is p0 of the job, and k the number of its steps
pub placed_in :
    (s : Settings) (n x k i : ℕ) (ps : List Allocation) (ls : List (List Use)) (rs : List Rule) → x + k ≤ n
    → PutsIn k ps → LinesOfLive n ls → Within n rs → PlacedIn n (placed s x i ps ls rs)
unfolding PutsIn PlacedIn placed used_from
placed_in s n x k i [] ls rs le a b w = (b, w)
placed_in s n x k i (p ∷ ps) ls rs le a b w =
    choose (ltb (length line) p.place) (leb most_uses (length line)) (placed s x (suc i) ps after rules)
    (placed_in s n x k (suc i) ps after rules le a.1 after_in rules_in)
  where
    line : List Use
    line = get_or ls p.resource []

    after : List (List Use)
    after = set ls p.resource (inserted p.place (used_from x p) line)

    before : List Rule
    before = rule_before s line p.place (used_from x p)

    behind : List Rule
    behind = rule_after s line p.place (used_from x p)

    rules : List Rule
    rules = rs ++ (before ++ behind)

    line_in : LineOfLive n line
    line_in = lines_get n p.resource ls b

    point_in : (used_from x p).point < n
    point_in = omega (arith, a.0)

    after_in : LinesOfLive n after
    after_in =
        lines_set n p.resource ls (inserted p.place (used_from x p) line) b
        (inserted_in n p.place (used_from x p) line point_in line_in)

    some_in : 0 < n
    some_in = omega (arith, a.0)

    rules_in : Within n rules
    rules_in =
        within_append n rs (before ++ behind) w
        (within_append n before behind (before_within s n p.place line (used_from x p) some_in line_in point_in)
        (after_within s n p.place line (used_from x p) some_in line_in point_in))

    choose :
        (exceeds has32 : Bool) (next : Placed) → PlacedIn n next
        → PlacedIn n (cond exceeds (Placed.stop (cause 15 i)) (cond has32 (Placed.stop (cause 16 i)) next))
    choose true has32 next q = tt
    choose false true next q = tt
    choose false false next q = q
