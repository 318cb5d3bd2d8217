-- Allocations put into lines, as the plain machine's `placed` does it.
--   line_for ls p       the line, of the lines ls, that the allocation p goes into
--   lines_with x ls p   the lines with its use put in, where p0 of its job is point x
--   all_with x ls ps    the lines with the uses of all of ps put in, one after the other
--   AllFit x ls ps     put in so, none of them is stopped by 15 or 16;  AllFit-prop: there is one proof of it at most
use Rattle.std.specs.Prelude.{ℕ, ◌≤◌, ◌<◌, List, [], ◌∷◌, length, get_or, set}
use Rattle.std.specs.Coded.{Unit-prop, le_prop}
use Rattle.spec_plain.specs.Limits.{most_uses}
use Rattle.spec_plain.specs.declared.Allocation.{Allocation}
use Rattle.spec_plain.specs.declared.Use.{Use}
use Rattle.spec_plain.specs.Plain.{used_from, inserted}

abbrev pub line_for : List (List Use) → Allocation → List Use
line_for ls p = get_or ls p.resource []

abbrev pub lines_with : ℕ → List (List Use) → Allocation → List (List Use)
lines_with x ls p = set ls p.resource (inserted p.place (used_from x p) (line_for ls p))

unfoldable pub all_with : ℕ → List (List Use) → List Allocation → List (List Use)
all_with x ls [] = ls
all_with x ls (p ∷ ps) = all_with x (lines_with x ls p) ps

unfoldable pub AllFit : ℕ → List (List Use) → List Allocation → Type 0
AllFit x ls [] = Unit {0}
AllFit x ls (p ∷ ps) = (p.place ≤ length (line_for ls p)) × (length (line_for ls p) < most_uses) × AllFit x (lines_with x ls p) ps

pub AllFit-prop : (x : ℕ) (ls : List (List Use)) (ps : List Allocation) → IsProp (AllFit x ls ps)
unfolding AllFit
AllFit-prop x ls [] = Unit-prop
AllFit-prop x ls (p ∷ ps) = λ a b i. (le_prop a.0 b.0 i, le_prop a.1 b.1 i, AllFit-prop x (lines_with x ls p) ps a.2 b.2 i)
