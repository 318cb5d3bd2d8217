-- Laws of a list that rows are laid over.
--   length_laid, laid_none, laid_more, laid_turn   the list stays as long as it was; no row stored; the next row stored
--   laid_in, laid_beyond     what a reader of the list finds: a row, or what was there
--   laid_front               the rows laid over a front of the list that is long enough
use Prim.Native.Nat.{ℕ, zero, suc, ◌+◌, ◌≤◌, ◌<◌}
use mathlib.Core.Path.{◌≡◌, refl, sym, ◌∙◌, ap}
use mathlib.Core.List.{List, [], ◌∷◌, ◌++◌}
use native.Mathlib.Omega.{arith}
use lib.ListN.{length, get_or, set, take, drop, take-append-drop}
use Rattle.call_report.specs.declared.Row.{Row}
use Rattle.call_report.specs.Rows.{laid, no_row}

-- ---- a list laid over another

pub length_laid : (rs l : List Row) → length (laid rs l) ≡ length l
unfolding laid
length_laid [] l = refl
length_laid (r ∷ rs) [] = refl
length_laid (r ∷ rs) (x ∷ l) = ap suc (length_laid rs l)

pub laid_none : (rs l : List Row) → laid (take 0 rs) l ≡ l
unfolding laid
laid_none [] l = refl
laid_none (r ∷ rs) l = refl

pub laid_more :
    (rs l : List Row) (k : ℕ) → k < length rs → k < length l → set (laid (take k rs) l) k (get_or rs k no_row) ≡ laid (take (suc k) rs) l
unfolding laid
laid_more [] l k h w = absurd (omega arith)
laid_more (r ∷ rs) [] k h w = absurd (omega arith)
laid_more (r ∷ rs) (x ∷ l) zero h w = ap (◌∷◌ r) (sym (laid_none rs l))
laid_more (r ∷ rs) (x ∷ l) (suc k) h w = ap (◌∷◌ r) (laid_more rs l k (omega arith) (omega arith))

-- the next row stored in what the rows before it were laid over
pub laid_turn :
    (rs l m : List Row) (k : ℕ) (r : Row) → m ≡ laid (take k rs) l → r ≡ get_or rs k no_row → k < length rs → k < length l
    → set m k r ≡ laid (take (k + 1) rs) l
laid_turn rs l m k r before is h w =
    (λ i. set (before i) k (is i)) ∙ laid_more rs l k h w ∙ ap (λ (n : ℕ). laid (take n rs) l) {x = suc k} {y = k + 1} (omega arith)

-- what a reader of the list finds
pub laid_in : (rs l : List Row) (k : ℕ) (z : Row) → k < length rs → k < length l → get_or (laid rs l) k z ≡ get_or rs k z
unfolding laid
laid_in [] l k z h w = absurd (omega arith)
laid_in (r ∷ rs) [] k z h w = absurd (omega arith)
laid_in (r ∷ rs) (x ∷ l) zero z h w = refl
laid_in (r ∷ rs) (x ∷ l) (suc k) z h w = laid_in rs l k z (omega arith) (omega arith)

pub laid_beyond : (rs l : List Row) (k : ℕ) (z : Row) → length rs ≤ k → get_or (laid rs l) k z ≡ get_or l k z
unfolding laid
laid_beyond [] l k z h = refl
laid_beyond (r ∷ rs) [] k z h = refl
laid_beyond (r ∷ rs) (x ∷ l) zero z h = absurd (omega arith)
laid_beyond (r ∷ rs) (x ∷ l) (suc k) z h = laid_beyond rs l k z (omega arith)

-- the rows laid over a front of the list that is long enough
pub laid_front : (rs l : List Row) (n : ℕ) → length rs ≤ n → laid rs (take n l) ++ drop n l ≡ laid rs l
unfolding laid
laid_front [] l n h = take-append-drop n l
laid_front (r ∷ rs) l zero h = absurd (omega arith)
laid_front (r ∷ rs) [] (suc n) h = refl
laid_front (r ∷ rs) (x ∷ l) (suc n) h = ap (◌∷◌ r) (laid_front rs l n (omega arith))
