-- Rules added to a list of cells are the rules added to the table that it holds.
--   AgreeOutcomes n o q   there is no list and no table, or the list holds the table as far as its first n points
--   added_all_agree        so it is with the rules added
--   added_all_good         a good table stays one;  added_all_each: where all rules agree, adding each is adding all
use mathlib.Core.Path.{◌≡◌, refl, ap, ◌∙◌}
use mathlib.Core.Bool.{Bool, true, false, true≢false, false≢true}
use mathlib.Core.List.{List, [], ◌∷◌}
use mathlib.Core.Option.{Option, some, none}
use Prim.Native.Nat.{ℕ, ◌+◌, ◌≤◌}
use native.Mathlib.Omega.{arith}
use lib.Dec.{leb}
use lib.ListN.{length}
use borrow.Author.Tests.{leb-true}
use Rattle.spec_plain.specs.Limits.{side, cell_count}
use Rattle.spec_plain.specs.declared.Rule.{Rule}
use Rattle.spec_stn.specs.Table.{bias, Table, IsConsistent, is_consistent, add, add_all, Within, Agree}
use Rattle.spec_stn.proofs.Agree.{agree_add}
use Rattle.part_gaps.specs.Cells.{table_of, added}
use Rattle.part_gaps.proofs.Added.{added_length, added_agree}
use Rattle.part_gaps.proofs.GapTable.{GoodCells, added_good}
use Rattle.part_settling.specs.Settled.{added_all, added_each}

unfoldable pub AgreeOutcomes : ℕ → Option (List ℕ) → Option Table → Type 0
AgreeOutcomes n (some l) (some c) = Agree n (table_of l) c
AgreeOutcomes n (some l) none = ⊥
AgreeOutcomes n none (some c) = ⊥
AgreeOutcomes n none none = Unit {0}

pub added_all_agree :
    (n : ℕ) (rs : List Rule) (l : List ℕ) (c : Table) → length l ≡ cell_count → n ≤ side → Within n rs → Agree n (table_of l) c
    → AgreeOutcomes n (added_all rs n l) (add_all rs c)
unfolding AgreeOutcomes added_all add_all Within
added_all_agree n [] l c size few w e = e
added_all_agree n (r ∷ rs) l c size few w e =
    go (is_consistent r (table_of l)) (is_consistent r c)
    (ap (λ (z : ℕ). leb (bias + r.more) (r.slack + z)) (e r.early r.late w.0 w.1))
    (added_all_agree n rs (added l n r) (add r c) (added_length l n r size few) few w.2
    (λ i j hi hj. added_agree l n r size few i j hi hj ∙ agree_add n (table_of l) c r w.0 w.1 e i j hi hj))
  where
    go :
        (a b : Bool) → a ≡ b → AgreeOutcomes n (added_all rs n (added l n r)) (add_all rs (add r c))
        → AgreeOutcomes n (elim a [ true ↦ added_all rs n (added l n r) | false ↦ none ]) (elim b [ true ↦ add_all rs (add r c) | false ↦ none ])
    go true true e q = q
    go false false e q = tt
    go true false e q = absurd (true≢false e)
    go false true e q = absurd (false≢true e)

none_no : (l : List ℕ) → none ≡ some l → ⊥
none_no l e = let z : ◌≡◌ {A = ℕ} 0 1 = cc in omega arith

some_is : (l m : List ℕ) → some l ≡ some m → l ≡ m
some_is l m e = cc

-- a rule that was added agreed
pub added_all_good :
    (n H : ℕ) (rs : List Rule) (l m : List ℕ) → length l ≡ cell_count → n ≤ side → Within n rs → GoodCells l n H → added_all rs n l ≡ some m
    → (length m ≡ cell_count) × GoodCells m n H
unfolding added_all Within IsConsistent
added_all_good n H [] l m size few w g e = let same = some_is l m e in (rw (← same) size, rw (← same) g)
added_all_good n H (r ∷ rs) l m size few w g e =
    go (is_consistent r (table_of l)) refl e
    (λ good rest. added_all_good n H rs (added l n r) m (added_length l n r size few) few w.2 good rest)
  where
    go :
        (b : Bool) → is_consistent r (table_of l) ≡ b
        → elim b [ true ↦ added_all rs n (added l n r) | false ↦ none ] ≡ some m
        → (GoodCells (added l n r) n H → added_all rs n (added l n r) ≡ some m → (length m ≡ cell_count) × GoodCells m n H)
        → (length m ≡ cell_count) × GoodCells m n H
    go true t e rest = rest (added_good l n H r size few g w.0 w.1 (leb-true _ _ t)) e
    go false t e rest = absurd (none_no m e)

pub added_all_each : (n : ℕ) (rs : List Rule) (l m : List ℕ) → added_all rs n l ≡ some m → added_each rs n l ≡ m
unfolding added_all added_each
added_all_each n [] l m e = some_is l m e
added_all_each n (r ∷ rs) l m e = go (is_consistent r (table_of l)) e (added_all_each n rs (added l n r) m)
  where
    go :
        (b : Bool) → elim b [ true ↦ added_all rs n (added l n r) | false ↦ none ] ≡ some m
        → (added_all rs n (added l n r) ≡ some m → added_each rs n (added l n r) ≡ m) → added_each rs n (added l n r) ≡ m
    go true e rest = rest e
    go false e rest = absurd (none_no m e)
