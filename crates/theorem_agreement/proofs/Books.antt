-- A sound board is the board of a rule book: of that with one rule for each cell of two live points.
--   row_kept, table_kept   the rules of a row, of a table, are kept when each cell's is
--   cells_fit              they are kept exactly by the timetables that fit the table
--   parts_holds            the table stands for the rules
--   sound_sim              the board and its book are side by side
use mathlib.Core.Path.{◌≡◌}
use mathlib.Core.Logic.{◌↔◌}
use mathlib.Core.List.{List, [], ◌∷◌}
use Prim.Native.Nat.{ℕ, zero, suc, ◌<◌}
use native.Mathlib.Omega.{arith}
use native.Mathlib.Decide.{ℕ_discrete}
use lib.IntN.{ℤ, pos}
use Rattle.spec_plain.specs.declared.Job.{Job}
use Rattle.spec_plain.specs.declared.Use.{Use}
use Rattle.spec_plain.specs.Plain.{State, total, live_count}
use Rattle.spec_plain.specs.Rules.{Times, Kept, AllKept}
use Rattle.spec_plain.proofs.Rules.{kept_to, kept_of, kept_append}
use Rattle.spec_stn.specs.Table.{Fits}
use Rattle.spec_stn.proofs.Fits.{fits_to, fits_of}
use Rattle.part_gaps.specs.Cells.{table_of}
use Rattle.spec_rulebook.specs.Book.{Point, completed, Possible}
use Rattle.part_boardwords.specs.Board.{Board}
use Rattle.base_lists.specs.All.{All}
use Rattle.part_sound.specs.Sound.{SizedJob, SizedUse, Sound}
use Rattle.theorem_demands.specs.Beside.{LineOfLive, LinesOfLive, AllHavePoints, StandsFor, Sim}
use Rattle.theorem_demands.proofs.Tries.{beside}
use Rattle.theorem_agreement.specs.Abstract.{Shaped, abstract_of, cell_rule, row_rules, table_rules, book_of}
use Rattle.theorem_agreement.proofs.Parts.{SizedLine, Parts, parts_of}

-- ---- the rules of the cells

module _ (l : List ℕ) (t : Point → ℤ) where
  row_kept : (i n : ℕ) → AllKept t (row_rules l i n) ↔ ((j : ℕ) → j < n → Kept t (cell_rule l i j))
  unfolding row_rules AllKept
  row_kept i zero = (λ k j h. absurd (omega arith), λ k. tt)
  row_kept i (suc n) = let rest = row_kept i n in (λ k j h. to k rest j h (ℕ_discrete j n), λ k. (k n (omega arith), rest.1 (λ j h. k j (omega arith))))
    where
      to :
          Kept t (cell_rule l i n) × AllKept t (row_rules l i n) → AllKept t (row_rules l i n) ↔ ((j : ℕ) → j < n → Kept t (cell_rule l i j))
          → (j : ℕ) → j < suc n → Dec (j ≡ n) → Kept t (cell_rule l i j)
      to k rest j h (yes e) = rw e k.0
      to k rest j h (no e) = rest.0 k.1 j (omega arith)

  table_kept : (n m : ℕ) → AllKept t (table_rules l n m) ↔ ((i j : ℕ) → i < m → j < n → Kept t (cell_rule l i j))
  unfolding table_rules AllKept
  table_kept n zero = (λ k i j h. absurd (omega arith), λ k. tt)
  table_kept n (suc m) =
      let rest = table_kept n m in
      let split = kept_append t (row_rules l m n) (table_rules l n m) in
      let row = row_kept m n in (
        λ k i j hi hj. to (row.0 (split.0 k).0) (rest.0 (split.0 k).1) i j hi hj (ℕ_discrete i m),
        λ k. split.1 (row.1 (λ j hj. k m j (omega arith) hj), rest.1 (λ i j hi hj. k i j (omega arith) hj)),
      )
    where
      to :
          ((j : ℕ) → j < n → Kept t (cell_rule l m j)) → ((i j : ℕ) → i < m → j < n → Kept t (cell_rule l i j))
          → (i j : ℕ) → i < suc m → j < n → Dec (i ≡ m) → Kept t (cell_rule l i j)
      to row rest i j hi hj (yes e) = rw e (row j hj)
      to row rest i j hi hj (no e) = rest i j (omega arith) hj

cells_fit : (l : List ℕ) (n : ℕ) (u : Times) (g : ℕ → ℤ) → Fits n (table_of l) u ↔ AllKept (completed u g) (table_rules l n n)
unfolding completed cell_rule
cells_fit l n u g =
    let t : Point → ℤ = completed u g in
    let all = table_kept l t n n in (
      λ f. all.1 (λ i j hi hj. kept_of t (cell_rule l i j) (fits_to f i j hi hj)),
      λ k. fits_of n (table_of l) u (λ i j hi hj. kept_to t (cell_rule l i j) (all.0 k i j hi hj)),
    )

-- ---- the rest of a state

sizes_in : (H : ℕ) (js : List Job) → All (SizedJob H) js → AllHavePoints js
unfolding AllHavePoints
sizes_in H [] a = tt
sizes_in H (j ∷ js) a = (let two = a.0.least in omega (arith, two), sizes_in H js a.1)

line_in : (n : ℕ) (us : List Use) → All (SizedUse n) us → LineOfLive (suc n) us
unfolding LineOfLive
line_in n [] a = tt
line_in n (u ∷ us) a =
    let hi = a.0.live in
    (omega (arith, hi), line_in n us a.1)

lines_in_lem : (n : ℕ) (ls : List (List Use)) → All (SizedLine n) ls → LinesOfLive (suc n) ls
unfolding LinesOfLive
lines_in_lem n [] a = tt
lines_in_lem n (us ∷ ls) a = (line_in n us a.0.uses, lines_in_lem n ls a.1)

-- ---- side by side

pub parts_holds : {s : State} {l : List ℕ} → Parts s l → StandsFor s (table_of l) (table_rules l (live_count s) (live_count s))
unfolding live_count Possible
parts_holds {s} {l} p =
    let few = p.limits.horizon.1 in
    record {
      closed = p.table.closed;
      same = λ u. (
        λ f. (f.0, ((λ k. pos 0), (cells_fit l (live_count s) u (λ k. pos 0)).0 f.1)),
        λ q. (q.0, (cells_fit l (live_count s) u q.1.0).1 q.1.1),
      );
      still = p.still;
      lines = lines_in_lem (total s.jobs) s.lines p.limits.lines;
      jobs = sizes_in s.settings.horizon s.jobs p.limits.sizes;
      small = omega (arith, few);
    }

pub sound_sim : (b : Board) → Shaped b → Sound b → Sim (abstract_of b) (book_of b)
sound_sim b w s = beside (parts_holds (parts_of b w s))
