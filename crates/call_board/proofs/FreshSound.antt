-- A fresh board is sound where its settings are in range, and the board of a refused fresh is not.
--   zeros_at         a list of zeros
--   zero_unsound     the zero board fails the test: its horizon is 0
--   fresh_origin, fresh_elsewhere, fresh_live   the cells of a fresh table: a gap of 0 at the origin, 0 everywhere else
--   fresh_cells_lem      they are a good table of one point;  fresh_sound: the fresh board is sound
use Prim.Native.Nat.{ℕ, zero, suc, ◌+◌, ◌*◌, ◌≤◌, ◌<◌}
use mathlib.Core.Path.{◌≡◌, refl, ◌∙◌, ap}
use mathlib.Core.Logic.{◌⊎◌, inl, inr}
use mathlib.Core.Bool.{false}
use native.Mathlib.Omega.{arith}
use lib.ListN.{get_or, set, replicate}
use borrow.Author.Tests.{not-false}
use Rattle.spec_plain.specs.Limits.{side, cell_count}
use Rattle.spec_plain.specs.Plain.{total}
use Rattle.part_lines.specs.ArrayLists.{line_of, lines_from, no_line}
use Rattle.spec_stn.specs.Table.{bias}
use Rattle.spec_rulebook.specs.Book.{empty_lines, fresh}
use Rattle.part_gaps.specs.Cells.{cell}
use Rattle.part_gaps.proofs.GapTable.{GoodCells, table_of_lem}
use Rattle.spec_plain.specs.declared.Settings.{Settings}
use Rattle.call_board.specs.Boards.{bad_settings, fresh_cells, fresh_board, zero_board}
use Rattle.base_lists.specs.All.{All}
use Rattle.base_lists.specs.Loops.{all_below}
use Rattle.part_boardwords.specs.Words.{all_marked, is_marked}
use Rattle.part_sound.specs.Sound.{SizedUse, Sound, clauses_kept, sound}
use Rattle.part_sound.proofs.Soundness.{settings_to}

pub zero_unsound : sound zero_board ≡ false
unfolding sound clauses_kept zero_board all_marked all_below is_marked
zero_unsound = refl

-- ---- the table of the origin alone

zeros_at : (n k : ℕ) → ◌≡◌ {A = ℕ} (get_or (replicate n 0) k 0) 0
zeros_at zero k = refl
zeros_at (suc n) zero = refl
zeros_at (suc n) (suc k) = zeros_at n k

first_set : (n v : ℕ) → 0 < n → get_or (set (replicate n 0) 0 v) 0 0 ≡ v
first_set zero v h = absurd (omega arith)
first_set (suc n) v h = refl

others_set : (n v k : ℕ) → 0 < k → get_or (set (replicate n 0) 0 v) k 0 ≡ 0
others_set zero v k h = refl
others_set (suc n) v zero h = absurd (omega arith)
others_set (suc n) v (suc k) h = zeros_at n k

pub fresh_origin : get_or fresh_cells 0 0 ≡ bias
unfolding fresh_cells
fresh_origin = first_set cell_count bias (omega arith)

pub fresh_elsewhere : (k : ℕ) → 0 < k → get_or fresh_cells k 0 ≡ 0
unfolding fresh_cells
fresh_elsewhere k h = others_set cell_count bias k h

fresh_live : (i j : ℕ) → i < 1 → j < 1 → cell fresh_cells i j ≡ bias
fresh_live i j hi hj = let first : i * side + j ≡ 0 = omega arith in ap (λ (k : ℕ). get_or fresh_cells k 0) first ∙ fresh_origin

pub fresh_cells_lem : (H : ℕ) → GoodCells fresh_cells 1 H
fresh_cells_lem H =
    record {
      closed =
          record {
            diagonal = λ i hi. fresh_live i i hi hi;
            triangle = λ i j k hi hj hk. omega (arith, fresh_live i k hi hk, fresh_live i j hi hj, fresh_live j k hj hk);
            bounded = λ i j hi hj. omega (arith, fresh_live i j hi hj);
            floor = λ i hi. omega (arith, fresh_live i 0 hi (omega arith));
          };
      rest = λ i j hi hj past. fresh_elsewhere (i * side + j) (beyond i j past);
      roof = λ i hi. omega (arith, fresh_live 0 i (omega arith) hi);
    }
  where
    beyond : (i j : ℕ) → 1 ≤ i ⊎ 1 ≤ j → 0 < i * side + j
    beyond i j (inl h) = omega arith
    beyond i j (inr h) = omega arith

-- ---- the board

empty_count : (n k : ℕ) → (get_or (lines_from (empty_lines n)) k no_line).count ≡ 0
unfolding empty_lines
empty_count zero k = refl
empty_count (suc n) zero = refl
empty_count (suc n) (suc k) = empty_count n k

empty_uses : (P : ℕ) (n k : ℕ) → All (SizedUse P) (line_of (get_or (lines_from (empty_lines n)) k no_line))
unfolding empty_lines
empty_uses P zero k = tt
empty_uses P (suc n) zero = tt
empty_uses P (suc n) (suc k) = empty_uses P n k

module _ (s : Settings) (good : bad_settings s ≡ false) where
  pub fresh_sound : Sound (fresh_board s)
  unfolding bad_settings fresh_board fresh total
  fresh_sound =
      let sized = settings_to s (not-false _ good) in
      record {
        marked = refl;
        horizon = sized.0;
        lead = sized.1;
        clock = omega arith;
        jobs = omega arith;
        sizes = tt;
        points = omega arith;
        lines = λ k lt. omega (arith, empty_count 16 k);
        uses = λ k lt. empty_uses 0 16 k;
        sent_first = tt;
        sent_still = tt;
        table = table_of_lem fresh_cells 1 s.horizon (fresh_cells_lem s.horizon);
      }
