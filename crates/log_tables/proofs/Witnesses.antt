-- Laws of what shows how two boards differ (specs/Witness), over plain variables.
--   none_yet               the loop's count: no cell yet;  same_more, other_more: one cell more, which is the same or another;  few: no more than the cells
--   none_alike, alike_none no cell is counted exactly when the cells are alike
--   first_uncounted, second_uncounted, all_counted   the answers of `differences`, of words that are lent
--   on_first, on_second    those of `witness_on`
--   no_row, no_point, no_board, time_is   those of `witness_time`, of words that are lent
use Prim.Native.Nat.{ℕ, zero, suc, ◌+◌, ◌-◌, ◌*◌, ◌≤◌, ◌<◌}
use mathlib.Core.Bool.{Bool, true, false, cond}
use mathlib.Core.List.{List}
use mathlib.Core.Path.{◌≡◌, refl, sym, ◌∙◌, ap}
use native.Mathlib.Numerals.{add-one}
use native.Mathlib.Omega.{arith}
use lib.Dec.{eqb}
use lib.ListN.{length, get_or}
use borrow.Author.Tests.{lt-ltb, le-ltb, eqb-true, eq-eqb, ne_eqb}
use Rattle.spec_plain.specs.Limits.{side, cell_count}
use Rattle.base_lists.proofs.Build.{build_at}
use Rattle.part_gaps.specs.Cells.{cell}
use Rattle.part_boardwords.specs.Board.{Board}
use Rattle.part_boardwords.specs.Layout.{board_size}
use Rattle.part_boardwords.specs.Words.{Words, word_in, zeros, cell_at, board_in, board_read, lent_board}
use Rattle.part_boardwords.proofs.Lent.{lent_table, cells_lent}
use Rattle.part_sound.specs.Sound.{sound}
use Rattle.part_sound.proofs.InWords.{lent_is, lent_whole}
use Rattle.log_tables.specs.declared.showing.Which.TheVariants.{First, Second}
use Rattle.log_tables.specs.Witness.{differing, differences, witness_on, witness_time}
use Rattle.log_tables.proofs.Differences.{Alike, alike_next}

-- ---- cells that differ

module _ (l m : List ℕ) where
  pub none_yet : 0 ≡ differing l m 0
  unfolding differing
  none_yet = refl

  pub same_more : (k n : ℕ) → n ≡ differing l m k → get_or l k 0 ≡ get_or m k 0 → n ≡ differing l m (k + 1)
  unfolding differing
  same_more k n e same = rw (add-one k, eq-eqb (get_or l k 0) (get_or m k 0) same) e

  pub other_more : (k n : ℕ) → n ≡ differing l m k → (get_or l k 0 ≡ get_or m k 0 → ⊥) → n + 1 ≡ differing l m (k + 1)
  unfolding differing
  other_more k n e other = rw (add-one k, ne_eqb (get_or l k 0) (get_or m k 0) other) (add-one n ∙ ap suc e)

  pub few : (n : ℕ) → differing l m n ≤ n
  unfolding differing
  few zero = omega arith
  few (suc n) = go (eqb (get_or l n 0) (get_or m n 0)) (differing l m n) (few n)
    where
      go : (b : Bool) (k : ℕ) → k ≤ n → cond b k (suc k) ≤ suc n
      go true k h = omega arith
      go false k h = omega arith

  pub none_alike : (n : ℕ) → differing l m n ≡ 0 → Alike l m n
  unfolding differing
  none_alike zero e = λ i h. absurd (omega arith)
  none_alike (suc n) e = go (eqb (get_or l n 0) (get_or m n 0)) refl (differing l m n) (none_alike n) e
    where
      go : (b : Bool) → eqb (get_or l n 0) (get_or m n 0) ≡ b → (k : ℕ) → (k ≡ 0 → Alike l m n) → cond b k (suc k) ≡ 0 → Alike l m (suc n)
      go true q k rest z = alike_next l m n (suc n) (rest z) (eqb-true _ _ q) (omega arith)
      go false q k rest z = absurd (omega (arith, z))

  pub alike_none : (n : ℕ) → Alike l m n → differing l m n ≡ 0
  unfolding differing
  alike_none zero a = refl
  alike_none (suc n) a = rw (eq-eqb (get_or l n 0) (get_or m n 0) (a n (omega arith))) (alike_none n (λ i h. a i (omega arith)))

module _ (b d : Board) where
  pub first_uncounted : sound b ≡ false → 0 ≡ differences b d
  unfolding differences
  first_uncounted e = rw e

  pub second_uncounted : sound b ≡ true → sound d ≡ false → 0 ≡ differences b d
  unfolding differences
  second_uncounted e f = rw (e, f)

  pub boards_counted : sound b ≡ true → sound d ≡ true → differing b.gaps d.gaps cell_count ≡ differences b d
  unfolding differences
  boards_counted e f = rw (e, f)

-- the cells are counted where they lie
pub all_counted :
    (w v : List ℕ) → sound (lent_board w) ≡ true → sound (lent_board v) ≡ true
    → differing (lent_table w) (lent_table v) cell_count ≡ differences (lent_board w) (lent_board v)
all_counted w v e f =
    let first = lent_whole w e in
    let second = lent_whole v f in
    (λ i. differing (lent_cells w first.0 first.1 i) (lent_cells v second.0 second.1 i) cell_count)
    ∙ boards_counted (lent_board w) (lent_board v) e f
  where
    lent_cells : (u : List ℕ) → length u ≡ board_size → lent_board u ≡ board_in u → lent_table u ≡ (lent_board u).gaps
    lent_cells u long same = cells_lent u long ∙ sym (ap (λ (b : Board). b.gaps) same)

-- ---- the board with the larger cell

pub on_first : (x y : ℕ) → y < x → First ≡ witness_on x y
unfolding witness_on
on_first x y h = rw (lt-ltb y x h)

pub on_second : (x y : ℕ) → x ≤ y → Second ≡ witness_on x y
unfolding witness_on
on_second x y h = rw (le-ltb y x h)

-- ---- its times

module _ (b : Board) (i k : ℕ) where
  pub no_row : side ≤ i → 0 ≡ witness_time b i k
  unfolding witness_time
  no_row h = rw (le-ltb i side h)

  pub no_point : i < side → side ≤ k → 0 ≡ witness_time b i k
  unfolding witness_time
  no_point g h = rw (lt-ltb i side g, le-ltb k side h)

  pub cells_time : i < side → k < side → cell b.gaps i k - cell b.gaps i 0 ≡ witness_time b i k
  unfolding witness_time
  cells_time g h = rw (lt-ltb i side g, lt-ltb k side h)

module _ (w : List ℕ) (i k : ℕ) (g : i < side) (h : k < side) where
  -- the cells of any words
  read_time : (f : Words) → cell_at f (i * side + k) - cell_at f (i * side + 0) ≡ witness_time (board_read f) i k
  read_time f =
      (λ s. sym (build_at (cell_at f) cell_count (i * side + k) 0 (omega arith)) s - sym (build_at (cell_at f) cell_count (i * side + 0) 0 (omega arith)) s)
      ∙ cells_time (board_read f) i k g h

  pub no_board : (length w ≡ board_size → ⊥) → 0 ≡ witness_time (lent_board w) i k
  unfolding lent_board
  no_board other = rw (ne_eqb (length w) board_size other) (read_time zeros)

  pub time_is :
      length w ≡ board_size → {x y : ℕ} → x ≡ cell_at (word_in w) (i * side + k) → y ≡ cell_at (word_in w) (i * side + 0)
      → x - y ≡ witness_time (lent_board w) i k
  time_is long e f =
      (λ s. e s - f s) ∙ read_time (word_in w) ∙ sym (ap (λ (b : Board). witness_time b i k) (lent_is w long))
