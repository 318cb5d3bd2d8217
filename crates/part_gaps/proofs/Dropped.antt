-- Points dropped from a list of cells are points dropped from its table. The points from f on are d many, and `left` are left.
--   old_most                no old number is more than d above the new one
--   old_least               and none is below it: no cell moves up
--   columns_dropped         a row moved in two parts, and cleared past them, is the row without the columns of the points dropped
--   rows_next               of a list whose rows before a are written: row a is written too
--   rest_cleared            with all past the rows that are left cleared, the points are dropped
--   dropped_length          the list has as many cells as any
--   dropped_agree           it holds the table of the points left;  dropped_rest: freed cells hold 0
--   dropped_good            good cells stay good
use mathlib.Core.List.{List}
use mathlib.Core.Logic.{◌⊎◌}
use mathlib.Core.Path.{◌≡◌, sym, ◌∙◌, ap, subst}
use Prim.Native.Nat.{ℕ, zero, ◌+◌, ◌-◌, ◌*◌, ◌≤◌, ◌<◌}
use native.Mathlib.Decide.{dec_lt}
use native.Mathlib.Omega.{arith}
use lib.ListN.{length, get_or, replicate, length-replicate, get_or-replicate, get_or-eq_default}
use Rattle.spec_plain.specs.Limits.{side, cell_count}
use Rattle.base_lists.proofs.Rewritten.{rewritten_length, rewritten_in, rewritten_below, rewritten_from, rewritten_is, rewritten_more, ahead}
use Rattle.base_lists.specs.Loops.{rewritten}
use Rattle.spec_stn.specs.Table.{Closed, Agree, pick, old_number}
use Rattle.spec_stn.proofs.Agree.{agree_closed}
use Rattle.spec_stn.proofs.Pick.{pick_closed, old_low, old_high, old_lt}
use Rattle.part_gaps.specs.Cells.{cell, table_of, overlaid, dropped_cell, dropped}
use Rattle.part_gaps.proofs.GapTable.{GoodCells}
use Rattle.part_gaps.proofs.Overlaid.{overlay_in, overlay_out, overlaid_length, overlaid_agree, overlaid_rest}

pub old_most : (f d x : ℕ) → old_number f d x ≤ x + d
old_most f d x = go (dec_lt x f)
  where
    go : Dec (x < f) → old_number f d x ≤ x + d
    go (yes h) = omega (arith, old_low f d x h)
    go (no h) = omega (arith, old_high f d x (omega arith))

pub old_least : (f d x : ℕ) → x ≤ old_number f d x
old_least f d x = go (dec_lt x f)
  where
    go : Dec (x < f) → x ≤ old_number f d x
    go (yes h) = omega (arith, old_low f d x h)
    go (no h) = omega (arith, old_high f d x (omega arith))

-- ---- in place

-- what a cell holds at the end: that of the old numbers, or 0
module _ (l : List ℕ) (f d left a b : ℕ) (small : b < side) where
  dropped_in : b < left → dropped_cell l f d left (a * side + b) ≡ cell l (old_number f d a) (old_number f d b)
  unfolding pick
  dropped_in h = overlay_in left (pick (old_number f d) (table_of l)) (replicate cell_count 0) a b small h

  dropped_out : a < side → left ≤ b → dropped_cell l f d left (a * side + b) ≡ 0
  dropped_out ha h =
      overlay_out left (pick (old_number f d) (table_of l)) (replicate cell_count 0) a b small h
      ∙ get_or-replicate cell_count (a * side + b) 0 0 (omega arith)

-- the row with its first f cells moved is x, with the later ones y, and with the cells past them cleared z
pub columns_dropped :
    (l x y z : List ℕ) (f d left a o : ℕ) → length l ≡ cell_count → f ≤ left → left + d ≤ side → a < left → o ≡ old_number f d a
    → x ≡ rewritten (λ k. get_or l (o * side + (k - a * side)) 0) l (a * side) (a * side + f)
    → y ≡ rewritten (λ k. get_or x (o * side + f + d + (k - (a * side + f))) 0) x (a * side + f) (a * side + f + (left - f))
    → z ≡ rewritten (λ k. 0) y (a * side + left) (a * side + left + (side - left))
    → z ≡ rewritten (dropped_cell l f d left) l (a * side) ((a + 1) * side)
columns_dropped l x y z f d left a o size le few ha eo first second third =
    rewritten_is (dropped_cell l f d left) l z (a * side) ((a + 1) * side) (same_z ∙ same_y ∙ same_x) inside
    (λ k h. z_below k (omega arith) ∙ y_below k (omega arith) ∙ in_x k ∙ rewritten_below e l (a * side) p k h)
    (λ k h.
    in_z k ∙ rewritten_from nil y q (q + (side - left)) k (omega arith) ∙ in_y k ∙ rewritten_from g x p (p + (left - f)) k (omega arith)
    ∙ x_from k (omega arith))
  where
    p : ℕ
    p = a * side + f

    q : ℕ
    q = a * side + left

    e : ℕ → ℕ
    e k = get_or l (o * side + (k - a * side)) 0

    g : ℕ → ℕ
    g k = get_or x (o * side + f + d + (k - (a * side + f))) 0

    nil : ℕ → ℕ
    nil k = 0

    same_x : length x ≡ length l
    same_x = ap length first ∙ rewritten_length e l (a * side) p

    same_y : length y ≡ length x
    same_y = ap length second ∙ rewritten_length g x p (p + (left - f))

    same_z : length z ≡ length y
    same_z = ap length third ∙ rewritten_length nil y q (q + (side - left))

    in_x : (k : ℕ) → get_or x k 0 ≡ get_or (rewritten e l (a * side) p) k 0
    in_x k = ap (λ (w : List ℕ). get_or w k 0) first

    in_y : (k : ℕ) → get_or y k 0 ≡ get_or (rewritten g x p (p + (left - f))) k 0
    in_y k = ap (λ (w : List ℕ). get_or w k 0) second

    in_z : (k : ℕ) → get_or z k 0 ≡ get_or (rewritten nil y q (q + (side - left))) k 0
    in_z k = ap (λ (w : List ℕ). get_or w k 0) third

    z_below : (k : ℕ) → k < q → get_or z k 0 ≡ get_or y k 0
    z_below k h = in_z k ∙ rewritten_below nil y q (q + (side - left)) k h

    y_below : (k : ℕ) → k < p → get_or y k 0 ≡ get_or x k 0
    y_below k h = in_y k ∙ rewritten_below g x p (p + (left - f)) k h

    x_from : (k : ℕ) → p ≤ k → get_or x k 0 ≡ get_or l k 0
    x_from k h = in_x k ∙ rewritten_from e l (a * side) p k h

    one : (b : ℕ) → b < side → Dec (b < f) → Dec (b < left) → cell z a b ≡ dropped_cell l f d left (a * side + b)
    one b small (yes lt) near =
        z_below (a * side + b) (omega arith)
        ∙ y_below (a * side + b) (omega arith)
        ∙ in_x (a * side + b)
        ∙ rewritten_in e l (a * side) p (a * side + b) (omega arith) (omega arith) (omega arith)
        ∙ ap (λ (i : ℕ). get_or l i 0) (omega (arith, eo, old_low f d b lt))
        ∙ sym (dropped_in l f d left a b small (omega arith))
    one b small (no ge) (yes lt) =
        z_below (a * side + b) (omega arith)
        ∙ in_y (a * side + b)
        ∙ rewritten_in g x p (p + (left - f)) (a * side + b) (omega arith) (omega arith) (omega (arith, same_x))
        ∙ x_from (o * side + f + d + (a * side + b - (a * side + f))) (omega (arith, eo, old_least f d a))
        ∙ ap (λ (i : ℕ). get_or l i 0) (omega (arith, eo, old_high f d b (omega arith)))
        ∙ sym (dropped_in l f d left a b small lt)
    one b small (no ge) (no past) =
        in_z (a * side + b)
        ∙ rewritten_in nil y q (q + (side - left)) (a * side + b) (omega arith) (omega arith) (omega (arith, same_x, same_y))
        ∙ sym (dropped_out l f d left a b small (omega arith) (omega arith))

    inside : (k : ℕ) → a * side ≤ k → k < (a + 1) * side → k < length l → get_or z k 0 ≡ dropped_cell l f d left k
    inside k lo hi h =
        let place : a * side + (k - a * side) ≡ k = omega arith in
        let here = one (k - a * side) (omega arith) (dec_lt (k - a * side) f) (dec_lt (k - a * side) left) in
        subst (λ (i : ℕ). get_or z i 0 ≡ dropped_cell l f d left i) place here

-- of a list m whose rows before a are written, the cells that row a comes from are still those of l
pub rows_next :
    (l m x : List ℕ) (f d left a : ℕ) → length l ≡ cell_count → left + d ≤ side → a < left
    → m ≡ rewritten (dropped_cell l f d left) l 0 (a * side) → x ≡ rewritten (dropped_cell m f d left) m (a * side) ((a + 1) * side)
    → x ≡ rewritten (dropped_cell l f d left) l 0 ((a + 1) * side)
rows_next l m x f d left a size few ha is out =
    rewritten_more (dropped_cell l f d left) l m 0 (a * side) is x ((a + 1) * side) (omega arith) (omega arith) (same ∙ long) inside
    (λ k h. rw out (rewritten_below now m (a * side) ((a + 1) * side) k h)) (λ k h. rw out (rewritten_from now m (a * side) ((a + 1) * side) k h))
  where
    now : ℕ → ℕ
    now = dropped_cell m f d left

    long : length m ≡ length l
    long = ap length is ∙ rewritten_length (dropped_cell l f d left) l 0 (a * side)

    same : length x ≡ length m
    same = ap length out ∙ rewritten_length now m (a * side) ((a + 1) * side)

    one : (b : ℕ) → b < side → Dec (b < left) → dropped_cell m f d left (a * side + b) ≡ dropped_cell l f d left (a * side + b)
    one b small (yes h) =
        dropped_in m f d left a b small h
        ∙ ahead (dropped_cell l f d left) l m 0 (a * side) is (old_number f d a * side + old_number f d b) (omega (arith, old_least f d a))
        ∙ sym (dropped_in l f d left a b small h)
    one b small (no h) = dropped_out m f d left a b small (omega arith) (omega arith) ∙ sym (dropped_out l f d left a b small (omega arith) (omega arith))

    inside : (k : ℕ) → a * side ≤ k → k < (a + 1) * side → k < length l → get_or x k 0 ≡ dropped_cell l f d left k
    inside k lo hi h =
        let place : a * side + (k - a * side) ≡ k = omega arith in
        ap (λ (w : List ℕ). get_or w k 0) out
        ∙ rewritten_in now m (a * side) ((a + 1) * side) k lo hi (omega (arith, long))
        ∙ subst (λ (i : ℕ). dropped_cell m f d left i ≡ dropped_cell l f d left i) place (one (k - a * side) (omega arith) (dec_lt (k - a * side) left))

-- the rows that are left are written in m, and all past them is cleared in x
pub rest_cleared :
    (l m x : List ℕ) (f d n : ℕ) → length l ≡ cell_count → n ≤ side → m ≡ rewritten (dropped_cell l f d (n - d)) l 0 ((n - d) * side)
    → x ≡ rewritten (λ k. 0) m ((n - d) * side) ((n - d) * side + (cell_count - (n - d) * side)) → x ≡ dropped l f d n
unfolding dropped overlaid
rest_cleared l m x f d n size few is out =
    rewritten_is h (replicate cell_count 0) x 0 q (same ∙ long ∙ size ∙ sym (length-replicate cell_count zero))
    (λ k lo hi lt. in_x k ∙ rewritten_below nil m q e k hi ∙ ap (λ (w : List ℕ). get_or w k 0) is
    ∙ rewritten_in h l 0 q k lo hi (omega (arith, length-replicate cell_count zero)))
    (λ k lt. absurd (omega arith)) (λ k ge. past k ge (dec_lt k cell_count))
  where
    q : ℕ
    q = (n - d) * side

    e : ℕ
    e = (n - d) * side + (cell_count - (n - d) * side)

    h : ℕ → ℕ
    h = dropped_cell l f d (n - d)

    nil : ℕ → ℕ
    nil k = 0

    long : length m ≡ length l
    long = ap length is ∙ rewritten_length h l 0 q

    same : length x ≡ length m
    same = ap length out ∙ rewritten_length nil m q e

    in_x : (k : ℕ) → get_or x k 0 ≡ get_or (rewritten nil m q e) k 0
    in_x k = ap (λ (w : List ℕ). get_or w k 0) out

    past : (k : ℕ) → q ≤ k → Dec (k < cell_count) → get_or x k 0 ≡ get_or (replicate cell_count 0) k 0
    past k ge (yes lt) = in_x k ∙ rewritten_in nil m q e k ge (omega arith) (omega (arith, long)) ∙ sym (get_or-replicate cell_count k 0 0 lt)
    past k ge (no far) =
        get_or-eq_default x 0 {n = k} (omega (arith, same, long))
        ∙ sym (get_or-eq_default (replicate cell_count 0) 0 {n = k} (omega (arith, length-replicate cell_count zero)))

-- ---- what the table is then

module _ (l : List ℕ) (f d n : ℕ) (few : n ≤ side) where
  zeros : length (replicate cell_count zero) ≡ cell_count
  zeros = length-replicate cell_count zero

  pub dropped_length : length (dropped l f d n) ≡ cell_count
  unfolding dropped
  dropped_length = overlaid_length (n - d) (pick (old_number f d) (table_of l)) (replicate cell_count 0) zeros (omega arith)

  pub dropped_agree : Agree (n - d) (table_of (dropped l f d n)) (pick (old_number f d) (table_of l))
  unfolding dropped
  dropped_agree = overlaid_agree (n - d) (pick (old_number f d) (table_of l)) (replicate cell_count 0) zeros (omega arith)

  pub dropped_rest : (a b : ℕ) → a < side → b < side → n - d ≤ a ⊎ n - d ≤ b → cell (dropped l f d n) a b ≡ 0
  unfolding dropped
  dropped_rest a b ha hb past =
      overlaid_rest (n - d) (pick (old_number f d) (table_of l)) (replicate cell_count 0) zeros (omega arith) a b hb past
      ∙ get_or-replicate cell_count (a * side + b) 0 0 (omega arith)

  -- the origin stays
  pub dropped_good : (H : ℕ) → 0 < f → d < n → GoodCells l n H → GoodCells (dropped l f d n) (n - d) H
  unfolding pick
  dropped_good H z some g =
      record {
        closed = closed;
        rest = λ i j hi hj past. dropped_rest i j hi hj past;
        roof = λ i hi. omega (arith, roof i hi, g.roof (old_number f d i) (below i hi));
      }
    where
      below : (a : ℕ) → a < n - d → old_number f d a < n
      below a h = omega (arith, old_lt f d (n - d) a h)

      closed : Closed (n - d) (table_of (dropped l f d n))
      closed =
          agree_closed (n - d) (pick (old_number f d) (table_of l)) (table_of (dropped l f d n))
          (λ i j hi hj. let same = dropped_agree i j hi hj in omega (arith, same)) (omega arith)
          (pick_closed (n - d) n (old_number f d) (table_of l) g.closed (old_low f d 0 z) below)

      roof : (i : ℕ) → i < n - d → cell (dropped l f d n) 0 i ≡ cell l 0 (old_number f d i)
      roof i hi = rw (dropped_agree 0 i (omega arith) hi, old_low f d 0 z)
