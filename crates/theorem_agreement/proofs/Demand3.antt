-- Demand 3 (specs/Demand3).
--   cells_to, cells_of   of sound boards with the same number of live points all cells are equal exactly when those of two live points are;
--                   same_list: and then the lists of cells are equal
--   tables_right    of any two sound boards and any books beside them;  lists_right: the same of the tables as they are held, as lists of cells
--   fed             the rule book, fed a list, has the board's rulings and comes to a book beside the board
--   demand3         the theorem
use mathlib.Core.Path.{◌≡◌, sym, ap, ◌∙◌}
use mathlib.Core.Logic.{◌↔◌, inl, inr}
use mathlib.Core.Bool.{false}
use mathlib.Core.List.{List}
use Prim.Native.Nat.{ℕ, ◌/◌, ◌%◌, ◌<◌}
use native.Mathlib.Decide.{dec_lt}
use native.Mathlib.Omega.{arith}
use lib.Seq.{ext_get_or}
use Rattle.spec_plain.specs.Limits.{side}
use Rattle.spec_stn.specs.Table.{Agree}
use Rattle.part_gaps.specs.Cells.{cell, table_of}
use Rattle.part_gaps.proofs.Overlaid.{at_place}
use Rattle.spec_rulebook.specs.Book.{Book, Call}
use Rattle.part_boardwords.specs.Board.{Board}
use Rattle.part_sound.specs.Sound.{Sound}
use Rattle.spec_plain.specs.declared.Settings.{Settings}
use Rattle.call_board.specs.Boards.{bad_settings}
use Rattle.theorem_demands.specs.Beside.{Sim}
use Rattle.theorem_demands.specs.Cases.{RunsTo, SameTimetables}
use Rattle.theorem_demands.proofs.Compare.{sim_compare}
use Rattle.theorem_agreement.specs.Abstract.{Shaped, live_points, abstract_of}
use Rattle.theorem_agreement.specs.Runs.{started, board_after, rulings}
use Rattle.theorem_agreement.specs.Demand3.{SameCells, Demand3}
use Rattle.theorem_agreement.proofs.Parts.{parts_of}
use Rattle.theorem_agreement.proofs.States.{live_few}
use Rattle.theorem_agreement.proofs.Lists.{reached, agreement}

-- ---- cells without a live point are 0

same_list : (b d : Board) → Shaped b → Shaped d → SameCells b d → b.gaps ≡ d.gaps
same_list b d w x e =
    let long = w.gaps in
    ext_get_or 0 b.gaps d.gaps (w.gaps ∙ sym x.gaps)
    (λ k h. sym (at_place b.gaps k) ∙ e (k / side) (k % side) (omega (arith, long)) (omega arith) ∙ at_place d.gaps k)

module _ (b d : Board) (w : Shaped b) (x : Shaped d) (s : Sound b) (t : Sound d) (same : live_points b ≡ live_points d) where
  cells_of : Agree (live_points b) (table_of b.gaps) (table_of d.gaps) → SameCells b d
  cells_of e i j hi hj = go (dec_lt i (live_points b)) (dec_lt j (live_points b))
    where
      go : Dec (i < live_points b) → Dec (j < live_points b) → cell b.gaps i j ≡ cell d.gaps i j
      go (yes p) (yes q) = e i j p q
      go (yes p) (no q) =
          (parts_of b w s).table.rest i j hi hj (inr (omega arith)) ∙ sym ((parts_of d x t).table.rest i j hi hj (inr (omega (arith, same))))
      go (no p) q =
          (parts_of b w s).table.rest i j hi hj (inl (omega arith)) ∙ sym ((parts_of d x t).table.rest i j hi hj (inl (omega (arith, same))))

  cells_to : SameCells b d → Agree (live_points b) (table_of b.gaps) (table_of d.gaps)
  cells_to e i j hi hj = let few = live_few (parts_of b w s).limits in e i j (omega (arith, few)) (omega (arith, few))

  -- ---- beside any books

  module _ {k j : Book} (m : Sim (abstract_of b) k) (n : Sim (abstract_of d) j) where
    pub tables_right : SameCells b d ↔ SameTimetables k j
    tables_right = let both = sim_compare m n same in (λ e. both.0 (cells_to e), λ u. cells_of (both.1 u))

    pub lists_right : (b.gaps ≡ d.gaps) ↔ SameTimetables k j
    lists_right = (
      λ e. tables_right.0 (λ i n hi hn. ap (λ (l : List ℕ). cell l i n) e),
      λ u. same_list b d w x (tables_right.1 u),
    )

-- ---- the theorem

-- the rule book has the board's rulings and comes to a book beside the board
pub fed :
    (s : Settings) (good : bad_settings s ≡ false) (cs : List Call) (P : Book → Type 0)
    → ((k : Book) → Sim (abstract_of (board_after (started s) cs)) k → P k) → RunsTo s cs (rulings (started s) cs) P
fed s good cs P all =
    ((agreement s good cs).exists, λ rs k p. let beside = reached s good cs rs k p in (beside.0, all k beside.1))

pub demand3 : Demand3
demand3 s t good fine cs ds same =
    let one = agreement s good cs in
    let other = agreement t fine ds in
    let b = board_after (started s) cs in
    let d = board_after (started t) ds in
    fed s good cs _ (λ k m. fed t fine ds _ (λ j n. tables_right b d one.shaped other.shaped one.sound other.sound same m n))
