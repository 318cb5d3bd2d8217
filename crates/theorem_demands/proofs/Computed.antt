-- The proving table's test, computed over the whole table. It stands on definitions alone, so that a definition which comes to something else
-- is refused here. Assumes nothing.
--   plant_length, offer_length    the bytes are as many as document 01 says
--   Computes, AllCompute          what is computed of a case, of each of a list
--   computed, further_computed, dues_computed   the tables of calls compute;  shown_open: the definitions to unfold for it
--   drafts_computed               the table of limits
--   plants_computed, parts_computed, offers_computed, spelled_computed   the tables of what is read from bytes
--   written_computed, held_computed   the tables of what is written
use mathlib.Core.Path.{◌≡◌, refl}
use mathlib.Core.Bool.{true}
use mathlib.Core.List.{List, [], ◌∷◌}
use lib.Count.{count_trailing_zeros}
use lib.Dec.{leb}
use lib.ListN.{length}
use Rattle.read_plant.specs.Plant.{allocations_of}
use Rattle.spec_stn.specs.Table.{bias}
use Rattle.theorem_demands.specs.Model as Model
use Rattle.theorem_demands.specs.Tidy as Tidy
use Rattle.theorem_demands.specs.Cases.{Case}
use Rattle.base_lists.specs.Loops.{all_below}
use Rattle.theorem_demands.specs.Shown.{is_accepted, kind_of, same_ruling, same_rulings, readable, same_cells, same_boards, shown, all_shown}
use Rattle.theorem_demands.specs.ProvingTable.{plant, job_j, table}
use Rattle.theorem_demands.specs.FurtherTable.{further_table, AllDraft, draft_table}
use Rattle.theorem_demands.specs.DueTable.{due_table}
use Rattle.theorem_demands.specs.ReadingTable.{AllPlants, plant_table, AllParts, part_table, AllOffers, offer_table, AllSpelled, spelled_table}
use Rattle.theorem_demands.specs.WritingTable.{AllWritten, write_table, AllHeld, held_table}
use Rattle.theorem_demands.proofs.Computing.{computing, writing_open}

-- the bytes are as many as document 01 says
pub plant_length : length plant ≡ 120
plant_length = refl

pub offer_length : length (job_j 0 0) ≡ 40
offer_length = refl

-- what is computed of a case: its horizon is in range, its calls are ruled so, and the board at the end shows what is expected
abbrev pub Computes : Case → Type 0
Computes c =
    (leb c.settings.horizon bias ≡ true)
    × (Tidy.rulings (Model.fresh c.settings) c.calls ≡ c.rulings)
    × (all_shown (Tidy.board_after (Model.fresh c.settings) c.calls) c.expects ≡ true)

abbrev pub AllCompute : List Case → Type 0
AllCompute [] = Unit {0}
AllCompute (c ∷ cs) = Computes c × AllCompute cs

unfoldable pub shown_open : Unit {0}
unfolding is_accepted kind_of same_ruling same_rulings readable same_cells all_below same_boards shown all_shown
shown_open = tt

-- a row and those behind it
both : {A B : Type 0} → A → B → A × B
both a b = (a, b)

-- each of document 01's fifteen rows computes, and each of our own
pub computed : AllCompute table
unfolding computing shown_open count_trailing_zeros
computed =
    both (refl, refl, refl) (both (refl, refl, refl) (both (refl, refl, refl) (both (refl, refl, refl) (
    both (refl, refl, refl) (both (refl, refl, refl) (both (refl, refl, refl) (both (refl, refl, refl) (
    both (refl, refl, refl) (both (refl, refl, refl) (both (refl, refl, refl) (both (refl, refl, refl) (
    both (refl, refl, refl) (both (refl, refl, refl) (both (refl, refl, refl) tt))))))))))))))

pub further_computed : AllCompute further_table
unfolding computing shown_open count_trailing_zeros
further_computed =
    both (refl, refl, refl) (both (refl, refl, refl) (both (refl, refl, refl) (both (refl, refl, refl) (
    both (refl, refl, refl) (both (refl, refl, refl) (both (refl, refl, refl) (both (refl, refl, refl) (
    both (refl, refl, refl) (both (refl, refl, refl) (both (refl, refl, refl) (both (refl, refl, refl) (
    both (refl, refl, refl) (both (refl, refl, refl) (both (refl, refl, refl) (both (refl, refl, refl) (
    both (refl, refl, refl) (both (refl, refl, refl) (both (refl, refl, refl) (both (refl, refl, refl) (
    both (refl, refl, refl) (both (refl, refl, refl) (both (refl, refl, refl) (both (refl, refl, refl) (
    both (refl, refl, refl) (both (refl, refl, refl) (both (refl, refl, refl) (both (refl, refl, refl) (
    both (refl, refl, refl) (both (refl, refl, refl) (both (refl, refl, refl) (both (refl, refl, refl) (
    both (refl, refl, refl) tt))))))))))))))))))))))))))))))))

pub dues_computed : AllCompute due_table
unfolding computing shown_open count_trailing_zeros
dues_computed =
    both (refl, refl, refl) (both (refl, refl, refl) (both (refl, refl, refl) (both (refl, refl, refl) (
    both (refl, refl, refl) (both (refl, refl, refl) (both (refl, refl, refl) (both (refl, refl, refl) (
    both (refl, refl, refl) (both (refl, refl, refl) (both (refl, refl, refl) (both (refl, refl, refl) (
    both (refl, refl, refl) (both (refl, refl, refl) (both (refl, refl, refl) (both (refl, refl, refl) (
    both (refl, refl, refl) (both (refl, refl, refl) tt)))))))))))))))))

pub drafts_computed : AllDraft draft_table
unfolding computing
drafts_computed =
    (refl, (refl, (refl, (refl, (refl, (refl, (refl, (refl, (refl, (refl, (refl, (refl, tt))))))))))))

-- plant files, the parts that they hand out, offers, and an offer as it is read
pub plants_computed : AllPlants plant_table
unfolding computing
plants_computed =
    both refl (both refl (both refl (both refl (both refl (both refl (both refl (both refl (
    both refl (both refl (both refl (both refl (both refl (both refl (both refl (both refl (
    both refl (both refl (both refl (both refl (both refl (both refl (both refl (both refl (
    both refl (both refl (both refl (both refl (both refl (both refl (both refl (both refl (
    both refl (both refl (both refl (both refl (both refl (both refl (both refl (both refl (
    both refl (both refl (both refl (both refl (both refl (both refl (both refl (both refl (
    both refl (both refl (both refl (both refl (both refl (both refl (both refl (both refl (
    both refl tt))))))))))))))))))))))))))))))))))))))))))))))))))))))))

pub parts_computed : AllParts part_table
unfolding computing allocations_of
parts_computed =
    both refl (both refl (both refl (both refl (both refl tt))))

pub offers_computed : AllOffers offer_table
unfolding computing count_trailing_zeros
offers_computed =
    both (refl, refl) (both (refl, refl) (both (refl, refl) (both (refl, refl) (
    both (refl, refl) (both (refl, refl) (both (refl, refl) (both (refl, refl) (
    both (refl, refl) (both (refl, refl) (both (refl, refl) (both (refl, refl) (
    both (refl, refl) (both (refl, refl) (both (refl, refl) (both (refl, refl) (
    both (refl, refl) (both (refl, refl) (both (refl, refl) (both (refl, refl) (
    both (refl, refl) (both (refl, refl) (both (refl, refl) (both (refl, refl) (
    both (refl, refl) (both (refl, refl) (both (refl, refl) (both (refl, refl) (
    both (refl, refl) (both (refl, refl) (both (refl, refl) (both (refl, refl) (
    both (refl, refl) (both (refl, refl) (both (refl, refl) (both (refl, refl) (
    both (refl, refl) (both (refl, refl) (both (refl, refl) (both (refl, refl) (
    both (refl, refl) (both (refl, refl) (both (refl, refl) (both (refl, refl) (
    both (refl, refl) (both (refl, refl) (both (refl, refl) (both (refl, refl) (
    both (refl, refl) (both (refl, refl) (both (refl, refl) (both (refl, refl) (
    both (refl, refl) (both (refl, refl) (both (refl, refl) (both (refl, refl) (
    both (refl, refl) (both (refl, refl) (both (refl, refl) (both (refl, refl) (
    both (refl, refl) (both (refl, refl) tt)))))))))))))))))))))))))))))))))))))))))))))))))))))))))))))

pub spelled_computed : AllSpelled spelled_table
unfolding computing count_trailing_zeros
spelled_computed = both refl tt

-- plant files written, and the actions that one holds
pub written_computed : AllWritten write_table
unfolding writing_open
written_computed =
    both (refl, refl, refl) (both (refl, refl, refl) (both (refl, refl, refl) (both (refl, refl, refl) (
    both (refl, refl, refl) (both (refl, refl, refl) (both (refl, refl, refl) (both (refl, refl, refl) (
    both (refl, refl, refl) (both (refl, refl, refl) (both (refl, refl, refl) (both (refl, refl, refl) (
    both (refl, refl, refl) (both (refl, refl, refl) (both (refl, refl, refl) (both (refl, refl, refl) (
    both (refl, refl, refl) (both (refl, refl, refl) (both (refl, refl, refl) (both (refl, refl, refl) (
    both (refl, refl, refl) (both (refl, refl, refl) (both (refl, refl, refl) (both (refl, refl, refl) (
    both (refl, refl, refl) (both (refl, refl, refl) (both (refl, refl, refl) (both (refl, refl, refl) (
    both (refl, refl, refl) (both (refl, refl, refl) (both (refl, refl, refl) tt))))))))))))))))))))))))))))))

pub held_computed : AllHeld held_table
unfolding writing_open
held_computed = both refl (both refl (both refl tt))
