-- What a case of the proving table expects, as a test on the abstract board that computes. It is a device of the proof: the table's statement
-- (Cases, ProvingTable) does not mention it, and proofs/Shown says that it means what the case says.
--   readable p o    plant and offer are past refusals 1 to 4 and 7 to 9, and no fact is known both ways
--   is_accepted r    the ruling is accepted;  kind_of r: 0 for accepted, and for a refusal which kind of cause it has
--   same_ruling      two rulings are the same, by kind, number and value;  same_rulings: two lists of them
--   same_cells c d n two tables have the same cells among the first n points
--   same_boards a b  the same number of live points, and the same cells
--   shown b x       the board b shows what x expects;  all_shown: each of a list
use Rattle.std.specs.Prelude.{Bool, true, false, not, ◌&&◌, List, [], ◌∷◌, length, get_or, ℕ, eqb, ltb, leb}
use Rattle.base_masks.specs.Mask.{share}
use Rattle.base_rulings.specs.declared.Cause.TheVariants.{Plain, Action, Step, Fact, Allocation}
use Rattle.base_rulings.specs.declared.Ruling.{Ruling}
use Rattle.base_rulings.specs.declared.Ruling.TheVariants.{Accepted, Refused}
use Rattle.base_rulings.specs.Answer.{number_of, value_of}
use Rattle.read_plant.specs.Plant.{plant_ruling}
use Rattle.read_offer.specs.Offer.{known_of, offer_ruling, fact_check}
use Rattle.spec_plain.specs.Plain
use Rattle.base_lists.specs.Loops.{all_below}
use Rattle.spec_stn.specs.Table as Gaps
use Rattle.spec_stn.specs.Table.{bias, Table}
use Rattle.theorem_demands.specs.Model.{Board}
use Rattle.theorem_demands.specs.Model as Model
use Rattle.theorem_demands.specs.Tidy as Tidy
use Rattle.theorem_demands.specs.Cases.{Expect, earliest, latest, runs, fails, due, same}

unfoldable pub is_accepted : Ruling → Bool
is_accepted Accepted = true
is_accepted (Refused c) = false

unfoldable pub kind_of : Ruling → ℕ
kind_of Accepted = 0
kind_of (Refused (Plain n)) = 1
kind_of (Refused (Action n v)) = 2
kind_of (Refused (Step n v)) = 3
kind_of (Refused (Fact n v)) = 4
kind_of (Refused (Allocation n v)) = 5

unfoldable pub same_ruling : Ruling → Ruling → Bool
same_ruling r q = eqb (kind_of r) (kind_of q) && (eqb (number_of r) (number_of q) && eqb (value_of r) (value_of q))

unfoldable pub same_rulings : List Ruling → List Ruling → Bool
same_rulings [] [] = true
same_rulings [] (q ∷ qs) = false
same_rulings (r ∷ rs) [] = false
same_rulings (r ∷ rs) (q ∷ qs) = same_ruling r q && same_rulings rs qs

unfoldable pub readable : List ℕ → List ℕ → Bool
readable p o = is_accepted (plant_ruling p) && (is_accepted (offer_ruling p o) && not (share (known_of o).pos (known_of o).neg))

-- the cells of the first n points
unfoldable pub same_cells : Table → Table → ℕ → Bool
same_cells c d n = all_below (λ i. all_below (λ j. eqb (c i j) (d i j)) n) n

unfoldable pub same_boards : Board → Board → Bool
same_boards a b =
    eqb (Plain.live_count a.state) (Plain.live_count b.state)
    && same_cells a.table b.table (Plain.live_count a.state)

unfoldable pub shown : Board → Expect → Bool
shown b (earliest x v) = ltb x (Plain.live_count b.state) && eqb (Gaps.earliest b.table x) v
shown b (latest x v) = ltb x (Plain.live_count b.state) && eqb (Gaps.latest b.table x) v
shown b (runs p o) = readable p o && is_accepted (fact_check p o)
shown b (fails p o) = readable p o && not (is_accepted (fact_check p o))
shown b (due place q) = ltb place (length b.state.jobs) && eqb (get_or b.state.jobs place (Plain.new_job 0 0 0)).due q
shown b (same s cs rs) =
    leb s.horizon bias && (same_rulings (Tidy.rulings (Model.fresh s) cs) rs && same_boards b (Tidy.board_after (Model.fresh s) cs))

unfoldable pub all_shown : Board → List Expect → Bool
all_shown b [] = true
all_shown b (x ∷ xs) = shown b x && all_shown b xs
