-- What a closed case computes with, opened by one name: a proof that says `unfolding computing` reads bytes, runs the plain machine and
-- the abstract board, and closes by `refl`. Each of these names is an element of the unit type and says nothing; to open it is to open
-- what its `unfolding` line names.
--   record_open, plant_open, facts_open, offer_open   a record; the plant file; the chain worked back; the offer and the fact check
--   reading_open     the reading of a plan call's bytes;  writing_open: a plant file written
--   place_open, plan_open, send_open, retire_open     the plain machine: placing, plan, send and clock, retire
--   table_open       tables
--   board_open       the abstract board, from the fresh one on;  tidy_open: its tidy runs
--   computing       all of these
use Rattle.base_rulings.specs.Order.{first_refusal}
use Rattle.base_words.specs.Word.{word}
use Rattle.base_masks.specs.Mask.{share, join, strike, lowest}
use Rattle.read_facts.specs.Regression.{undoes, regressed, back_over, lacking, at_start, fact_ruling}
use Rattle.read_plant.specs.Plant.{is_mark, trailer_of, bad_layout, record_start, bad_head, bad_record, bad_duration, bad_allocation, some_bad_allocation, bad_action}
use Rattle.read_plant.specs.Plant.{record_at, record_ruling, plant_ruling}
use Rattle.read_offer.specs.Offer.{known_of, goal_of, step_start, step_at, step_ruling, offer_ruling, action_of, chain_from, consistency_ruling, chain_ruling, fact_check}
use Rattle.write_plant.specs.Written.{action_ruling, actions_ruling}
use Rattle.write_plant.specs.Lent.{write_ruling, written_length, written_into}
use Rattle.spec_plain.specs.Plain.{total, live_count, not_before, not_after, over_by, in_order, durations, or_else, after_newest, batch_rules, due_rules, full, joining}
use Rattle.spec_plain.specs.Plain.{drafted, inserted, rule_before, rule_after, used_from, placed, unsent_at, range, unsent_points, sent_up_to, sent_state, freeze}
use Rattle.spec_plain.specs.Plain.{clock_ok, clock_state, starts, goes, new_number, staying, without, ends_by, all_end_by, leaving_from, leaving}
use Rattle.spec_stn.specs.Table.{earliest, latest, add, add_all, entails_all, grow, grow_all, pick, old_number}
use Rattle.spec_rulebook.specs.Reading.{record_of, step_of, allocation_of, steps_from, allocations_of_step, allocations_from, offer_of}
use Rattle.spec_rulebook.specs.Reading.{due_ruling, plan_check, past, reading_of}
use Rattle.spec_rulebook.specs.Book as Rulebook
use Rattle.theorem_demands.specs.Model.{refused_with, settled, decided, heard, departed, step}
use Rattle.theorem_demands.specs.Model as Model
use Rattle.base_lists.specs.Loops.{build}
use Rattle.theorem_demands.specs.Tidy.{tidy, tidied, board_after, rulings}

unfoldable pub record_open : Unit {0}
unfolding word share is_mark trailer_of record_start bad_head bad_record bad_duration bad_allocation some_bad_allocation bad_action
record_open = tt

unfoldable pub plant_open : Unit {0}
unfolding record_open first_refusal bad_layout record_at record_ruling plant_ruling
plant_open = tt

unfoldable pub facts_open : Unit {0}
unfolding join strike lowest undoes regressed back_over lacking at_start fact_ruling
facts_open = tt

unfoldable pub offer_open : Unit {0}
unfolding known_of goal_of step_start step_at step_ruling offer_ruling action_of chain_from consistency_ruling chain_ruling fact_check
offer_open = tt

unfoldable pub reading_open : Unit {0}
unfolding plant_open facts_open offer_open record_of step_of allocation_of steps_from allocations_of_step allocations_from offer_of due_ruling plan_check past
    reading_of
reading_open = tt

unfoldable pub writing_open : Unit {0}
unfolding share bad_duration first_refusal trailer_of record_start word build action_ruling actions_ruling write_ruling written_length written_into
writing_open = tt

unfoldable pub place_open : Unit {0}
unfolding in_order inserted rule_before rule_after used_from placed
place_open = tt

unfoldable pub plan_open : Unit {0}
unfolding place_open total live_count not_before not_after durations or_else after_newest batch_rules due_rules full joining drafted
plan_open = tt

unfoldable pub send_open : Unit {0}
unfolding unsent_at range unsent_points sent_up_to sent_state freeze clock_ok clock_state starts
send_open = tt

unfoldable pub retire_open : Unit {0}
unfolding goes new_number over_by staying without ends_by all_end_by leaving_from leaving
retire_open = tt

unfoldable pub table_open : Unit {0}
unfolding earliest latest add add_all entails_all grow grow_all pick old_number
table_open = tt

unfoldable pub board_open : Unit {0}
unfolding Rulebook.empty_lines Rulebook.fresh Model.fresh refused_with settled decided heard departed step
board_open = tt

unfoldable pub tidy_open : Unit {0}
unfolding build tidy tidied board_after rulings
tidy_open = tt

unfoldable pub computing : Unit {0}
unfolding reading_open plan_open send_open retire_open table_open board_open tidy_open
computing = tt
