-- `send_up_to` meets its contract: table, jobs and lines are each what the definition says.
use Rattle.std.proofs.Common.{suc, ◌≤◌, ◌+◌, List, sym, ◌∙◌, ap, subst, add-one, arith, rules}
use Rattle.spec_plain.specs.declared.Job.{Job}
use Rattle.spec_plain.specs.Plain.{total, unsent_points, sent_up_to}
use Rattle.part_lines.specs.declared.Jobs.{Jobs}
use Rattle.part_lines.specs.ArrayLists.{jobs_of, jobs_from}
use Rattle.part_settling.specs.Frozen.{frozen}
use Rattle.part_boardwords.specs.Layout.{count_at}
use Rattle.part_boardwords.specs.Words.{word_in, held_jobs}
use Rattle.part_boardwords.proofs.Lent.{lent_table, length_lent, with_word_lem}
use Rattle.call_board.proofs.InWords.{points_asked, few_after, jobs_sized, closed_lent, marks_kept, fronted_kept}
use Rattle.call_sending.proofs.Sent.{unsent_place, sent_words}
use Rattle.call_sending.proofs.send_up_to.Goals as goal

pub overflow_add-count : goal.overflow_add-count
overflow_add-count c =
    let P = c.requires in
    let W = c.args.w.now in
    omega (arith, unsent_place W P.w_len P.w_value.0 c.args.place P.w_value.1, (jobs_sized W P.w_value.0).count)

pub points_in-requires : goal.points_in-requires
points_in-requires c = let points = points_asked c.args.w.now c.requires.w_value.0 in (search rules, points.0, points.1)

pub shared_ref_as_front-freeze : goal.shared_ref_as_front-freeze
shared_ref_as_front-freeze c =
    omega (arith, ap (λ (j : Jobs). j.count) c.read_jobs-jobs.ensures, (jobs_sized c.args.w.now c.requires.w_value.0).count)

pub freeze-requires : goal.freeze-requires
freeze-requires c =
    let P = c.requires in
    let W = c.args.w.now in
    let n = add-one _ ∙ ap suc c.points_in.ensures in
    let is = c.read_jobs-jobs.ensures in
    let points = n ∙ ap (λ (j : Jobs). suc (total (jobs_of j))) (sym is) in
    let there = subst (λ (j : Jobs). c.args.place + 1 ≤ j.count) (sym is) (unsent_place W P.w_len P.w_value.0 c.args.place P.w_value.1) in
    record {
      t_len = (length_lent W P.w_len, omega (arith, n, (jobs_sized W P.w_value.0).points), closed_lent W P.w_value.0 P.w_len _ n);
      sized = (points, omega arith);
    }

pub mark_sent-requires : goal.mark_sent-requires
mark_sent-requires c =
    let P = c.requires in
    let W = c.args.w.now in
    let t = c.freeze.new.t in
    let count = with_word_lem W P.w_len t count_at (omega arith) in
    let there = unsent_place W P.w_len P.w_value.0 c.args.place P.w_value.1 in
    (omega arith, omega (arith, count, there), omega (arith, count, (jobs_sized W P.w_value.0).count), marks_kept W P.w_value.0 P.w_len t)

pub tidy_lines-requires : goal.tidy_lines-requires
tidy_lines-requires c =
    let P = c.requires in
    let W = c.args.w.now in
    let t = c.freeze.new.t in
    let ex = fronted_kept W P.w_value.0 P.w_len t (λ (js : List Job). sent_up_to (c.args.place + 1) js) _ c.mark_sent.ensures in
    let jobs = jobs_from (sent_up_to (c.args.place + 1) (jobs_of (held_jobs (word_in W)))) in
    record { cells_at_in_bounds = search rules; by_index = few_after W P.w_value.0 P.w_len t _ jobs c.mark_sent.new.w ex }

pub returns : goal.returns
returns c =
    let P = c.requires in
    let W = c.args.w.now in
    let place = c.args.place in
    let t = c.freeze.new.t in
    let n = add-one _ ∙ ap suc c.points_in.ensures in
    let points = c.points_in.result + 1 in
    let et =
    c.freeze.ensures
    ∙ ap (λ (j : Jobs). frozen points (unsent_points 1 (place + 1) (jobs_of j)) (lent_table W)) c.read_jobs-jobs.ensures in
    let ex = fronted_kept W P.w_value.0 P.w_len t (λ (js : List Job). sent_up_to (place + 1) js) _ c.mark_sent.ensures in
    sent_words W P.w_len P.w_value.0 place P.w_value.1 _ t c.mark_sent.new.w _ n et (omega arith) ex c.tidy_lines.ensures
