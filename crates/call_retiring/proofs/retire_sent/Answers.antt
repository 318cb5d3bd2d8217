-- `retire_sent` meets its contract: each part of the board is what the definition says.
use Rattle.std.proofs.Common.{suc, List, drop, ◌∙◌, ap, arith, rules, add-one}
use Rattle.spec_plain.specs.declared.Job.{Job}
use Rattle.part_lines.specs.ArrayLists.{jobs_of, jobs_from}
use Rattle.part_boardwords.specs.Layout.{count_at}
use Rattle.part_boardwords.specs.Words.{word_in, held_jobs}
use Rattle.part_boardwords.proofs.Lent.{length_lent, with_word_lem}
use Rattle.call_board.proofs.InWords.{points_asked, few_after, jobs_sized, marks_kept, fronted_kept}
use Rattle.call_retiring.proofs.Retired.{leaving_words, retired_words}
use Rattle.call_retiring.proofs.retire_sent.Goals as goal

pub points_in-requires : goal.points_in-requires
points_in-requires c = let points = points_asked c.args.w.now c.requires.w_value.0 in (search rules, points.0, points.1)

pub is_over-requires : goal.is_over-requires
is_over-requires c =
    let P = c.requires in
    let l = leaving_words c.args.w.now P.w_len P.w_value.0 P.w_value.1 _ c.job_at-oldest.ensures in
    record { w_len = P.w_len; in_reach = (l.0, l.1, l.2) }

pub returns-then-not-is_over : goal.returns-then-not-is_over
returns-then-not-is_over c =
    let P = c.requires in
    let is = c.job_at-oldest.ensures in
    let sent = ap (λ (j : Job). j.sent) is ∙ P.w_value.2 in
    let r = (retired_words c.args.w.now P.w_len P.w_value.0 P.w_value.1 _ is _ sent c.is_over.ensures).0 c.if-not-is_over.true in
    record { ruling = r.0; words = r.1 }

pub overflow_cast-m : goal.overflow_cast-m
overflow_cast-m c =
    let P = c.requires in
    let W = c.args.w.now in
    omega (arith, (leaving_words W P.w_len P.w_value.0 P.w_value.1 _ c.job_at-oldest.ensures).3, (jobs_sized W P.w_value.0).points)

pub drop_points-requires : goal.drop_points-requires
drop_points-requires c =
    let P = c.requires in
    let W = c.args.w.now in
    let l = (leaving_words W P.w_len P.w_value.0 P.w_value.1 _ c.job_at-oldest.ensures).3 in
    let n = c.points_in.ensures in
    (length_lent W P.w_len, omega (arith, l, n), omega (arith, n, (jobs_sized W P.w_value.0).points))

pub drop_oldest-requires : goal.drop_oldest-requires
drop_oldest-requires c =
    let P = c.requires in
    let W = c.args.w.now in
    let t = c.drop_points.new.t in
    let count = with_word_lem W P.w_len t count_at (omega arith) in
    (omega arith, omega (arith, count, P.w_value.1), omega (arith, count, (jobs_sized W P.w_value.0).count), marks_kept W P.w_value.0 P.w_len t)

pub stay_lines-requires : goal.stay_lines-requires
stay_lines-requires c =
    let P = c.requires in
    let W = c.args.w.now in
    let t = c.drop_points.new.t in
    let l = (leaving_words W P.w_len P.w_value.0 P.w_value.1 _ c.job_at-oldest.ensures).3 in
    let ex = fronted_kept W P.w_value.0 P.w_len t (λ (js : List Job). drop 1 js) _ c.drop_oldest.ensures in
    let few = few_after W P.w_value.0 P.w_len t _ (jobs_from (drop 1 (jobs_of (held_jobs (word_in W))))) c.drop_oldest.new.w ex in
    record { cells_at_in_bounds = search rules; by_index = few; m_bound = omega (arith, l, (jobs_sized W P.w_value.0).points) }

pub returns : goal.returns
returns c =
    let P = c.requires in
    let W = c.args.w.now in
    let t = c.drop_points.new.t in
    let is = c.job_at-oldest.ensures in
    let sent = ap (λ (j : Job). j.sent) is ∙ P.w_value.2 in
    let n = add-one _ ∙ ap suc c.points_in.ensures in
    let ex = fronted_kept W P.w_value.0 P.w_len t (λ (js : List Job). drop 1 js) _ c.drop_oldest.ensures in
    let r = (retired_words W P.w_len P.w_value.0 P.w_value.1 _ is _ sent c.is_over.ensures).1
    _ t c.drop_oldest.new.w _ c.if-not-is_over.false n c.drop_points.ensures (omega (arith, P.w_len)) ex c.stay_lines.ensures in
    record { ruling = r.0; words = r.1 }
