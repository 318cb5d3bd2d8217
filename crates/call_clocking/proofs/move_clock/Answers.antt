-- `move_clock` meets its contract: rules that do not agree, or each part of the board is what the definition says.
use Rattle.std.proofs.Common.{suc, List, ◌∙◌, ap, add-one, arith, rules}
use Rattle.spec_plain.specs.declared.Job.{Job}
use Rattle.part_lines.specs.ArrayLists.{jobs_of, jobs_from}
use Rattle.part_boardwords.specs.Layout.{count_at}
use Rattle.part_boardwords.specs.Words.{word_in, held_jobs}
use Rattle.part_boardwords.proofs.Lent.{length_lent, with_word_lem}
use Rattle.call_board.proofs.InWords.{points_asked, few_after, jobs_sized, closed_lent, clocked_kept, marks_kept}
use Rattle.call_clocking.proofs.Clocked.{start_fits, start_words, clocked_words}
use Rattle.call_clocking.proofs.move_clock.Goals as goal

pub points_in-requires : goal.points_in-requires
points_in-requires c = let points = points_asked c.args.w.now c.requires.w_value.0 in (search rules, points.0, points.1)

pub overflow_add-c : goal.overflow_add-c
overflow_add-c c =
    let A = c.args in
    let P = c.requires in
    omega (arith, start_fits A.w.now P.w_len P.w_value.0 A.settings P.w_value.1 A.c P.w_value.2 P.w_value.3)

pub start_rules-rules-requires : goal.start_rules-rules-requires
start_rules-rules-requires c = (search rules, jobs_sized c.args.w.now c.requires.w_value.0)

pub as_slice-requires : goal.as_slice-requires
as_slice-requires c =
    let A = c.args in
    let P = c.requires in
    (start_words A.w.now P.w_len P.w_value.0 A.settings P.w_value.1 A.c P.w_value.2 P.w_value.3 _ c.start_rules-rules.ensures).0

pub try_rules-requires : goal.try_rules-requires
try_rules-requires c =
    let A = c.args in
    let P = c.requires in
    let W = A.w.now in
    let points = c.points_in.ensures in
    let n = add-one _ ∙ ap suc points in
    let r = start_words W P.w_len P.w_value.0 A.settings P.w_value.1 A.c P.w_value.2 P.w_value.3 _ c.start_rules-rules.ensures in
    record {
      t_len = (length_lent W P.w_len, omega arith, omega (arith, points, (jobs_sized W P.w_value.0).points), closed_lent W P.w_value.0 P.w_len _ n);
      usable = r.1 _ _ n c.as_slice.ensures;
    }

pub returns-then-not-try_rules : goal.returns-then-not-try_rules
returns-then-not-try_rules c =
    let A = c.args in
    let P = c.requires in
    let no = c.if-not-try_rules.true in
    let n = add-one _ ∙ ap suc c.points_in.ensures in
    let r = (clocked_words A.w.now P.w_len P.w_value.0 A.settings P.w_value.1 A.c P.w_value.2 P.w_value.3 _ _ _ _ _ c.start_rules-rules.ensures c.as_slice.ensures n
    c.try_rules.ensures.tried).0 no (c.try_rules.ensures.kept no) in
    record { ruling = r.0; words = r.1 }

pub write_clock-requires : goal.write_clock-requires
write_clock-requires c =
    let P = c.requires in
    let W = c.args.w.now in
    let t = c.try_rules.new.t in
    (omega arith, omega (arith, with_word_lem W P.w_len t count_at (omega arith), (jobs_sized W P.w_value.0).count), marks_kept W P.w_value.0 P.w_len t)

pub tidy_lines-requires : goal.tidy_lines-requires
tidy_lines-requires c =
    let A = c.args in
    let P = c.requires in
    let W = A.w.now in
    let t = c.try_rules.new.t in
    let ex = clocked_kept W P.w_value.0 P.w_len t A.c (λ (js : List Job). js) _ c.write_clock.ensures in
    record {
      cells_at_in_bounds = search rules;
      by_index = few_after W P.w_value.0 P.w_len t A.c (jobs_from (jobs_of (held_jobs (word_in W)))) c.write_clock.new.w ex;
    }

pub returns : goal.returns
returns c =
    let A = c.args in
    let P = c.requires in
    let W = A.w.now in
    let t = c.try_rules.new.t in
    let ex = clocked_kept W P.w_value.0 P.w_len t A.c (λ (js : List Job). js) _ c.write_clock.ensures in
    let n = add-one _ ∙ ap suc c.points_in.ensures in
    let r = (clocked_words W P.w_len P.w_value.0 A.settings P.w_value.1 A.c P.w_value.2 P.w_value.3 _ _ _ _ _ c.start_rules-rules.ensures c.as_slice.ensures n
    c.try_rules.ensures.tried).1 c.write_clock.new.w _ c.if-not-try_rules.false (omega arith) ex c.tidy_lines.ensures in
    record { ruling = r.0; words = r.1 }
