-- `plan_job`: a draft that stops, rules that do not agree, or the job joins (proofs/PlanWords).
use mathlib.Core.Path.{sym, ap, subst}
use native.Mathlib.Omega.{arith}
use Rattle.std.proofs.lemmas.Result.{err_from_is_err_and}
use Rattle.spec_plain.specs.declared.Settings.{Settings}
use Rattle.part_allocations.specs.Offers.{offer_in}
use Rattle.part_boardwords.specs.Words.{board_in}
use Rattle.part_boardwords.proofs.Lent.{length_lent}
use Rattle.part_settling.specs.Settled.{AllUsable}
use Rattle.call_board.proofs.InWords.{is_sound, points_asked, jobs_sized, unanswered}
use Rattle.call_planning.proofs.Planned.{stopped}
use Rattle.call_planning.proofs.PlanWords.{
  sound_lined,
  drafted_on,
  planning,
  plan_asks,
  tried_with,
  plan_17,
  plan_adding,
  plan_few,
  plan_allocations,
  plan_joins,
}
use Rattle.call_planning.proofs.plan_job.Goals as goal

pub points_in-n-requires : goal.points_in-n-requires
points_in-n-requires c = let points = points_asked c.args.w.now c.requires.w_value.0 in (omega arith, points.0, points.1)

pub draft-requires-clause-sized : goal.draft-requires-clause-sized
draft-requires-clause-sized c =
    let s = is_sound c.args.w.now c.requires.w_value.0 in
    let lead = ap (λ (x : Settings). x.lead) c.settings_in-settings.ensures in
    (jobs_sized c.args.w.now c.requires.w_value.0, c.points_in-n.ensures, omega (arith, s.clock, s.horizon.1), omega (arith, lead, s.lead))

pub draft-requires-clause-lined : goal.draft-requires-clause-lined
draft-requires-clause-lined c = sound_lined c.args.w.now c.requires.w_value.0

pub returns-in_err-rules : goal.returns-in_err-rules
returns-in_err-rules c =
    let left = err_from_is_err_and c.from_residual.result c.from_residual.ensures.1 in
    let came = drafted_on c.args.w.now (offer_in c.args.offer) _ c.settings_in-settings.result c.settings_in-settings.ensures c.in_err-rules.ensures in
    let said = unanswered c.args.w.now _ _ _ (stopped (board_in c.args.w.now) (offer_in c.args.offer) _ came) in
    record { ruling = rw (left.1, left.2) said.0; words = said.1 }

pub as_slice-requires : goal.as_slice-requires
as_slice-requires c = (plan_asks (planning _ _ _ _ _ c.requires.w_len c.requires.w_value.0 c.requires.w_value.1 c.settings_in-settings.ensures c.points_in-n.ensures c.in_ok-rules.ensures)).1.0

pub try_grown-requires : goal.try_grown-requires
try_grown-requires c =
    let asks = plan_asks (planning _ _ _ _ _ c.requires.w_len c.requires.w_value.0 c.requires.w_value.1 c.settings_in-settings.ensures c.points_in-n.ensures c.in_ok-rules.ensures) in
    record { t_len = (length_lent c.args.w.now c.requires.w_len, asks.0.0, asks.0.1, asks.0.2, asks.0.3); usable = subst (AllUsable _) (sym c.as_slice.ensures) asks.1.1 }

pub returns-then-not-try_grown : goal.returns-then-not-try_grown
returns-then-not-try_grown c =
    let fails = c.if-not-try_grown.true in
    let said = plan_17 (planning _ _ _ _ _ c.requires.w_len c.requires.w_value.0 c.requires.w_value.1 c.settings_in-settings.ensures c.points_in-n.ensures c.in_ok-rules.ensures) _ _ (tried_with _ _ _ _ _ c.as_slice.ensures c.try_grown.ensures.tried) fails (c.try_grown.ensures.kept fails) in
    record { ruling = said.0; words = said.1 }

pub add_job-requires : goal.add_job-requires
add_job-requires c = plan_adding (planning _ _ _ _ _ c.requires.w_len c.requires.w_value.0 c.requires.w_value.1 c.settings_in-settings.ensures c.points_in-n.ensures c.in_ok-rules.ensures) _ c.try_grown.auto.t

pub tidy_lines-requires-clause-by_index : goal.tidy_lines-requires-clause-by_index
tidy_lines-requires-clause-by_index c = plan_few (planning _ _ _ _ _ c.requires.w_len c.requires.w_value.0 c.requires.w_value.1 c.settings_in-settings.ensures c.points_in-n.ensures c.in_ok-rules.ensures) _ c.try_grown.auto.t _ c.add_job.ensures

pub overflow_add-n-2 : goal.overflow_add-n-2
overflow_add-n-2 c = omega (arith, (jobs_sized c.args.w.now c.requires.w_value.0).points)

pub insert_all-requires : goal.insert_all-requires
insert_all-requires c =
    let p = planning _ _ _ _ _ c.requires.w_len c.requires.w_value.0 c.requires.w_value.1 c.settings_in-settings.ensures c.points_in-n.ensures c.in_ok-rules.ensures in
    let asks = plan_allocations p _ c.try_grown.auto.t _ c.add_job.ensures _ c.tidy_lines.ensures in
    record { cells_at_in_bounds = (asks.0, asks.1, omega (arith, (plan_asks p).0.1)); all_fit = asks.2 }

pub returns : goal.returns
returns c =
    let p = planning _ _ _ _ _ c.requires.w_len c.requires.w_value.0 c.requires.w_value.1 c.settings_in-settings.ensures c.points_in-n.ensures c.in_ok-rules.ensures in
    let said = plan_joins p _ c.try_grown.auto.t _ c.add_job.ensures _ c.tidy_lines.ensures _ c.if-not-try_grown.false (tried_with _ _ _ _ _ c.as_slice.ensures c.try_grown.ensures.tried) _
    c.insert_all.ensures in
    record { ruling = said.0; words = said.1 }
