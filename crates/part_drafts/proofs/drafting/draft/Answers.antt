-- 14, a stop of placing, or the job joins. That it is not 14 bounds the number of points.
use Rattle.std.proofs.Common.{◌≡◌, ℕ, List, ◌+◌, false, refl, sym, ◌∙◌, length, arith}
use Rattle.std.proofs.lemmas.Result.{err_from_is_err_and}
use Rattle.spec_plain.specs.Plain.{State, with_settings, live_count, full}
use Rattle.spec_plain.specs.declared.Settings.{Settings}
use Rattle.base_rulings.specs.Answer.{plain}
use Rattle.part_allocations.specs.Offers.{offer_in}
use Rattle.part_lines.proofs.DraftLaws.{within}
use Rattle.part_boardwords.specs.Board.{state_of}
use Rattle.part_boardwords.specs.Words.{board_in}
use Rattle.part_drafts.proofs.DraftLaws.{drafted_full, start_room, drafted_stop, drafted_made, stops_as}
use Rattle.part_drafts.proofs.drafting.draft.Goals as goal
use Rattle.part_drafts.proofs.drafting.draft.Goals.{Else-is_full}

-- the plain state with the settings that were read
abbrev state : List ℕ → Settings → State
state w settings = with_settings (state_of (board_in w)) settings

-- where it goes on, there is room for the job and its points
not_full : (c : Else-is_full) → full (state c.args.w.now c.args.settings) (length c.args.offer.steps.now + 1) ≡ false
not_full c = sym (c.is_full.ensures (state c.args.w.now c.args.settings) refl) ∙ c.if-is_full.false

pub returns-then-is_full : goal.returns-then-is_full
returns-then-is_full c =
    let s = state c.args.w.now c.args.settings in
    stops_as (plain 14) _ (drafted_full s (offer_in c.args.offer) (length c.args.offer.steps.now) refl (sym (c.is_full.ensures s refl) ∙ c.if-is_full.true))

pub begin_rules-rules-requires : goal.begin_rules-rules-requires
begin_rules-rules-requires c =
    let fits = within (state c.args.w.now c.args.settings) (length c.args.offer.steps.now + 1) (not_full (goal.at.begin_rules-rules-requires c).Else-is_full) in
    (omega (arith, fits), c.args.offer.few)

pub place_all-requires : goal.place_all-requires
place_all-requires c =
    let fits = within (state c.args.w.now c.args.settings) (length c.args.offer.steps.now + 1) (not_full (goal.at.place_all-requires c).Else-is_full) in (
      c.requires.cells_at_in_bounds,
      c.requires.lined,
      omega (arith, fits),
      start_room _ _ c.args.offer.steps.now c.begin_rules-rules.result c.args.offer.few c.begin_rules-rules.ensures,
    )

pub returns-in_err-place_all : goal.returns-in_err-place_all
unfolding live_count
returns-in_err-place_all c =
    let s = state c.args.w.now c.args.settings in
    let steps = length c.args.offer.steps.now in
    let first : c.args.n + 1 ≡ live_count s = omega arith in
    let p = err_from_is_err_and c.from_residual.result c.from_residual.ensures.1 in
    rw (p.1, p.2)
    (stops_as _ _
    (drafted_stop s (offer_in c.args.offer) (c.args.n + 1) steps first refl (not_full (goal.at.returns-in_err-place_all c).Else-is_full) c.args.offer.few
    c.begin_rules-rules.result c.begin_rules-rules.ensures c.place_all.result _ c.place_all.new.rules c.place_all.ensures.answer _ c.in_err-place_all.was))

pub returns : goal.returns
unfolding live_count
returns c =
    let s = state c.args.w.now c.args.settings in
    let steps = length c.args.offer.steps.now in
    let first : c.args.n + 1 ≡ live_count s = omega arith in
    drafted_made s (offer_in c.args.offer) (c.args.n + 1) steps first refl (not_full (goal.at.returns c).Else-is_full) c.args.offer.few
    c.begin_rules-rules.result c.begin_rules-rules.ensures c.place_all.result _ c.place_all.new.rules c.place_all.ensures.answer
    c.add_last_rules.new.rules c.in_ok-place_all.was c.add_last_rules.ensures
