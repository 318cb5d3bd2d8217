-- `try_plan`: a bad plant file, a board that is not sound, or what the offer comes to (proofs/Planned).
use mathlib.Core.Path.{sym, ◌∙◌, ap}
use mathlib.Core.List.{List}
use Prim.Native.Nat.{ℕ}
use Rattle.std.proofs.lemmas.Result.{err_from_is_err_and}
use Rattle.base_rulings.specs.Answer.{plain}
use Rattle.spec_rulebook.specs.Reading.{reading_of}
use Rattle.part_boardwords.specs.Words.{lent_board}
use Rattle.call_board.specs.Ruled.{Ruled}
use Rattle.call_board.specs.Boards.{state_of}
use Rattle.call_board.specs.Calls.{heard}
use Rattle.call_board.specs.InWords.{words_after}
use Rattle.call_board.proofs.InWords.{unanswered, lent_sound, lent_answer}
use Rattle.call_planning.proofs.Planned.{bad_plant, unsound, on_reading}
use Rattle.call_planning.proofs.try_plan.Goals as goal

pub returns-in_err-plant : goal.returns-in_err-plant
returns-in_err-plant c =
    let left = err_from_is_err_and c.from_residual.result c.from_residual.ensures.1 in
    let said = unanswered c.args.w.now _ _ _ (bad_plant (lent_board c.args.w.now) c.args.plant.now c.args.offer.now _ (sym c.in_err-plant.ensures.ruling)) in
    record { ruling = rw (left.1, left.2) said.0; words = said.1 }

pub returns-then-not-is_sound : goal.returns-then-not-is_sound
returns-then-not-is_sound c =
    let fails = sym c.is_sound.ensures ∙ c.if-not-is_sound.true in
    let said = unanswered c.args.w.now _ _ (plain 6)
    (unsound (lent_board c.args.w.now) c.args.plant.now c.args.offer.now (sym c.in_ok-plant.ensures.ruling) fails) in
    record { ruling = said.0; words = said.1 }

pub plan_offer-requires-clause-w_len : goal.plan_offer-requires-clause-w_len
plan_offer-requires-clause-w_len c = (lent_sound c.args.w.now (sym c.is_sound.ensures ∙ c.if-not-is_sound.false)).0

pub plan_offer-requires-clause-w_value : goal.plan_offer-requires-clause-w_value
plan_offer-requires-clause-w_value c = (lent_sound c.args.w.now (sym c.is_sound.ensures ∙ c.if-not-is_sound.false)).1

pub returns : goal.returns
returns c =
    let w = c.args.w.now in
    let b = lent_board w in
    let pass = sym c.is_sound.ensures ∙ c.if-not-is_sound.false in
    let said = lent_answer w pass (λ x. heard x (reading_of (state_of x) c.in_ok-plant.plant.bytes.now c.args.offer.now)) _ _ c.plan_offer.ensures.ruling
    c.plan_offer.ensures.words in
    let is = ap (λ (s : List ℕ). heard b (reading_of (state_of b) s c.args.offer.now)) c.in_ok-plant.ensures.same
    ∙ on_reading b c.args.plant.now c.args.offer.now (sym c.in_ok-plant.ensures.ruling) pass in
    record { ruling = said.0 ∙ ap (λ (r : Ruled). r.ruling) is; words = said.1 ∙ ap (words_after w) is }
