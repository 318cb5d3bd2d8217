-- `plan_offer`: the reading of the offer, refusal by refusal, and then its job (proofs/Planned).
use Prim.Native.Nat.{◌≤◌, ◌<◌}
use mathlib.Core.Path.{sym, ◌∙◌, ap, ap₂, subst}
use native.Mathlib.Omega.{arith}
use Rattle.std.proofs.lemmas.Result.{err_from_is_err_and}
use Rattle.base_rulings.proofs.RulingLaws.{passed_err, passed_ok}
use Rattle.read_offer.specs.Offer.{due_of, consistency_ruling, chain_ruling}
use Rattle.base_rulings.specs.Answer.{plain}
use mathlib.Core.List.{List}
use lib.ListN.{length}
use Rattle.spec_plain.specs.Limits.{most_steps}
use Rattle.spec_plain.specs.declared.Step.{Step}
use Rattle.spec_plain.specs.Plain.{Offer, drafted}
use Rattle.spec_rulebook.specs.Reading.{offer_of}
use Rattle.part_offered.specs.Sized.{SizedOffer}
use Rattle.part_offered.proofs.Sized.{offer_sized}
use Rattle.part_boardwords.specs.Layout.{horizon_at}
use Rattle.part_boardwords.specs.Words.{word_in, board_in}
use Rattle.call_board.specs.Ruled.{Ruled}
use Rattle.call_board.specs.Boards.{state_of}
use Rattle.call_board.specs.Calls.{decided}
use Rattle.call_board.specs.InWords.{words_after}
use Rattle.call_board.proofs.InWords.{unanswered}
use Rattle.call_planning.proofs.Planned.{held_is, bad_format, bad_facts, bad_due, bad_chain, chain_good}
use Rattle.call_planning.proofs.plan_offer.Goals as goal

pub returns-in_err-offer : goal.returns-in_err-offer
returns-in_err-offer c =
    let left = err_from_is_err_and c.from_residual.result c.from_residual.ensures.1 in
    let said = unanswered c.args.w.now _ _ _ (bad_format (board_in c.args.w.now) _ _ c.args.plant.good _ (sym c.in_err-offer.ensures.ruling)) in
    record { ruling = rw (left.1, left.2) said.0; words = said.1 }

pub returns-in_err-check_consistency : goal.returns-in_err-check_consistency
returns-in_err-check_consistency c =
    let left = err_from_is_err_and c.from_residual-in_err-check_consistency.result c.from_residual-in_err-check_consistency.ensures.1 in
    let read = c.in_ok-offer.ensures in
    let facts = sym (ap consistency_ruling read.same.1) ∙ passed_err _ _ (sym c.in_err-check_consistency.ensures) in
    let said = unanswered c.args.w.now _ _ _ (bad_facts (board_in c.args.w.now) _ _ c.args.plant.good (sym read.ruling) _ facts) in
    record { ruling = rw (left.1, left.2) said.0; words = said.1 }

pub returns-then-w-due : goal.returns-then-w-due
returns-then-w-due c =
    let read = c.in_ok-offer.ensures in
    let facts = sym (ap consistency_ruling read.same.1) ∙ passed_ok _ _ (sym c.in_ok-check_consistency.ensures) in
    let late : word_in c.args.w.now horizon_at < due_of c.args.bytes.now = omega (arith, c.if-w-due.true, c.due-due.ensures, ap due_of read.same.1) in
    let said = unanswered c.args.w.now _ _ (plain 23) (bad_due (board_in c.args.w.now) _ _ c.args.plant.good (sym read.ruling) facts late) in
    record { ruling = said.0; words = said.1 }

pub returns-in_err-check_chain : goal.returns-in_err-check_chain
returns-in_err-check_chain c =
    let left = err_from_is_err_and c.from_residual-in_err-check_chain.result c.from_residual-in_err-check_chain.ensures.1 in
    let read = c.in_ok-offer.ensures in
    let facts = sym (ap consistency_ruling read.same.1) ∙ passed_ok _ _ (sym c.in_ok-check_consistency.ensures) in
    let due : due_of c.args.bytes.now ≤ word_in c.args.w.now horizon_at = omega (arith, c.if-w-due.false, c.due-due.ensures, ap due_of read.same.1) in
    let chain = sym (ap₂ chain_ruling read.same.0 read.same.1) ∙ passed_err _ _ (sym c.in_err-check_chain.ensures) in
    let said = unanswered c.args.w.now _ _ _ (bad_chain (board_in c.args.w.now) _ _ c.args.plant.good (sym read.ruling) facts due _ chain) in
    record { ruling = rw (left.1, left.2) said.0; words = said.1 }

pub invariant_of-held : goal.invariant_of-held
invariant_of-held c =
    let o = c.in_ok-offer.offer in
    let sized = offer_sized o.plant.bytes.now o.bytes.now o.plant.good o.ruled (due_of o.bytes.now) (omega arith) in
    record { few = subst (λ (l : List Step). length l ≤ most_steps) (sym c.read_durations.ensures) sized.few }

pub plan_job-requires-clause-w_value : goal.plan_job-requires-clause-w_value
plan_job-requires-clause-w_value c =
    let o = c.in_ok-offer.offer in
    let H = word_in c.args.w.now horizon_at in
    let sized = offer_sized o.plant.bytes.now o.bytes.now o.plant.good o.ruled H (omega (arith, c.if-w-due.false, c.due-due.ensures)) in
    let held = held_is o.plant.bytes.now o.bytes.now _ _ _ _ c.batch.ensures c.due-due.ensures c.read_durations.ensures c.read_allocations.ensures in
    (c.requires.w_value, subst (SizedOffer H) (sym held) sized)

pub returns : goal.returns
returns c =
    let read = c.in_ok-offer.ensures in
    let facts = sym (ap consistency_ruling read.same.1) ∙ passed_ok _ _ (sym c.in_ok-check_consistency.ensures) in
    let due : due_of c.args.bytes.now ≤ word_in c.args.w.now horizon_at = omega (arith, c.if-w-due.false, c.due-due.ensures, ap due_of read.same.1) in
    let chain = sym (ap₂ chain_ruling read.same.0 read.same.1) ∙ passed_ok _ _ (sym c.in_ok-check_chain.ensures) in
    let b = board_in c.args.w.now in
    let o = c.in_ok-offer.offer in
    let held = held_is o.plant.bytes.now o.bytes.now _ _ _ _ c.batch.ensures c.due-due.ensures c.read_durations.ensures c.read_allocations.ensures in
    let is = ap (λ (z : Offer). decided b (drafted (state_of b) z)) (held ∙ ap₂ offer_of read.same.0 read.same.1)
    ∙ chain_good b _ _ c.args.plant.good (sym read.ruling) facts due chain in
    record { ruling = c.plan_job.ensures.ruling ∙ ap (λ (r : Ruled). r.ruling) is; words = c.plan_job.ensures.words ∙ ap (words_after c.args.w.now) is }
