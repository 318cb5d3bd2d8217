-- `read_records` meets its contract.
use Rattle.std.proofs.Common.{◌≡◌, ◌∙◌, ◌+◌, sym, subst, ap, arith}
use Rattle.std.proofs.lemmas.Result.{MatchResult-at_err}
use Rattle.base_words.specs.Word.{word}
use Rattle.base_rulings.specs.Order.{refusal_of}
use Rattle.base_rulings.proofs.RulingLaws.{first_none}
use Rattle.read_plant.proofs.Reading.{Reached, number, turn, start_none, first_refused, room_refused, reading_fails, reading_ends}
use Rattle.read_plant.proofs.read_records.Goals as goal

pub returns-then-at-ne0 : goal.returns-then-at-ne0
returns-then-at-ne0 c =
    let e = c.u32_at-at.ensures in
    let d = c.if-at-ne0.true in
    sym (first_refused _ _ c.requires.0 (λ q. d (e ∙ q)) c.requires.2)

pub loop-at-init : goal.loop-at-init
loop-at-init c =
    let none = c.if-at-ne0.false in
    let zero = c.u32_at-at.ensures in
    let e : 0 ≡ number c.args.t c.args.t.index = omega arith in (
      subst (Reached c.args.s.now c.args.t c.u32_at-at.result) e
          (omega arith, none ∙ start_none _, ap (word _) (omega arith) ∙ sym zero, first_none _),
      c.u32_at-at.type_inv,
      omega arith,
    )

pub read_record-answer-requires : goal.read_record-answer-requires
read_record-answer-requires c =
    let fits = c.requires.1 in
    let now = turn _ _ c.requires.0 c.requires.1 _ _ c.loop-at.invariant.0 c.loop-at.invariant.2 c.loop-at-test.true _ _ c.action_of-action.ensures
    c.u32_at-next.ensures in
    (omega (arith, fits), now.more, c.loop-at-test.true, now.reached.2, now.last)

pub returns-in_default : goal.returns-in_default
returns-in_default c =
    let now = turn _ _ c.requires.0 c.requires.1 _ _ c.loop-at.invariant.0 c.loop-at.invariant.2 c.loop-at-test.true _ _ c.action_of-action.ensures
    c.u32_at-next.ensures in
    ap refusal_of (MatchResult-at_err _ _ _ c.in_default.is c.map.ensures.cases)
    ∙ sym (reading_fails _ _ c.requires.0 _ _ now.reached.1 now.reached.3 now.reached.2 now.more _ now.there now.last _ c.read_record-answer.ensures _
    c.in_default.is)

pub loop-at-smaller : goal.loop-at-smaller
loop-at-smaller c =
    let now = turn _ _ c.requires.0 c.requires.1 _ _ c.loop-at.invariant.0 c.loop-at.invariant.2 c.loop-at-test.true _ _ c.action_of-action.ensures
    c.u32_at-next.ensures in
    let more = now.more in
    let place = c.loop-at.invariant.2 in
    let told = c.action_of-action.ensures in
    omega (arith, more, place, told)

pub loop-at-preserved : goal.loop-at-preserved
loop-at-preserved c =
    let now = turn _ _ c.requires.0 c.requires.1 _ _ c.loop-at.invariant.0 c.loop-at.invariant.2 c.loop-at-test.true _ _ c.action_of-action.ensures
    c.u32_at-next.ensures in
    let ends = reading_ends _ _ c.requires.0 _ _ now.reached.1 now.reached.3 now.reached.2 now.more _ now.there now.last _ c.read_record-answer.ensures _
    c.in-Ok.is in
    let place = c.loop-at.invariant.2 in
    let told = c.action_of-action.ensures in
    let more = now.more in
    let is = now.there in
    let there = ends.1 in
    let small = c.u32_at-next.type_inv in
    let one_more : c.action_of-action.result + 1 ≡ number c.args.t (c.loop-at.entry + 4) = omega (arith, place, told) in (
      subst (Reached c.args.s.now c.args.t c.in-Ok.end) one_more (omega (arith, more), ends.0, there, ends.2),
      omega (arith, is, small, there),
      omega (arith, place),
    )

pub returns-then-action-t : goal.returns-then-action-t
returns-then-action-t c =
    let reached = subst (Reached c.args.s.now c.args.t c.loop-at.at) (sym c.action_of-action-2.ensures) c.loop-at.invariant.0 in
    sym (room_refused _ _ c.requires.0 _ _ reached.1 reached.3 reached.2 c.if-action-t.true c.loop-at-test.false)
