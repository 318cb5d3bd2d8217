-- `clock` meets its contract: a board that is not sound, or what the call comes to on a sound one.
use Rattle.std.proofs.Common.{sym, ◌∙◌}
use Rattle.base_rulings.specs.Answer.{plain}
use Rattle.part_boardwords.specs.Words.{lent_board}
use Rattle.call_board.specs.Calls.{clocked}
use Rattle.call_board.proofs.InWords.{unanswered, lent_sound, lent_answer}
use Rattle.call_clocking.proofs.Clocked.{unsound}
use Rattle.call_clocking.proofs.clock.Goals as goal

pub returns-then-not-is_sound : goal.returns-then-not-is_sound
returns-then-not-is_sound c =
    let r = unanswered c.args.w.now _ _ (plain 6) (unsound (lent_board c.args.w.now) c.args.c (sym c.is_sound.ensures ∙ c.if-not-is_sound.true)) in
    record { ruling = r.0; words = r.1 }

pub clock_sound-requires : goal.clock_sound-requires
clock_sound-requires c =
    let r = lent_sound _ (sym c.is_sound.ensures ∙ c.if-not-is_sound.false) in record { w_len = r.0; w_value = r.1 }

pub returns : goal.returns
returns c =
    let pass = sym c.is_sound.ensures ∙ c.if-not-is_sound.false in
    let r = lent_answer c.args.w.now pass (λ b. clocked b c.args.c) _ _ c.clock_sound.ensures.ruling c.clock_sound.ensures.words in
    record { ruling = c.from.ensures ∙ r.0; words = r.1 }
