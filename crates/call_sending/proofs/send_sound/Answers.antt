-- `send_sound` meets its contract: no unsent job there, or the jobs are sent.
use Rattle.std.proofs.Common.{sym, ◌∙◌, rules}
use Rattle.base_rulings.specs.Answer.{plain}
use Rattle.part_boardwords.specs.Words.{board_in}
use Rattle.call_board.proofs.InWords.{jobs_sized, unanswered, accepted_words}
use Rattle.call_sending.proofs.Sent.{absent, accepted}
use Rattle.call_sending.proofs.send_sound.Goals as goal

pub is_unsent-requires : goal.is_unsent-requires
is_unsent-requires c = (search rules, (jobs_sized c.args.w.now c.requires.w_value).count)

pub returns-then-not-is_unsent : goal.returns-then-not-is_unsent
returns-then-not-is_unsent c =
    let r = unanswered c.args.w.now _ _ (plain 18)
    (absent (board_in c.args.w.now) c.args.place c.requires.w_value (sym c.is_unsent.ensures ∙ c.if-not-is_unsent.true)) in
    record { ruling = r.0; words = r.1 }

pub send_up_to-requires : goal.send_up_to-requires
send_up_to-requires c =
    record { w_len = c.requires.w_len; w_value = (c.requires.w_value, sym c.is_unsent.ensures ∙ c.if-not-is_unsent.false) }

pub returns : goal.returns
returns c =
    let w = c.args.w.now in
    let unsent = sym c.is_unsent.ensures ∙ c.if-not-is_unsent.false in
    let r = accepted_words w _ _ (accepted w c.requires.w_len c.requires.w_value c.args.place unsent) c.send_up_to.ensures in
    record { ruling = r.0; words = r.1 }
