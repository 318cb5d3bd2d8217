-- `retire_sound` meets its contract: no job, an unsent one, or what the oldest comes to.
use Rattle.std.proofs.Common.{sym, ◌∙◌, ap, arith}
use borrow.Author.Tests.{not-true, not-false}
use Rattle.base_rulings.specs.Answer.{plain}
use Rattle.spec_plain.specs.declared.Job.{Job}
use Rattle.part_boardwords.specs.Words.{board_in}
use Rattle.call_board.proofs.InWords.{unanswered}
use Rattle.call_retiring.proofs.Retired.{none_there, unsent_words}
use Rattle.call_retiring.proofs.retire_sound.Goals as goal

pub returns-then-w-eq0 : goal.returns-then-w-eq0
returns-then-w-eq0 c =
    let r = unanswered c.args.w.now _ _ (plain 21) (none_there (board_in c.args.w.now) c.requires.w_value c.if-w-eq0.true) in
    record { ruling = r.0; words = r.1 }

pub returns-then-not-oldest : goal.returns-then-not-oldest
returns-then-not-oldest c =
    let r = unsent_words c.args.w.now c.requires.w_len c.requires.w_value (omega arith) _ c.job_at-oldest.ensures
    (not-true _ c.if-not-oldest.true) in
    record { ruling = r.0; words = r.1 }

pub retire_sent-requires : goal.retire_sent-requires
retire_sent-requires c =
    let marked = sym (ap (λ (j : Job). j.sent) c.job_at-oldest.ensures) ∙ not-false _ c.if-not-oldest.false in
    record { w_len = c.requires.w_len; w_value = (c.requires.w_value, omega arith, marked) }
