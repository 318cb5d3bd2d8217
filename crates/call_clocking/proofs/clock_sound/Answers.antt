-- `clock_sound` meets its contract: a clock that goes back or passes the horizon, or the clock's rules tried.
use Rattle.std.proofs.Common.{ap, arith}
use Rattle.base_rulings.specs.Answer.{plain}
use Rattle.spec_plain.specs.declared.Settings.{Settings}
use Rattle.part_boardwords.specs.Words.{board_in}
use Rattle.call_board.proofs.InWords.{unanswered}
use Rattle.call_clocking.proofs.Clocked.{back, past}
use Rattle.call_clocking.proofs.clock_sound.Goals as goal

pub returns-then-c-w : goal.returns-then-c-w
returns-then-c-w c =
    let r = unanswered c.args.w.now _ _ (plain 19) (back (board_in c.args.w.now) c.args.c c.requires.w_value c.if-c-w.true) in
    record { ruling = r.0; words = r.1 }

pub returns-then-settings-c : goal.returns-then-settings-c
returns-then-settings-c c =
    let w = c.args.w.now in
    let horizon = ap (λ (s : Settings). s.horizon) c.settings_in-settings.ensures in
    let r = unanswered w _ _ (plain 19) (past (board_in w) c.args.c c.requires.w_value c.if-c-w.false (omega (arith, horizon))) in
    record { ruling = r.0; words = r.1 }

pub move_clock-requires : goal.move_clock-requires
move_clock-requires c =
    record {
      w_len = c.requires.w_len;
      w_value = (c.requires.w_value, c.settings_in-settings.ensures, c.if-c-w.false, c.if-settings-c.false);
    }
