-- `ask` meets its contract.
use Rattle.std.proofs.Common.{sym, ◌∙◌, arith}
use Rattle.part_boardwords.specs.Words.{board_in}
use Rattle.part_sound.proofs.Soundness.{sound_sized, sound_few}
use Rattle.call_report.proofs.Answers.{sound_words, asked_unsound, asked_short, asked_rows}
use Rattle.call_report.proofs.ask.Goals as goal

pub returns-then-not-is_sound : goal.returns-then-not-is_sound
returns-then-not-is_sound c = asked_unsound c.args.w.now c.args.room (sym c.is_sound.ensures ∙ c.if-not-is_sound.true)

pub points_in-stores-requires : goal.points_in-stores-requires
points_in-stores-requires c =
    let b = board_in c.args.w.now in
    let s = sound_words c.args.w.now (sym c.is_sound.ensures ∙ c.if-not-is_sound.false) in
    (omega (arith, s.0), (sound_sized b s.1).count, sound_few b s.1)

pub returns-then-room-stores : goal.returns-then-room-stores
returns-then-room-stores c =
    asked_short c.args.w.now c.args.room (sym c.is_sound.ensures ∙ c.if-not-is_sound.false) _ c.points_in-stores.ensures c.if-room-stores.true

pub returns : goal.returns
returns c =
    asked_rows c.args.w.now c.args.room (sym c.is_sound.ensures ∙ c.if-not-is_sound.false) _ c.points_in-stores.ensures c.if-room-stores.false
