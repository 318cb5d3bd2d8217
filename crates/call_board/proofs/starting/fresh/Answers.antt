-- `fresh` meets its contract: another number of words, settings out of range, or the words of a fresh board.
use Rattle.std.proofs.Common.{◌≡◌, length, replicate, sym, ◌∙◌, rules}
use Rattle.call_board.proofs.Started.{other_number, refused_words, accepted_words}
use Rattle.call_board.proofs.starting.fresh.Goals as goal

pub returns-then-w-ne-BOARD_WORDS : goal.returns-then-w-ne-BOARD_WORDS
returns-then-w-ne-BOARD_WORDS c =
    let r = other_number c.args.s c.args.w.now c.if-w-ne-BOARD_WORDS.true in record { ruling = r.0; words = r.1 }

pub returns-then-not-are_settings_sized : goal.returns-then-not-are_settings_sized
returns-then-not-are_settings_sized c =
    let zero : c.fill.new.self ≡ replicate (length c.args.w.now) 0 = search rules in
    let r = refused_words c.args.s c.args.w.now _ c.if-w-ne-BOARD_WORDS.false zero (sym c.are_settings_sized.ensures ∙ c.if-not-are_settings_sized.true) in
    record { ruling = r.0; words = r.1 }

pub returns : goal.returns
returns c =
    let zero : c.fill.new.self ≡ replicate (length c.args.w.now) 0 = search rules in
    let r = accepted_words c.args.s c.args.w.now _ c.if-w-ne-BOARD_WORDS.false zero (sym c.are_settings_sized.ensures ∙ c.if-not-are_settings_sized.false) in
    record { ruling = r.0; words = r.1 }
