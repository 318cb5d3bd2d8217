-- The number of words, and then their board.
use Rattle.std.proofs.Common.{◌∙◌, sym, ap}
use borrow.Author.Tests.{ne_eqb}
use Rattle.part_sound.specs.Sound.{sound}
use Rattle.part_sound.proofs.InWords.{not_board, lent_is}
use Rattle.part_sound.proofs.is_sound.Goals as goal

pub returns-then-w-eq-BOARD_WORDS : goal.returns-then-w-eq-BOARD_WORDS
returns-then-w-eq-BOARD_WORDS c = c.is_sound_in.ensures ∙ ap sound (sym (lent_is c.args.w.now c.if-w-eq-BOARD_WORDS.true))

pub returns-else-w-eq-BOARD_WORDS : goal.returns-else-w-eq-BOARD_WORDS
returns-else-w-eq-BOARD_WORDS c = ne_eqb _ _ c.if-w-eq-BOARD_WORDS.false ∙ sym (not_board c.args.w.now c.if-w-eq-BOARD_WORDS.false)
