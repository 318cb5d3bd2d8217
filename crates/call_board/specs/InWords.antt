-- The calls on a board that is lent as words. The board that they rule on is `lent_board` of the words (boardwords/specs/Words).
--   words_after w r     the words after the answer r: those of its board where accepted, the words that came where refused
--   fresh_ruling s w    the ruling of fresh with the settings s on the words w: 6 where they are not as many as a board has, then 5
--   fresh_words s w     the words after it: those of the board given, all zeros where it is refused with 5; as they came where it is 6
use Rattle.std.specs.Prelude.{ℕ, cond, List, eqb, length}
use Rattle.base_rulings.specs.declared.Ruling.{Ruling}
use Rattle.base_rulings.specs.Answer.{refuse}
use Rattle.base_rulings.specs.Order.{if_accepted}
use Rattle.part_boardwords.specs.Layout.{board_size}
use Rattle.part_boardwords.specs.Codec.{words_of}
use Rattle.spec_plain.specs.declared.Settings.{Settings}
use Rattle.call_board.specs.Ruled.{Ruled}
use Rattle.call_board.specs.Boards.{fresh_ruled}

unfoldable pub words_after : List ℕ → Ruled → List ℕ
words_after w r = if_accepted r.ruling (words_of r.board) w

unfoldable pub fresh_ruling : Settings → List ℕ → Ruling
fresh_ruling s w = cond (eqb (length w) board_size) (fresh_ruled s).ruling (refuse 6)

unfoldable pub fresh_words : Settings → List ℕ → List ℕ
fresh_words s w = cond (eqb (length w) board_size) (words_of (fresh_ruled s).board) w
