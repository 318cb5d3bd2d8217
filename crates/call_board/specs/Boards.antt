-- The board and what it holds.
--   state_of, board_of   the state that a board holds, and the board that holds a state (part_boardwords)
--   fresh_cells     the table of the origin alone
--   bad_settings s  5: the horizon or the lead is out of range
--   fresh_board     a fresh board;  zero_board: the board of a refused fresh
--   fresh_ruled     the answer to fresh
use Rattle.std.specs.Prelude.{ℕ, Bool, cond, not, List, set, replicate}
use Rattle.base_rulings.specs.declared.Ruling.TheVariants.{Accepted}
use Rattle.base_rulings.specs.Answer.{refuse}
use Rattle.spec_plain.specs.Limits.{cell_count}
use Rattle.spec_plain.specs.declared.Settings.{Settings}
use Rattle.spec_stn.specs.Table.{bias}
use Rattle.spec_rulebook.specs.Book as Rulebook
pub use Rattle.part_boardwords.specs.Board.{state_of, board_of}
use Rattle.part_boardwords.specs.Board.{Board}
use Rattle.part_boardwords.specs.Words.{zeros, board_read}
use Rattle.part_sound.specs.Sound.{sized_settings}
use Rattle.call_board.specs.Ruled.{Ruled}

unfoldable pub bad_settings : Settings → Bool
bad_settings s = not (sized_settings s)

-- "clock 0 and one point, the origin, numbered 0": its cell with itself is a gap of 0
unfoldable pub fresh_cells : List ℕ
fresh_cells = set (replicate cell_count 0) 0 bias

unfoldable pub fresh_board : Settings → Board
fresh_board s = board_of (Rulebook.fresh s).state fresh_cells

-- "the board given is then all zeros, which isn't sound and is no fresh board"
unfoldable pub zero_board : Board
zero_board = board_read zeros

unfoldable pub fresh_ruled : Settings → Ruled
fresh_ruled s =
    cond (bad_settings s) (record { ruling = refuse 5; board = zero_board })
    (record { ruling = Accepted; board = fresh_board s })
