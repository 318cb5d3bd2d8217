-- The answer to a call.
--   Ruled   the ruling, and the board after it
use Rattle.base_rulings.specs.declared.Ruling.{Ruling}
use Rattle.part_boardwords.specs.Board.{Board}

pub record Ruled : Type 0 where
  pub ruling : Ruling
  pub board : Board
