-- A sound board written as its words. Assumes nothing.
--   board_of_sound   the words of a sound board hold all of it
use mathlib.Core.Path.{◌≡◌}
use mathlib.Core.Bool.{true}
use Rattle.part_boardwords.specs.Board.{Board, Arrays}
use Rattle.part_boardwords.specs.Words.{board_in}
use Rattle.part_boardwords.specs.Codec.{words_of}
use Rattle.part_boardwords.proofs.Back.{board_back}
use Rattle.part_sound.specs.Sound.{sound}
use Rattle.part_sound.proofs.Soundness.{sound_to}

module _ (b : Board) (arrays : Arrays b) where
  pub board_of_sound : sound b ≡ true → board_in (words_of b) ≡ b
  board_of_sound e = board_back b arrays (sound_to b arrays.lines e).marked
