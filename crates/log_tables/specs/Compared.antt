-- Two boards compared: whether they are sound, then their live points, then their cells in row order.
--   first_difference l m   the place of the first cell that differs, and the number of cells where none does
--   entry_at l m k         the answer where the cells at place k are the first that differ
--   compared_cells l m     the answer of two tables of as many live points
--   compared b d          the answer of two boards
-- Words that are lent are compared as the boards that they stand for (`lent_board`, boardwords/specs/Words): words that are not as many as a board
-- has stand for no sound board, so that the answer is FirstUnsound or SecondUnsound.
use Rattle.std.specs.Prelude.{ℕ, suc, ◌/◌, ◌%◌, cond, List, [], ◌∷◌, ltb, eqb, length, get_or}
use Rattle.spec_plain.specs.Limits.{side}
use Rattle.part_boardwords.specs.Board.{Board}
use Rattle.part_sound.specs.Sound.{points_of, sound}
use Rattle.log_tables.specs.declared.Compared.{Compared}
use Rattle.log_tables.specs.declared.Compared.TheVariants.{FirstUnsound, SecondUnsound, Points, Entry as EntryAnswer, Equal}

unfoldable pub first_difference : List ℕ → List ℕ → ℕ
first_difference [] m = 0
first_difference (x ∷ l) [] = 0
first_difference (x ∷ l) (y ∷ m) = cond (eqb x y) (suc (first_difference l m)) 0

abbrev pub entry_at : List ℕ → List ℕ → ℕ → Compared
entry_at l m k = EntryAnswer (record { row = k / side; column = k % side; first = get_or l k 0; second = get_or m k 0 })

unfoldable pub compared_cells : List ℕ → List ℕ → Compared
compared_cells l m = cond (ltb (first_difference l m) (length l)) (entry_at l m (first_difference l m)) Equal

unfoldable pub compared : Board → Board → Compared
compared b d =
    cond (sound b)
    (cond (sound d)
    (cond (eqb (points_of b) (points_of d)) (compared_cells b.gaps d.gaps) (Points (suc (points_of b)) (suc (points_of d))))
    SecondUnsound)
    FirstUnsound
