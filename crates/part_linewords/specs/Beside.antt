-- A line in words that is changed where it lies.
--   Tidy q          the line q has 0 in every place not in use
--   Beside at v w   the words w are the words v but for the line at word `at`
use Rattle.std.specs.Prelude.{ℕ, ◌≤◌, ◌<◌, ◌≡◌}
use Rattle.part_lines.specs.declared.Line.{Line}
use Rattle.part_lines.specs.ArrayLists.{line_of, line_from}
use Rattle.part_boardwords.specs.Layout.{line_end}
use Rattle.part_boardwords.specs.Words.{Words}

abbrev pub Tidy : Line → Type 0
Tidy q = q ≡ line_from (line_of q)

abbrev pub Beside : ℕ → Words → Words → Type 0
Beside at v w = ((k : ℕ) → k < at → w k ≡ v k) × ((k : ℕ) → line_end at ≤ k → w k ≡ v k)
