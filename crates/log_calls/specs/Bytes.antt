-- A board's words as bytes, four for each, the low byte first (docs/FORMATS.md, "Words of a board").
--   word_at s k    word k of the bytes s
use Rattle.std.specs.Prelude.{ℕ, ◌*◌, List}
use Rattle.base_words.specs.Word.{word}

abbrev pub word_at : List ℕ → ℕ → ℕ
word_at s k = word s (4 * k)
