-- The text of answers. Assumes nothing.
--   line_text s            the line s
--   part_text s            `= 0 HEX` with the bytes s
--   Shows a line plant Same Puts   what is known of the text of the answer a to this line, on this plant file: nothing is put and so Same, or Puts of
--                                  what is put; of other answers nothing is said here
use Rattle.std.specs.Prelude.{ℕ, List, [], ◌∷◌, ◌++◌}
use Rattle.log_text.specs.Hex.{encoded}
use Rattle.read_plant.specs.Plant.{allocations_of}
use Rattle.log_calls.specs.declared.answers.Answer.{Answer}
use Rattle.log_calls.specs.declared.answers.Answer.TheVariants.{Nothing, Line, Ruling as RulingAnswer, Part, Report, File, Table, State}

-- with a line end
abbrev pub line_text : List ℕ → List ℕ
line_text s = s ++ (10 ∷ [])

-- the first four bytes are `= 0 `
abbrev pub part_text : List ℕ → List ℕ
part_text s = line_text ((61 ∷ 32 ∷ 48 ∷ 32 ∷ []) ++ encoded s)

abbrev pub Shows : Answer → List ℕ → List ℕ → Type 0 → (List ℕ → Type 0) → Type 0
Shows Nothing line plant Same Puts = Same
Shows Line line plant Same Puts = Puts (line_text line)
Shows (RulingAnswer r) line plant Same Puts = Unit {0}
Shows (Part action) line plant Same Puts = Puts (part_text (allocations_of plant action))
Shows (Report room) line plant Same Puts = Unit {0}
Shows File line plant Same Puts = Unit {0}
Shows Table line plant Same Puts = Unit {0}
Shows State line plant Same Puts = Unit {0}
