-- The words of a log as bytes. Assumes nothing.
--   name_of w     how the word w is written
--   Says s w     w is what s says: the word that is written so, or none where none is
use Rattle.std.specs.Prelude.{ℕ, ◌≡◌, List, [], ◌∷◌, Option, Some, None}
use Rattle.log_calls.specs.declared.vocabulary.Word.{Word}
use Rattle.log_calls.specs.declared.vocabulary.Word.TheVariants.{List as ListWord, Plant, Check, Part, Fact, Fresh, Board, Plan, Send, Clock, Retire}
use Rattle.log_calls.specs.declared.vocabulary.Word.TheVariants.{Report, Table, State, Write}

-- `list`, `plant`, `check`, `part`, `fact`, `fresh`, `board`, `plan`, `send`, `clock`, `retire`, `report`, `table`, `state`, `write`
abbrev pub name_of : Word → List ℕ
name_of ListWord = 108 ∷ 105 ∷ 115 ∷ 116 ∷ []
name_of Plant = 112 ∷ 108 ∷ 97 ∷ 110 ∷ 116 ∷ []
name_of Check = 99 ∷ 104 ∷ 101 ∷ 99 ∷ 107 ∷ []
name_of Part = 112 ∷ 97 ∷ 114 ∷ 116 ∷ []
name_of Fact = 102 ∷ 97 ∷ 99 ∷ 116 ∷ []
name_of Fresh = 102 ∷ 114 ∷ 101 ∷ 115 ∷ 104 ∷ []
name_of Board = 98 ∷ 111 ∷ 97 ∷ 114 ∷ 100 ∷ []
name_of Plan = 112 ∷ 108 ∷ 97 ∷ 110 ∷ []
name_of Send = 115 ∷ 101 ∷ 110 ∷ 100 ∷ []
name_of Clock = 99 ∷ 108 ∷ 111 ∷ 99 ∷ 107 ∷ []
name_of Retire = 114 ∷ 101 ∷ 116 ∷ 105 ∷ 114 ∷ 101 ∷ []
name_of Report = 114 ∷ 101 ∷ 112 ∷ 111 ∷ 114 ∷ 116 ∷ []
name_of Table = 116 ∷ 97 ∷ 98 ∷ 108 ∷ 101 ∷ []
name_of State = 115 ∷ 116 ∷ 97 ∷ 116 ∷ 101 ∷ []
name_of Write = 119 ∷ 114 ∷ 105 ∷ 116 ∷ 101 ∷ []

abbrev pub Says : List ℕ → Option Word → Type 0
Says s (Some w) = s ≡ name_of w
Says s None = (v : Word) → s ≡ name_of v → ⊥
