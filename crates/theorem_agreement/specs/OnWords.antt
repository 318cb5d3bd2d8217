-- Demand 3 and the rulings for the calls that C makes. A controller lends a board's words; what a call leaves in them and what it answers are the right
-- sides of the contracts of `sf_fresh`, `sf_plan`, `sf_send`, `sf_clock` and `sf_retire` (crates/cabi).
--   call_words w c          the words after the call c on the words w
--   words_through w cs      the words after a list of calls;  rulings_through w cs: their rulings, of which C gets number and value
--   OnWords s w cs         from what fresh with the settings s writes over the words w, the list cs leaves the words of the board after it (specs/Runs),
--                          and is ruled as it, and so as every run of the rule book
--   cell_word w i j         the word of the cell (i, j);  SameCellWords v w: all 65 x 65 are equal
--   Demand3OnWords         demand 3, of the words that two lists of calls leave
use Rattle.std.specs.Prelude.{◌≡◌, ◌↔◌, false, List, [], ◌∷◌, ℕ, ◌+◌, ◌*◌, ◌<◌, length}
use Rattle.base_rulings.specs.declared.Ruling.{Ruling}
use Rattle.spec_plain.specs.Limits.{side}
use Rattle.spec_plain.specs.declared.Settings.{Settings}
use Rattle.spec_rulebook.specs.Book.{Book, Call, Runs}
use Rattle.part_boardwords.specs.Layout.{board_size}
use Rattle.part_boardwords.specs.Words.{word_in, cell_at, lent_board}
use Rattle.part_boardwords.specs.Codec.{words_of}
use Rattle.call_board.specs.Boards.{bad_settings}
use Rattle.call_board.specs.InWords.{words_after, fresh_words}
use Rattle.theorem_demands.specs.Cases.{RunsTo, SameTimetables}
use Rattle.theorem_agreement.specs.Abstract.{live_points}
use Rattle.theorem_agreement.specs.Runs.{started, opened, call_ruled, board_after, rulings}

abbrev pub call_words : List ℕ → Call → List ℕ
call_words w c = words_after w (call_ruled (lent_board w) c)

unfoldable pub words_through : List ℕ → List Call → List ℕ
words_through w [] = w
words_through w (c ∷ cs) = words_through (call_words w c) cs

unfoldable pub rulings_through : List ℕ → List Call → List Ruling
rulings_through w [] = []
rulings_through w (c ∷ cs) = (call_ruled (lent_board w) c).ruling ∷ rulings_through (call_words w c) cs

pub record OnWords (s : Settings) (w : List ℕ) (cs : List Call) : Type 0 where
  -- the words of the board after the list, and they stand for it
  pub words : words_through (fresh_words s w) cs ≡ words_of (board_after (started s) cs)
  pub board : lent_board (words_through (fresh_words s w) cs) ≡ board_after (started s) cs
  -- the board's rulings
  pub same : rulings_through (fresh_words s w) cs ≡ rulings (started s) cs
  -- and the rule book's, whatever run of it is taken
  pub book : (rs : List Ruling) (k : Book) → Runs (opened s) cs rs k → rulings_through (fresh_words s w) cs ≡ rs

-- of words as many as a board has, whatever they hold
abbrev pub WordsRight : Type 0
WordsRight = (s : Settings) → bad_settings s ≡ false → (w : List ℕ) → length w ≡ board_size → (cs : List Call) → OnWords s w cs

abbrev pub cell_word : List ℕ → ℕ → ℕ → ℕ
cell_word w i j = cell_at (word_in w) (i * side + j)

abbrev pub SameCellWords : List ℕ → List ℕ → Type 0
SameCellWords v w = (i j : ℕ) → i < side → j < side → cell_word v i j ≡ cell_word w i j

abbrev pub Demand3OnWords : Type 0
Demand3OnWords =
    (s t : Settings) → bad_settings s ≡ false → bad_settings t ≡ false
    → (v w : List ℕ) → length v ≡ board_size → length w ≡ board_size → (cs ds : List Call)
    → live_points (lent_board (words_through (fresh_words s v) cs)) ≡ live_points (lent_board (words_through (fresh_words t w) ds))
    → RunsTo s cs (rulings_through (fresh_words s v) cs) (λ (k : Book). RunsTo t ds (rulings_through (fresh_words t w) ds) (λ (j : Book).
    SameCellWords (words_through (fresh_words s v) cs) (words_through (fresh_words t w) ds) ↔ SameTimetables k j))
