-- The calls on words are the calls on boards (specs/OnWords).
--   Stands w b       the words w are those of the board b, and stand for it
--   call-back        the words after any call stand for the board after it: an accepted call's by GivenBack, a refused one's as they came
--   call_stands, through_stand   so do those after a call, after a list of calls, on words that do;  through_ruled: the rulings are the board's
--   fresh_stands     what fresh writes stands for the fresh board
--   cell_word_lem        a cell of the board that words stand for is their word
--   words_right, demand3_on_words   the theorems
use mathlib.Core.Path.{◌≡◌, refl, sym, ap, ap₂, ◌∙◌}
use mathlib.Core.Logic.{◌↔◌}
use mathlib.Core.Bool.{false}
use mathlib.Core.List.{List, [], ◌∷◌}
use Prim.Native.Nat.{ℕ, ◌+◌, ◌*◌, ◌<◌}
use native.Mathlib.Omega.{arith}
use lib.ListN.{length}
use borrow.Author.Tests.{eq-eqb}
use Rattle.base_rulings.specs.declared.Ruling.{Ruling}
use Rattle.base_rulings.specs.declared.Ruling.TheVariants.{Accepted, Refused}
use Rattle.base_rulings.specs.Order.{if_accepted}
use Rattle.base_lists.proofs.Build.{build_at}
use Rattle.spec_plain.specs.Limits.{side, cell_count}
use Rattle.spec_plain.specs.declared.Settings.{Settings}
use Rattle.spec_rulebook.specs.Book.{Call, plan, send, clock, retire}
use Rattle.part_gaps.specs.Cells.{cell}
use Rattle.part_boardwords.specs.Board.{Board}
use Rattle.part_boardwords.specs.Layout.{board_size}
use Rattle.part_boardwords.specs.Words.{word_in, cell_at, lent_board}
use Rattle.part_boardwords.specs.Codec.{words_of}
use Rattle.part_boardwords.proofs.Overwritten.{length_words}
use Rattle.part_sound.proofs.InWords.{lent_is}
use Rattle.call_board.specs.Ruled.{Ruled}
use Rattle.call_board.specs.Boards.{bad_settings, fresh_ruled}
use Rattle.call_board.specs.InWords.{words_after, fresh_ruling, fresh_words}
use Rattle.theorem_agreement.specs.Abstract.{live_points}
use Rattle.theorem_agreement.specs.Runs.{started, call_ruled, board_after, rulings}
use Rattle.theorem_agreement.specs.Demand3.{SameCells}
use Rattle.theorem_agreement.specs.OnWords.{call_words, words_through, rulings_through, WordsRight, cell_word, SameCellWords, Demand3OnWords}
use Rattle.theorem_agreement.proofs.Refused.{refused_same}
use Rattle.theorem_agreement.proofs.GivenBack.{plan_back, send_back, clock_back, retire_back, fresh_back}
use Rattle.theorem_agreement.proofs.Lists.{agreement}
use Rattle.theorem_agreement.proofs.Demand3.{tables_right, fed}

record Stands (w : List ℕ) (b : Board) : Type 0 where
  pub words : w ≡ words_of b
  pub board : lent_board w ≡ b

-- ---- a call

accepted_back : (w : List ℕ) (c : Call) → (call_ruled (lent_board w) c).ruling ≡ Accepted → lent_board (call_words w c) ≡ (call_ruled (lent_board w) c).board
unfolding call_ruled
accepted_back w (plan p o) e = plan_back w p o e
accepted_back w (send place) e = send_back w place e
accepted_back w (clock c) e = clock_back w c e
accepted_back w retire e = retire_back w e

module _ (w : List ℕ) (b : Board) (st : Stands w b) (c : Call) where
  call_stands : Stands (call_words w c) (call_ruled b c).board
  unfolding words_after
  call_stands = rw (sym st.board) (go (call_ruled (lent_board w) c).ruling refl)
    where
      a : Ruled
      a = call_ruled (lent_board w) c

      go : (r : Ruling) → a.ruling ≡ r → Stands (call_words w c) a.board
      go Accepted e = record { words = ap (λ (x : Ruling). if_accepted x (words_of a.board) w) e; board = accepted_back w c e }
      go (Refused x) e =
          let same : call_words w c ≡ w = ap (λ (y : Ruling). if_accepted y (words_of a.board) w) e in
          let came = refused_same (lent_board w) x c a refl e in
          record {
            words = same ∙ st.words ∙ ap words_of (sym st.board ∙ sym came);
            board = ap lent_board same ∙ sym came;
          }

-- ---- lists of calls

through_stand : (cs : List Call) (w : List ℕ) (b : Board) → Stands w b → Stands (words_through w cs) (board_after b cs)
unfolding words_through board_after
through_stand [] w b st = st
through_stand (c ∷ cs) w b st = through_stand cs (call_words w c) (call_ruled b c).board (call_stands w b st c)

through_ruled : (cs : List Call) (w : List ℕ) (b : Board) → Stands w b → rulings_through w cs ≡ rulings b cs
unfolding rulings_through rulings
through_ruled [] w b st = refl
through_ruled (c ∷ cs) w b st =
    ap₂ ◌∷◌ (ap (λ (d : Board). (call_ruled d c).ruling) st.board)
    (through_ruled cs (call_words w c) (call_ruled b c).board (call_stands w b st c))

module _ (s : Settings) (good : bad_settings s ≡ false) (w : List ℕ) (size : length w ≡ board_size) where
  fresh_stands : Stands (fresh_words s w) (started s)
  unfolding fresh_ruling fresh_words fresh_ruled
  fresh_stands =
      let many = eq-eqb (length w) board_size size in
      record { words = rw many refl; board = fresh_back w s (rw (many, good) refl) }

  stands : (cs : List Call) → Stands (words_through (fresh_words s w) cs) (board_after (started s) cs)
  stands cs = through_stand cs (fresh_words s w) (started s) fresh_stands

pub words_right : WordsRight
words_right s good w size cs =
    let st = stands s good w size cs in
    let ruled = through_ruled cs (fresh_words s w) (started s) (fresh_stands s good w size) in
    record {
      words = st.words;
      board = st.board;
      same = ruled;
      book = λ rs k p. ruled ∙ sym ((agreement s good cs).same_rulings_lem rs k p);
    }

-- ---- cells

module _ (w : List ℕ) (b : Board) (st : Stands w b) (i j : ℕ) (hi : i < side) (hj : j < side) where
  cell_word_lem : cell_word w i j ≡ cell b.gaps i j
  cell_word_lem =
      let size : length w ≡ board_size = ap length st.words ∙ length_words b in
      sym (build_at (cell_at (word_in w)) cell_count (i * side + j) 0 (omega arith))
      ∙ ap (λ (d : Board). cell d.gaps i j) (sym (lent_is w size) ∙ st.board)

module _ (v w : List ℕ) (b d : Board) (st : Stands v b) (su : Stands w d) where
  cells_same : SameCellWords v w ↔ SameCells b d
  cells_same = (
    λ e i j hi hj. sym (cell_word_lem v b st i j hi hj) ∙ e i j hi hj ∙ cell_word_lem w d su i j hi hj,
    λ e i j hi hj. cell_word_lem v b st i j hi hj ∙ e i j hi hj ∙ sym (cell_word_lem w d su i j hi hj),
  )

pub demand3_on_words : Demand3OnWords
demand3_on_words s t good fine v w sv sw cs ds same =
    let one = agreement s good cs in
    let other = agreement t fine ds in
    let st = stands s good v sv cs in
    let su = stands t fine w sw ds in
    let b = board_after (started s) cs in
    let d = board_after (started t) ds in
    let live : live_points b ≡ live_points d = ap live_points (sym st.board) ∙ same ∙ ap live_points su.board in
    let cells = cells_same _ _ b d st su in
    let ruled = (words_right s good v sv cs).same in
    let answered = (words_right t fine w sw ds).same in
    rw (ruled, answered)
    (fed s good cs _ (λ k m. fed t fine ds _ (λ j n.
    let right = tables_right b d one.shaped other.shaped one.sound other.sound live m n in
    (λ e. right.0 (cells.0 e), λ u. cells.1 (right.1 u)))))
