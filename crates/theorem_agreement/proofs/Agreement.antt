-- The board's answers are the rule book's, call by call: on every sound board, beside every book that it stands for.
--   carried        a book beside the abstract board's answer is beside the board after the call
--   call_answered  the call_ruled to a call is the abstract board's
--   call_sound     the board after a call is sound again, its arrays of their lengths
--   call_agrees    every outcome of a call in the rule book has the board's ruling and a book beside the board after the call, and there is one
use mathlib.Core.Path.{◌≡◌, sym, subst, ◌∙◌}
use Rattle.base_rulings.specs.declared.Ruling.{Ruling}
use Rattle.spec_plain.specs.Plain.{State}
use Rattle.part_gaps.specs.Cells.{table_of}
use Rattle.spec_rulebook.specs.Book.{Book, Call, plan, send, clock, retire, Step}
use Rattle.part_boardwords.specs.Board.{Board}
use Rattle.part_sound.specs.Sound.{Sound}
use Rattle.call_board.specs.Ruled.{Ruled}
use Rattle.theorem_demands.specs.Model.{AbstractRuled, step}
use Rattle.theorem_demands.specs.Beside.{StandsFor, Sim}
use Rattle.theorem_demands.proofs.Step.{sim_keeps, sim_exists}
use Rattle.theorem_demands.proofs.Tidy.{holds_agree}
use Rattle.theorem_agreement.specs.Abstract.{Shaped, abstract_of, Agreed}
use Rattle.theorem_agreement.specs.Runs.{call_ruled}
use Rattle.theorem_agreement.proofs.Keeps.{Answered, plan_answered, send_answered, clock_answered}
use Rattle.theorem_agreement.proofs.Retiring.{retire_answered}

-- a book beside the abstract answer is beside the board's: the state is the same, and so are the cells that count
pub carried : {a : Ruled} {m : AbstractRuled} → Answered a m → (k : Book) → Sim m.board k → Sim (abstract_of a.board) k
carried {a} {m} w k x =
    let cells = w.cells in
    record {
      state = x.state ∙ sym w.state;
      holds =
          subst (λ (s : State). StandsFor s (table_of a.board.gaps) k.rules) (sym w.state)
          (holds_agree (table_of a.board.gaps) (λ i j hi hj. sym (cells i j hi hj)) x.holds);
    }

module _ (b : Board) (w : Shaped b) (s : Sound b) where
  pub call_answered : (call : Call) (a : Ruled) → a ≡ call_ruled b call → Answered a (step (abstract_of b) call)
  unfolding call_ruled
  call_answered (plan p o) a e = rw e (plan_answered b w s p o)
  call_answered (send place) a e = rw e (send_answered b w s place)
  call_answered (clock c) a e = rw e (clock_answered b w s c)
  call_answered retire a e = rw e (retire_answered b w s)

  pub call_sound : (call : Call) (a : Ruled) → a ≡ call_ruled b call → Shaped a.board × Sound a.board
  call_sound call a e = let ans = call_answered call a e in (ans.shaped, ans.sound)

  pub call_agrees : (bk : Book) → Sim (abstract_of b) bk → (call : Call) (a : Ruled) → a ≡ call_ruled b call → Agreed (Step bk call) a
  call_agrees bk x call a e =
      let ans = call_answered call a e in
      let out = sim_exists x call in
      record {
        keeps = λ r k o. let q = sim_keeps x call r k o in (q.0 ∙ sym ans.ruling, carried ans k q.1);
        exists = (out.0, subst (λ (r : Ruling). Step bk call r out.0) (sym ans.ruling) out.1);
      }
