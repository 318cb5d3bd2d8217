-- Each call of the rule book mirrors the board's answer.
--   step_mirrors              every call
--   step_keeps, step_exists   its two halves: an outcome has the board's ruling and is beside the board's; there is one
--   sim_keeps, sim_exists     the two halves for a board and a book that are side by side
--   fresh_sim                 the fresh board and the fresh book are side by side
use mathlib.Core.Path.{◌≡◌, refl, sym, subst}
use mathlib.Core.Bool.{Bool, true, false}
use mathlib.Core.List.{List}
use Prim.Native.Nat.{ℕ, zero, suc, ◌+◌, ◌≤◌, ◌<◌}
use native.Mathlib.Omega.{arith}
use lib.IntN.{pos}
use Rattle.base_rulings.specs.declared.Ruling.{Ruling}
use Rattle.base_rulings.specs.Answer.{plain}
use Rattle.spec_plain.specs.declared.Settings.{Settings}
use Rattle.spec_plain.specs.Plain
use Rattle.spec_plain.specs.Rules.{Times, RuleOn, AllKept}
use Rattle.spec_plain.proofs.Rules.{NotLater}
use Rattle.spec_stn.specs.Table.{bias, Table}
use Rattle.spec_stn.proofs.Fits.{fits_of}
use Rattle.spec_rulebook.specs.Book.{Book, Point, Call, plan, send, clock, retire, Possible, made, Guarded, Settles, Sends, Step, empty_lines}
use Rattle.spec_rulebook.specs.Book as Rulebook
use Rattle.theorem_demands.specs.Model.{Board, AbstractRuled, book, board, refused_with, send_points, sending, clocking, step}
use Rattle.theorem_demands.specs.Model as Model
use Rattle.theorem_demands.specs.Beside.{Each, LineOfLive, LinesOfLive, AllHavePoints, StandsFor, Sim, Mirrors}
use Rattle.theorem_demands.proofs.Tries.{turned, refuse_mirrors}
use Rattle.theorem_demands.proofs.Clock.{clock_mirrors}
use Rattle.theorem_demands.proofs.Send.{send_mirrors}
use Rattle.theorem_demands.proofs.Plan.{read_mirrors}
use Rattle.theorem_demands.proofs.Retire.{retire_mirrors}

module _ {s : Plain.State} {c : Table} {rs : List (RuleOn Point)} (h : StandsFor s c rs) where
  -- a call that is refused with a number where a test fails
  guarded :
      (b : Bool) (n : ℕ) (R : Ruling → Book → Type 0) (a : AbstractRuled) → Mirrors R a
      → Mirrors (Guarded b n (book s rs) R)
      (elim b [ true ↦ a | false ↦ refused_with (board s c) (plain n) ])
  unfolding Guarded
  guarded true n R a m = m
  guarded false n R a m = refuse_mirrors h (plain n)

  pub step_mirrors : (call : Call) → Mirrors (Step (book s rs) call) (step (board s c) call)
  unfolding Step step
  step_mirrors (plan p o) = read_mirrors h p o
  step_mirrors (send place) =
      guarded (Plain.unsent_at place s.jobs) 18 (Sends (book s rs) place (send_points s place)) (sending (board s c) place) (send_mirrors h place)
  step_mirrors (clock m) =
      guarded (Plain.clock_ok s m) 19
      (Settles (book s rs) (made (Plain.clock_state s m) (book s rs) (Plain.starts (m + s.settings.lead) 1 s.jobs)) 20)
      (clocking (board s c) m) (clock_mirrors h m)
  step_mirrors retire = retire_mirrors h

  pub step_keeps :
      (call : Call) (r : Ruling) (k : Book) → Step (book s rs) call r k
      → (r ≡ (step (board s c) call).ruling) × Sim (step (board s c) call).board k
  step_keeps call = (step_mirrors call).keeps

  pub step_exists : (call : Call) → (k : Book) × Step (book s rs) call (step (board s c) call).ruling k
  step_exists call = (step_mirrors call).exists

-- ---- a board and a book that are side by side

module _ {bd : Board} {bk : Book} (m : Sim bd bk) where
  pub sim_keeps : (call : Call) (r : Ruling) (k : Book) → Step bk call r k → (r ≡ (step bd call).ruling) × Sim (step bd call).board k
  sim_keeps call r k p = step_keeps m.holds call r k (subst (λ (z : Book). Step z call r k) (turned m) p)

  pub sim_exists : (call : Call) → (k : Book) × Step bk call (step bd call).ruling k
  sim_exists call =
      let e = step_exists m.holds call in
      (e.0, subst (λ (z : Book). Step z call (step bd call).ruling e.0) (sym (turned m)) e.1)

-- ---- the fresh board

empty_in : (n k : ℕ) → LinesOfLive n (empty_lines k)
unfolding LinesOfLive LineOfLive empty_lines
empty_in n zero = tt
empty_in n (suc k) = (tt, empty_in n k)

-- one point: every timetable fits, and no rule is made
pub fresh_sim : (s : Settings) → s.horizon ≤ bias → Sim (Model.fresh s) (Rulebook.fresh s)
unfolding Model.fresh Rulebook.fresh AllHavePoints Each Plain.live_count Plain.total Possible AllKept
fresh_sim s le =
    record {
      state = refl;
      holds =
          record {
            closed =
                record {
                  diagonal = λ i h. refl;
                  triangle = λ i j k hi hj hk. omega arith;
                  bounded = λ i j hi hj. omega arith;
                  floor = λ i h. omega arith;
                };
            same = λ u. (λ f. (f.0, ((λ g. pos 0), tt)), λ p. (p.0, fits_of 1 (λ i j. bias) u (fit u)));
            still = tt;
            lines = empty_in 1 16;
            jobs = tt;
            small = le;
          };
    }
  where
    fit : (u : Times) (i j : ℕ) → i < 1 → j < 1 → NotLater u j bias i bias
    fit u i j hi hj =
        let e : i ≡ 0 = omega arith in
        let f : j ≡ 0 = omega arith in
        rw (e, f) (omega arith)
