-- "After 20, sending the newest job and repeating the clock call always succeeds." With the newest job all are sent, and then a clock
-- call makes no rule.
--   clock_moves    with all jobs sent the clock call is accepted
--   send_goes      a send of an unsent job is accepted
--   after20        the claim, of the abstract board;  book_after20: of the rule book beside it
use mathlib.Core.Path.{◌≡◌, refl, sym, subst, ◌∙◌}
use mathlib.Core.Logic.{◌⊎◌, inl, inr}
use mathlib.Core.Bool.{Bool, true, false, cond, not}
use mathlib.Core.List.{List, [], ◌∷◌, ◌++◌}
use mathlib.Core.Option.{Option, some}
use Prim.Native.Nat.{ℕ, suc, ◌+◌}
use native.Mathlib.Omega.{arith}
use lib.Dec.{T}
use Rattle.base_rulings.specs.declared.Ruling.{Ruling}
use Rattle.base_rulings.specs.declared.Ruling.TheVariants.{Accepted}
use Rattle.base_rulings.specs.Answer.{refuse, plain}
use Rattle.spec_plain.specs.declared.Job.{Job}
use Rattle.spec_plain.specs.declared.Rule.{Rule}
use Rattle.spec_plain.specs.Plain
use Rattle.spec_plain.specs.Sent.{NoneSent, SentFirst}
use Rattle.spec_plain.specs.Rules.{RuleOn}
use Rattle.spec_stn.specs.Table.{Table, add_all, earliest}
use Rattle.spec_rulebook.specs.Book.{Book, Point, Step, send, clock}
use Rattle.theorem_demands.specs.Model.{Board, AbstractRuled, board, refused_with, settled, send_points, clocking, step}
use Rattle.theorem_demands.specs.Beside.{StandsFor, Sim}
use Rattle.theorem_demands.specs.Sent.{AllSent, newest}
use Rattle.theorem_demands.proofs.Send.{send_added, send_some}
use Rattle.theorem_demands.proofs.Step.{sim_keeps}

-- ---- the newest job

starts_sent : (p x : ℕ) (js : List Job) → AllSent js → Plain.starts p x js ≡ []
unfolding AllSent Plain.starts
starts_sent p x [] a = refl
starts_sent p x (j ∷ js) a = go j.sent a.0 (starts_sent p (x + j.points) js a.1)
  where
    go :
        (b : Bool) → T b → Plain.starts p (x + j.points) js ≡ []
        → cond b [] (Plain.not_before x p ∷ []) ++ Plain.starts p (x + j.points) js ≡ []
    go true t e = e
    go false t e = absurd t

marked_newest : (js : List Job) → AllSent (Plain.sent_up_to (suc (newest js)) js)
unfolding AllSent Plain.sent_up_to newest
marked_newest [] = tt
marked_newest (j ∷ []) = (tt, tt)
marked_newest (j ∷ i ∷ js) = (tt, marked_newest (i ∷ js))

none_newest : (j : Job) (js : List Job) → NoneSent (j ∷ js) → T (Plain.unsent_at (newest (j ∷ js)) (j ∷ js))
unfolding newest Plain.unsent_at
none_newest j [] a = rw a.0 tt
none_newest j (i ∷ js) a = none_newest i js a.1

-- all are sent, or the newest is not
unsent_newest : (js : List Job) → SentFirst js → AllSent js ⊎ T (Plain.unsent_at (newest js) js)
unfolding AllSent newest Plain.unsent_at
unsent_newest [] o = inl tt
unsent_newest (j ∷ []) o = go j.sent
  where
    go : (b : Bool) → (T b × Unit {0}) ⊎ T (not b)
    go true = inl (tt, tt)
    go false = inr tt
unsent_newest (j ∷ i ∷ js) o = go j.sent refl (unsent_newest (i ∷ js) o.1)
  where
    go :
        (b : Bool) → j.sent ≡ b → AllSent (i ∷ js) ⊎ T (Plain.unsent_at (newest (i ∷ js)) (i ∷ js))
        → (T b × AllSent (i ∷ js)) ⊎ T (Plain.unsent_at (newest (i ∷ js)) (i ∷ js))
    go true e (inl a) = inl (tt, a)
    go true e (inr t) = inr t
    go false e q = inr (none_newest i js (o.0 e))

-- ---- the calls

-- a clock call that is refused with 20 has passed 19
clock_ok_lem : (b : Board) (m : ℕ) → (step b (clock m)).ruling ≡ refuse 20 → T (Plain.clock_ok b.state m)
unfolding step refused_with
clock_ok_lem b m e = go (Plain.clock_ok b.state m) e
  where
    go : (q : Bool) → (let a : AbstractRuled = elim q [ true ↦ clocking b m | false ↦ refused_with b (plain 19) ] in a.ruling) ≡ refuse 20 → T q
    go true e = tt
    go false e = let z : ◌≡◌ {A = ℕ} 19 20 = cc in absurd (omega arith)

clock_moves : (s : Plain.State) (c : Table) (m : ℕ) → AllSent s.jobs → T (Plain.clock_ok s m) → (step (board s c) (clock m)).ruling ≡ Accepted
unfolding step settled add_all
clock_moves s c m a t = go (Plain.clock_ok s m) t
  where
    go :
        (b : Bool) → T b
        → (let a : AbstractRuled = elim b [ true ↦ clocking (board s c) m | false ↦ refused_with (board s c) (plain 19) ] in a.ruling) ≡ Accepted
    go true t = rw (starts_sent (m + s.settings.lead) 1 s.jobs a)
    go false t = absurd t

module _ {s : Plain.State} {c : Table} {rs : List (RuleOn Point)} (h : StandsFor s c rs) where
  send_goes :
      (k : ℕ) → T (Plain.unsent_at k s.jobs)
      → (d : Table) × (step (board s c) (send k) ≡ record { ruling = Accepted; board = board (Plain.sent_state s k) d })
  unfolding step settled
  send_goes k t =
      let sets : List Rule = Plain.freeze (earliest c) (send_points s k) in
      let e = send_some h k (add_all sets c) (send_added h k) in
      (e.0, go (Plain.unsent_at k s.jobs) t (add_all sets c) e.0 e.1)
    where
      go :
          (b : Bool) → T b → (o : Option Table) (d : Table) → o ≡ some d
          → (let a : AbstractRuled = elim b [ true ↦ settled (board s c) 0 (Plain.sent_state s k) o | false ↦ refused_with (board s c) (plain 18) ] in a)
          ≡ record { ruling = Accepted; board = board (Plain.sent_state s k) d }
      go true t o d e = rw e
      go false t o d e = absurd t

  pub after20 :
      SentFirst s.jobs → (m : ℕ) → (step (board s c) (clock m)).ruling ≡ refuse 20
      → ((step (board s c) (send (newest s.jobs))).ruling ≡ Accepted)
      × ((step (step (board s c) (send (newest s.jobs))).board (clock m)).ruling ≡ Accepted)
  unfolding Plain.sent_state Plain.clock_ok
  after20 first m e = go (unsent_newest s.jobs first)
    where
      ok : T (Plain.clock_ok s m)
      ok = clock_ok_lem (board s c) m e

      goal : AbstractRuled → Type 0
      goal a = (a.ruling ≡ Accepted) × ((step a.board (clock m)).ruling ≡ Accepted)

      go : AllSent s.jobs ⊎ T (Plain.unsent_at (newest s.jobs) s.jobs) → goal (step (board s c) (send (newest s.jobs)))
      go (inl a) =
          let x = clock_moves s c m a ok in
          let z : ◌≡◌ {A = ℕ} 0 1 = cc in
          absurd (omega arith)
      go (inr t) =
          let g = send_goes (newest s.jobs) t in
          subst goal (sym g.1) (refl, clock_moves (Plain.sent_state s (newest s.jobs)) g.0 m (marked_newest s.jobs) ok)

pub book_after20 :
    {bd : Board} {bk : Book} → Sim bd bk → SentFirst bd.state.jobs
    → (m : ℕ) (k : Book) → Step bk (clock m) (refuse 20) k
    → (r : Ruling) (sent : Book) → Step bk (send (newest bd.state.jobs)) r sent
    → (q : Ruling) (moved : Book) → Step sent (clock m) q moved
    → (r ≡ Accepted) × (q ≡ Accepted)
book_after20 {bd} x first m k refused_with r sent sending q moved moving =
    let a = sim_keeps x (clock m) (refuse 20) k refused_with in
    let b = sim_keeps x (send (newest bd.state.jobs)) r sent sending in
    let c = sim_keeps b.1 (clock m) q moved moving in
    let d = after20 x.holds first m (sym a.0) in
    (b.0 ∙ d.0, c.0 ∙ d.1)
