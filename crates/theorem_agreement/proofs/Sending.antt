-- Send, in terms of timetables: the points sent are set to their least times.
--   frozen_to, _of   the rules that set points are kept exactly when each point has its value
--   at_least         so, of least times: whatever values the rule book took
--   sends_least      a send sets its points to their least times
use mathlib.Core.Path.{◌≡◌, refl, sym, ap, subst, ◌∙◌}
use mathlib.Core.Logic.{◌↔◌, inl, inr}
use mathlib.Core.List.{List, [], ◌∷◌}
use Prim.Native.Nat.{ℕ}
use native.Mathlib.Omega.{arith}
use lib.IntN.{pos}
use Rattle.spec_plain.specs.Plain.{not_before, not_after, freeze, sent_state}
use Rattle.spec_plain.specs.Rules.{Times, AllKept, Keeps, KeepsAll}
use Rattle.spec_plain.proofs.Whole.{up, dn, whole_eq}
use Rattle.spec_plain.proofs.Rules.{keeps_to, keeps_of}
use Rattle.spec_stn.specs.Table.{soonest}
use Rattle.part_gaps.specs.Cells.{table_of}
use Rattle.spec_rulebook.specs.Book.{Possible, LeastTime, Least, AllLeast, made, Sends}
use Rattle.part_boardwords.specs.Board.{Board}
use Rattle.part_sound.specs.Sound.{Sound}
use Rattle.call_board.specs.Ruled.{Ruled}
use Rattle.call_board.specs.Boards.{state_of}
use Rattle.theorem_demands.specs.Beside.{Sim}
use Rattle.theorem_agreement.specs.Abstract.{Shaped, abstract_of, book_of, Agreed}
use Rattle.theorem_agreement.specs.Timetables.{Timetable, In, AtLeast, SetLeast}
use Rattle.spec_rulebook.proofs.Unique.{least_one}
use Rattle.theorem_agreement.proofs.Books.{sound_sim}
use Rattle.theorem_agreement.proofs.Exact.{least_over, sim_minimal, made_meant}

module _ (u : Times) (o : u 0 ≡ pos 0) (v : ℕ → ℕ) where
  set_to : (x : ℕ) → Keeps u (not_before x (v x)) → Keeps u (not_after x (v x)) → u x ≡ pos (v x)
  unfolding not_before not_after
  set_to x a b =
      whole_eq (u x) (pos (v x))
      (omega (arith, keeps_to u (not_before x (v x)) a, keeps_to u (not_after x (v x)) b, ap up o, ap dn o))

  set_of : (x : ℕ) → u x ≡ pos (v x) → Keeps u (not_before x (v x)) × Keeps u (not_after x (v x))
  unfolding not_before not_after
  set_of x e = (
    keeps_of u (not_before x (v x)) (omega (arith, ap up e, ap dn e, ap up o, ap dn o)),
    keeps_of u (not_after x (v x)) (omega (arith, ap up e, ap dn e, ap up o, ap dn o)),
  )

  frozen_to : (xs : List ℕ) → KeepsAll u (freeze v xs) → (x : ℕ) → In x xs → u x ≡ pos (v x)
  unfolding AllKept freeze
  frozen_to [] k x i = absurd i
  frozen_to (y ∷ ys) k x (inl e) = rw e (set_to y k.0 k.1.0)
  frozen_to (y ∷ ys) k x (inr i) = frozen_to ys k.1.1 x i

  frozen_of : (xs : List ℕ) → ((x : ℕ) → In x xs → u x ≡ pos (v x)) → KeepsAll u (freeze v xs)
  unfolding AllKept freeze
  frozen_of [] h = tt
  frozen_of (y ∷ ys) h = let k = set_of y (h y (inl refl)) in (k.0, (k.1, frozen_of ys (λ x i. h x (inr i))))

module _ (b : Board) (w : Shaped b) (s : Sound b) where
  least_book : (x v : ℕ) → Least (book_of b) x v → LeastTime (Timetable b) x v
  least_book x v l =
      let same = (sound_sim b w s).holds.same in
      least_over (λ u. ((same u).1, (same u).0)) l

  all_least : (v : ℕ → ℕ) (xs : List ℕ) → AllLeast (book_of b) v xs → (x : ℕ) → In x xs → LeastTime (Timetable b) x (v x)
  unfolding AllLeast
  all_least v [] l x i = absurd i
  all_least v (y ∷ ys) l x (inl e) = rw e (least_book y (v y) l.0)
  all_least v (y ∷ ys) l x (inr i) = all_least v ys l.1 x i

  -- the values that the rule book took are the least ones, whichever they are
  at_least :
      (v : ℕ → ℕ) (xs : List ℕ) → ((x : ℕ) → In x xs → LeastTime (Timetable b) x (v x)) → (u : Times)
      → (Timetable b u × KeepsAll u (freeze v xs)) ↔ (Timetable b u × AtLeast b xs u)
  at_least v xs l u = (
    λ p. (
      p.0,
      λ x m i e. frozen_to u p.0.0 v xs p.1 x i ∙ ap pos (least_one (Timetable b) x (v x) m (l x i) e),
    ),
    λ p. (p.0, frozen_of u p.0.0 v xs (λ x i. p.1 x (v x) i (l x i))),
  )

  pub sends_least : (place : ℕ) (xs : List ℕ) (a : Ruled) → Agreed (Sends (book_of b) place xs) a → SetLeast b xs (sent_state (state_of b) place) a
  unfolding Sends sent_state made
  sends_least place xs a g =
      let out = g.exists.1 in
      let v = out.0 in
      let l = all_least v xs out.1 in
      let y = subst (Sim (abstract_of a.board)) out.3 (g.keeps a.ruling g.exists.0 out).1 in
      let meant : (u : Times) → Possible (made _ (book_of b) (freeze v xs)) u ↔ (Timetable b u × AtLeast b xs u) =
      λ u.
      let m = made_meant b w s _ (freeze v xs) u in
      let n = at_least v xs l u in
      (λ p. n.0 (m.0 p), λ p. m.1 (n.1 p)) in
      let table = sim_minimal a.board (made _ (book_of b) (freeze v xs)) y (λ u. Timetable b u × AtLeast b xs u) meant in
      record {
        accepted = out.2;
        state = sym y.state;
        some = (soonest (table_of a.board.gaps), (table.same (soonest (table_of a.board.gaps))).1 table.together);
        still = λ x i. (v x, l x i, λ u t. ((table.same u).0 t).1 x (v x) i (l x i));
        table = table;
      }
