-- From the rule book back to the board: what a book beside a board says of its table and of its answers.
--   least_over, greatest_over, gap_over   least and greatest values over a set of timetables, where it is said otherwise
--   sim_same         the timetables of a board beside a book are those possible in the book
--   sim_minimal      of a board and a book that are side by side the table is the gap table of what is possible
--   made_meant       possible once rules are made on a sound board's book: a timetable of the board that keeps them
--   passed           a call that passed the test before it
--   settled_decided  a call whose rules are tried is decided by the timetables that keep them
use mathlib.Core.Path.{◌≡◌, sym, ap, subst, ◌∙◌}
use mathlib.Core.Logic.{◌↔◌, inl, inr}
use mathlib.Core.Bool.{Bool, true, false, false≢true}
use mathlib.Core.List.{List}
use mathlib.Core.Option.{Option, some, none}
use Prim.Native.Nat.{ℕ}
use Rattle.base_rulings.specs.declared.Ruling.{Ruling}
use Rattle.base_rulings.specs.declared.Ruling.TheVariants.{Accepted}
use Rattle.base_rulings.specs.Answer.{plain}
use Rattle.base_rulings.proofs.RulingLaws.{refused_no}
use lib.IntN.{ℤ}
use Rattle.spec_plain.specs.declared.Rule.{Rule}
use Rattle.spec_plain.specs.Plain.{State}
use Rattle.spec_plain.specs.Rules.{Times, KeepsAll}
use Rattle.spec_stn.specs.Table.{soonest}
use Rattle.part_gaps.specs.Cells.{table_of}
use Rattle.spec_rulebook.specs.Book.{Book, Possible, Consistent, LeastTime, GreatestTime, LargestGap, made, Refuses, Guarded, Settles}
use Rattle.part_boardwords.specs.Board.{Board}
use Rattle.part_sound.specs.Sound.{Sound}
use Rattle.call_board.specs.Ruled.{Ruled}
use Rattle.call_board.specs.Boards.{state_of}
use Rattle.call_board.specs.Calls.{refusal, settled}
use Rattle.theorem_demands.specs.Beside.{Sim}
use Rattle.theorem_demands.proofs.Tries.{turned, possible_made, soonest_possible}
use Rattle.theorem_demands.proofs.Values.{sim_least, sim_gap}
use Rattle.theorem_agreement.specs.Abstract.{Shaped, abstract_of, book_of, Agreed}
use Rattle.theorem_agreement.specs.Timetables.{Timetable, Some, Minimal, Decided}
use Rattle.theorem_agreement.proofs.Books.{sound_sim}

-- ---- the same set of timetables, said otherwise

module _ {Y Z : Times → Type 0} (same : (u : Times) → Y u ↔ Z u) where
  pub least_over : {x v : ℕ} → LeastTime Y x v → LeastTime Z x v
  least_over l =
      let t = l.attained in
      record { attained = (t.0, (same t.0).0 t.1, t.2); least = λ u z. l.least u ((same u).1 z) }

  pub greatest_over : {x v : ℕ} → GreatestTime Y x v → GreatestTime Z x v
  greatest_over g =
      let t = g.attained in
      record { attained = (t.0, (same t.0).0 t.1, t.2); most = λ u z. g.most u ((same u).1 z) }

  pub gap_over : {i j : ℕ} {d : ℤ} → LargestGap Y i j d → LargestGap Z i j d
  gap_over g =
      let t = g.attained in
      record { attained = (t.0, (same t.0).0 t.1, t.2); most = λ u z. g.most u ((same u).1 z) }

-- ---- a board beside its book

module _ (b : Board) (bk : Book) (x : Sim (abstract_of b) bk) where
  pub sim_same : (u : Times) → Timetable b u ↔ Possible bk u
  sim_same u = rw (turned x) (x.holds.same u)

  pub sim_minimal : (Y : Times → Type 0) → ((u : Times) → Possible bk u ↔ Y u) → Minimal Y b
  sim_minimal Y meant =
      record {
        same = λ u. (λ t. (meant u).0 ((sim_same u).0 t), λ y. (sim_same u).1 ((meant u).1 y));
        gaps = λ i j hi hj. gap_over meant (sim_gap x i j hi hj);
        earliests = λ i hi. least_over meant (sim_least x i hi);
        together = (meant (soonest (table_of b.gaps))).0
            (subst (λ (k : Book). Possible k (soonest (table_of b.gaps))) (sym (turned x)) (soonest_possible x.holds));
      }

pub passed :
    (t : Bool) (n : ℕ) (bk : Book) (R : Ruling → Book → Type 0) (a : Ruled) → t ≡ true → Agreed (Guarded t n bk R) a → Agreed R a
unfolding Guarded
passed true n bk R a e g = g
passed false n bk R a e g = absurd (false≢true e)

module _ (b : Board) (w : Shaped b) (s : Sound b) where
  pub made_meant : (next : State) (qs : List Rule) (u : Times) → Possible (made next (book_of b) qs) u ↔ (Timetable b u × KeepsAll u qs)
  made_meant next qs u =
      let h = (sound_sim b w s).holds.same u in
      let m = possible_made (state_of b) next (book_of b).rules qs u in
      (λ p. let q = m.0 p in (h.1 q.0, q.1), λ p. m.1 (h.0 p.0, p.1))

  module _ (n : ℕ) (next : State) (qs : List Rule) where
    abbrev pub Meant : Times → Type 0
    Meant u = Timetable b u × KeepsAll u qs

    some_meant : Consistent (made next (book_of b) qs) → Some Meant
    unfolding Consistent
    some_meant p = (p.0, (made_meant next qs p.0).0 p.1)

    none_meant : ¬ (Consistent (made next (book_of b) qs)) → ¬ (Some Meant)
    unfolding Consistent
    none_meant p q = p (q.0, (made_meant next qs q.0).1 q.1)

    pub settled_decided :
        (a : Ruled) (o : Option (List ℕ)) → a ≡ settled b n next o → Agreed (Settles (book_of b) (made next (book_of b) qs) n) a
        → Decided b n Meant next a
    unfolding settled Settles Refuses made
    settled_decided a (some l) e g = go g.exists.1
      where
        yes_ruled : a.ruling ≡ Accepted
        yes_ruled = ap (λ (r : Ruled). r.ruling) e

        not_refused : a ≡ refusal b n → ⊥
        not_refused q = refused_no (plain n) (sym (ap (λ (r : Ruled). r.ruling) q) ∙ yes_ruled)

        go : Settles (book_of b) (made next (book_of b) qs) n a.ruling g.exists.0 → Decided b n Meant next a
        go (inr p) = absurd (refused_no (plain n) (sym p.1.0 ∙ yes_ruled))
        go (inl p) =
            let x = (g.keeps a.ruling g.exists.0 g.exists.1).1 in
            let y = subst (Sim (abstract_of a.board)) p.2 x in
            record {
              accepted = (λ r. some_meant p.0, λ q. yes_ruled);
              refused = (λ q. absurd (not_refused q), λ q. absurd (q (some_meant p.0)));
              either = inl yes_ruled;
              state = λ r. sym y.state;
              table = λ r. sim_minimal a.board (made next (book_of b) qs) y Meant (made_meant next qs);
            }
    settled_decided a none e g = go g.exists.1
      where
        not_ruled : a.ruling ≡ Accepted → ⊥
        not_ruled q = refused_no (plain n) (sym (ap (λ (r : Ruled). r.ruling) e) ∙ q)

        go : Settles (book_of b) (made next (book_of b) qs) n a.ruling g.exists.0 → Decided b n Meant next a
        go (inl p) = absurd (not_ruled p.1)
        go (inr p) =
            record {
              accepted = (λ r. absurd (not_ruled r), λ q. absurd (none_meant p.0 q));
              refused = (λ q. none_meant p.0, λ q. e);
              either = inr e;
              state = λ r. absurd (not_ruled r);
              table = λ r. absurd (not_ruled r);
            }
