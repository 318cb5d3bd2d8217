-- Where the abstract board shows what a case of the proving table expects, every book beside it meets it. Assumes nothing.
--   readable_right   the fact check is the forward definition, where both apply
--   of_kind           a ruling by its kind, number and value;  of_kind_lem: each ruling is the one of its own
--   same_rulings_lem     lists of rulings that pass the test are equal;  same_ruling_lem: two rulings
--   shown_meets      one expectation;  all_meet: each of a list
use mathlib.Core.Path.{◌≡◌, refl, ap, ap₂, sym, subst, ◌∙◌}
use mathlib.Core.Logic.{◌↔◌}
use mathlib.Core.Bool.{true, true≢false, not}
use mathlib.Core.List.{List, [], ◌∷◌}
use lib.ListN.{length}
use Prim.Native.Nat.{ℕ, zero, suc, ◌<◌}
use lib.Dec.{eqb, ltb, leb}
use lib.IntN.{sub_ℕ}
use borrow.Author.Tests.{eqb-true, ltb-true, leb-true, not-true}
use Rattle.base_masks.specs.Mask.{share}
use Rattle.base_rulings.specs.declared.Cause.TheVariants.{Plain, Action, Step, Fact, Allocation}
use Rattle.base_rulings.specs.declared.Ruling.{Ruling}
use Rattle.base_rulings.specs.declared.Ruling.TheVariants.{Accepted, Refused}
use Rattle.base_rulings.specs.Answer.{number_of, value_of}
use Rattle.read_plant.specs.Plant.{plant_ruling}
use Rattle.read_offer.specs.Offer.{known_of, goal_of, chain_of, offer_ruling, fact_check}
use Rattle.read_offer.proofs.Right.{fact_check_right}
use Rattle.read_facts.specs.Forward.{AllRun}
use Rattle.spec_plain.specs.Plain
use Rattle.base_lists.specs.Loops.{all_below}
use Rattle.base_lists.proofs.AllBelow.{both_true, all_below_to}
use Rattle.spec_stn.specs.Table.{bias, Table}
use Rattle.spec_rulebook.specs.Book.{Book, Least, Greatest}
use Rattle.theorem_demands.specs.Model.{Board, book}
use Rattle.theorem_demands.specs.Model as Model
use Rattle.theorem_demands.specs.Beside.{Sim}
use Rattle.theorem_demands.specs.Tidy as Tidy
use Rattle.theorem_demands.specs.Cases.{Expect, earliest, latest, runs, fails, due, same, Meets, AllMeet, EqualTables}
use Rattle.theorem_demands.specs.Shown.{is_accepted, kind_of, same_ruling, same_rulings, readable, same_cells, same_boards, shown, all_shown}
use Rattle.theorem_demands.proofs.Values.{least_at, greatest_at, sim_gap}
use Rattle.theorem_demands.proofs.Tries.{turned}
use Rattle.theorem_demands.proofs.Tidy.{fresh_runs}

-- ---- what the tests mean

accepted_is : (r : Ruling) → is_accepted r ≡ true → r ≡ Accepted
unfolding is_accepted
accepted_is Accepted e = refl
accepted_is (Refused c) e = absurd (true≢false (sym e))

refused_is : (r : Ruling) → not (is_accepted r) ≡ true → r ≡ Accepted → ⊥
unfolding is_accepted
refused_is r e p = true≢false (sym (rw p at e))

-- a ruling by its kind, number and value: so rulings with the same three are equal
of_kind : ℕ → ℕ → ℕ → Ruling
of_kind zero n v = Accepted
of_kind (suc zero) n v = Refused (Plain n)
of_kind (suc (suc zero)) n v = Refused (Action n v)
of_kind (suc (suc (suc zero))) n v = Refused (Step n v)
of_kind (suc (suc (suc (suc zero)))) n v = Refused (Fact n v)
of_kind (suc (suc (suc (suc (suc k))))) n v = Refused (Allocation n v)

of_kind_lem : (r : Ruling) → of_kind (kind_of r) (number_of r) (value_of r) ≡ r
unfolding kind_of of_kind
of_kind_lem Accepted = refl
of_kind_lem (Refused (Plain n)) = refl
of_kind_lem (Refused (Action n v)) = refl
of_kind_lem (Refused (Step n v)) = refl
of_kind_lem (Refused (Fact n v)) = refl
of_kind_lem (Refused (Allocation n v)) = refl

same_ruling_lem : (r q : Ruling) → same_ruling r q ≡ true → r ≡ q
unfolding same_ruling
same_ruling_lem r q e =
    let one = both_true (eqb (kind_of r) (kind_of q)) _ e in
    let two = both_true (eqb (number_of r) (number_of q)) (eqb (value_of r) (value_of q)) one.1 in
    sym (of_kind_lem r)
    ∙ (ap (λ (k : ℕ). of_kind k (number_of r) (value_of r)) (eqb-true (kind_of r) (kind_of q) one.0)
    ∙ (ap₂ (of_kind (kind_of q)) (eqb-true (number_of r) (number_of q) two.0) (eqb-true (value_of r) (value_of q) two.1) ∙ of_kind_lem q))

same_rulings_lem : (rs qs : List Ruling) → same_rulings rs qs ≡ true → rs ≡ qs
unfolding same_rulings
same_rulings_lem [] [] e = refl
same_rulings_lem [] (q ∷ qs) e = absurd (true≢false (sym e))
same_rulings_lem (r ∷ rs) [] e = absurd (true≢false (sym e))
same_rulings_lem (r ∷ rs) (q ∷ qs) e =
    let p = both_true (same_ruling r q) (same_rulings rs qs) e in
    ap₂ ◌∷◌ (same_ruling_lem r q p.0) (same_rulings_lem rs qs p.1)

same_cells_lem : (c d : Table) (n i j : ℕ) → same_cells c d n ≡ true → i < n → j < n → c i j ≡ d i j
unfolding same_cells
same_cells_lem c d n i j e hi hj =
    eqb-true _ _ (all_below_to (λ j. eqb (c i j) (d i j)) n (all_below_to (λ i. all_below (λ j. eqb (c i j) (d i j)) n) n e i hi) j hj)

-- the fact check is the forward definition
readable_right : (p o : List ℕ) → readable p o ≡ true → (fact_check p o ≡ Accepted) ↔ AllRun (known_of o) (chain_of p o) (goal_of o)
unfolding readable
readable_right p o e =
    let one = both_true (is_accepted (plant_ruling p)) _ e in
    let two = both_true (is_accepted (offer_ruling p o)) (not (share (known_of o).pos (known_of o).neg)) one.1 in
    fact_check_right p o (accepted_is (plant_ruling p) one.0) (accepted_is (offer_ruling p o) two.0) (not-true _ two.1)

-- ---- beside a board

module _ (b : Board) (k : Book) (m : Sim b k) where
  -- what holds of the book by its parts holds of the book
  of_parts : (P : Book → Type 0) → P (book b.state k.rules) → P k
  of_parts P h = subst P (sym (turned m)) h

  same_meets : (other : Board) (next : Book) → Sim other next → same_boards b other ≡ true → EqualTables k next
  unfolding same_boards
  same_meets other next n e =
      let p = both_true (eqb (Plain.live_count b.state) (Plain.live_count other.state)) _ e in
      let live = Plain.live_count b.state in
      let count = eqb-true live (Plain.live_count other.state) p.0 in
      let here = ap Plain.live_count m.state in (
        here ∙ (count ∙ sym (ap Plain.live_count n.state)),
        λ i j hi hj.
            let li : i < live = rw here at hi in
            let lj : j < live = rw here at hj in
            let same = same_cells_lem b.table other.table live i j p.1 li lj in (
              sub_ℕ (b.table i j) bias,
              sim_gap m i j li lj,
              rw same (sim_gap n i j (rw count at li) (rw count at lj)),
            ),
      )

  pub shown_meets : (x : Expect) → shown b x ≡ true → Meets k x
  unfolding shown
  shown_meets (earliest x v) e =
      let p = both_true (ltb x (Plain.live_count b.state)) _ e in
      of_parts (λ (z : Book). Least z x v) (subst (Least (book b.state k.rules) x) (eqb-true _ _ p.1) (least_at m.holds x (ltb-true _ _ p.0)))
  shown_meets (latest x v) e =
      let p = both_true (ltb x (Plain.live_count b.state)) _ e in
      of_parts (λ (z : Book). Greatest z x v)
      (subst (Greatest (book b.state k.rules) x) (eqb-true _ _ p.1) (greatest_at m.holds x (ltb-true _ _ p.0)))
  shown_meets (runs p o) e =
      let q = both_true (readable p o) _ e in
      (readable_right p o q.0).0 (accepted_is (fact_check p o) q.1)
  shown_meets (fails p o) e =
      let q = both_true (readable p o) _ e in
      λ run. refused_is (fact_check p o) q.1 ((readable_right p o q.0).1 run)
  shown_meets (due place q) e =
      let p = both_true (ltb place (length b.state.jobs)) _ e in
      let jobs : k.state.jobs ≡ b.state.jobs = ap (λ (s : Plain.State). s.jobs) m.state in
      rw jobs (ltb-true _ _ p.0, eqb-true _ _ p.1)
  shown_meets (same s cs rs) e =
      let end = Tidy.board_after (Model.fresh s) cs in
      let ruled = Tidy.rulings (Model.fresh s) cs in
      let p = both_true (leb s.horizon bias) _ e in
      let q = both_true (same_rulings ruled rs) (same_boards b end) p.1 in
      fresh_runs s (leb-true _ _ p.0) cs rs (same_rulings_lem ruled rs q.0) (EqualTables k) (λ other n. same_meets end other n q.1)

  pub all_meet : (xs : List Expect) → all_shown b xs ≡ true → AllMeet k xs
  unfolding all_shown
  all_meet [] e = tt
  all_meet (x ∷ xs) e = let p = both_true (shown b x) (all_shown b xs) e in (shown_meets x p.0, all_meet xs p.1)
