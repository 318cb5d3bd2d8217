-- A rule added to a closed table. The new cell (a, b) is the least of the old one and the way from a to late, across the rule, and from
-- early to b; and one such round is enough: the table is closed again.
--   add_closed            the table with an agreeing rule added is closed
--   add_fits_to, _of      its timetables are those of the table that keep the rule
--   add_none              of a table that a rule does not agree with, no timetable keeps the rule
--   Added n c rs o        what the outcome o of adding the rules rs to c says: add_all_added shows it
use mathlib.Core.Path.{◌≡◌, refl}
use mathlib.Core.Logic.{◌↔◌}
use mathlib.Core.Bool.{Bool, true, false}
use mathlib.Core.List.{List, [], ◌∷◌}
use mathlib.Core.Option.{Option, some, none}
use Prim.Native.Nat.{ℕ, ◌+◌, ◌≤◌, ◌<◌}
use native.Mathlib.Omega.{arith}
use borrow.Author.Tests.{leb-true, leb-false}
use Rattle.spec_plain.specs.declared.Rule.{Rule}
use Rattle.spec_plain.specs.Rules.{Times, AllKept, Keeps, KeepsAll}
use Rattle.spec_plain.proofs.Rules.{keeps_to, keeps_of}
use Rattle.spec_stn.specs.Table.{bias, Table, Closed, Fits, IsConsistent, is_consistent, add, add_all, Within}
use Rattle.spec_stn.proofs.Fits.{fits_to, fits_of}

module _ (n : ℕ) (c : Table) (r : Rule) (cl : Closed n c) (x : r.early < n) (y : r.late < n) (ok : IsConsistent r c) where
  -- no cell is cut off at 0
  whole_cell : (a b : ℕ) → a < n → b < n → bias + r.more ≤ c a r.late + r.slack + c r.early b
  unfolding IsConsistent
  whole_cell a b ha hb =
      omega (arith, cl.triangle r.early b r.late x hb y, cl.triangle b a r.late hb ha y, cl.bounded b a hb ha)

  add_diagonal : (i : ℕ) → i < n → add r c i i ≡ bias
  unfolding add IsConsistent
  add_diagonal i h = omega (arith, cl.diagonal i h, cl.triangle r.early i r.late x h y)

  -- A way from i by j to k crosses the rule not at all, before j, after j, or twice; the last is no shorter than crossing it once, since
  -- the rule agrees: from early to late and back across it is no gain
  add_triangle : (i j k : ℕ) → i < n → j < n → k < n → add r c i k + bias ≤ add r c i j + add r c j k
  unfolding add IsConsistent
  add_triangle i j k hi hj hk =
      omega (
        arith,
        cl.triangle i j k hi hj hk,
        cl.triangle i j r.late hi hj y,
        cl.triangle r.early j k x hj hk,
        cl.triangle r.early j r.late x hj y,
        whole_cell i k hi hk,
        whole_cell i j hi hj,
        whole_cell j k hj hk,
      )

  pub add_closed : Closed n (add r c)
  unfolding add
  add_closed =
      record {
        diagonal = add_diagonal;
        triangle = add_triangle;
        bounded = λ i j hi hj. omega (arith, cl.bounded i j hi hj);
        floor = λ i h. omega (arith, cl.floor i h);
      }

  -- the rule itself is what the new cell (late, early) says
  pub add_fits_to : (t : Times) → Fits n (add r c) t → Fits n c t × Keeps t r
  unfolding add
  add_fits_to t f = (
    fits_of n c t λ i j hi hj. omega (arith, fits_to f i j hi hj),
    keeps_of t r
        (omega (
          arith,
          fits_to f r.late r.early y x,
          whole_cell r.late r.early y x,
          cl.diagonal r.late y,
          cl.diagonal r.early x,
        )),
  )

  pub add_fits_of : (t : Times) → Fits n c t → Keeps t r → Fits n (add r c) t
  unfolding add
  add_fits_of t f k =
      fits_of n (add r c) t
      λ i j hi hj.
      omega (arith, fits_to f i j hi hj, fits_to f i r.late hi y, fits_to f r.early j x hj, whole_cell i j hi hj, keeps_to t r k)

pub add_none : (n : ℕ) (c : Table) (r : Rule) → r.early < n → r.late < n → ¬ (IsConsistent r c) → (t : Times) → Fits n c t → ¬ (Keeps t r)
unfolding IsConsistent
add_none n c r x y bad t f k = bad (omega (arith, fits_to f r.early r.late x y, keeps_to t r k))

-- ---- rule after rule

unfoldable pub Added : ℕ → Table → List Rule → Option Table → Type 0
Added n c rs (some d) = Closed n d × ((t : Times) → Fits n d t ↔ (Fits n c t × KeepsAll t rs))
Added n c rs none = (t : Times) → Fits n c t → ¬ (KeepsAll t rs)

added_cons :
    (n : ℕ) (c : Table) (r : Rule) (rs : List Rule) → Closed n c → r.early < n → r.late < n → IsConsistent r c
    → (o : Option Table) → Added n (add r c) rs o → Added n c (r ∷ rs) o
unfolding Added AllKept
added_cons n c r rs cl x y ok (some d) a = (
  a.0,
  λ t. (
    λ f.
        let p = (a.1 t).0 f in
        let q = add_fits_to n c r cl x y ok t p.0 in
        (q.0, (q.1, p.1)),
    λ p. (a.1 t).1 (add_fits_of n c r cl x y ok t p.0 p.1.0, p.1.1),
  ),
)
added_cons n c r rs cl x y ok none a = λ t f k. a t (add_fits_of n c r cl x y ok t f k.0) k.1

pub add_all_added : (n : ℕ) (c : Table) (rs : List Rule) → Closed n c → Within n rs → Added n c rs (add_all rs c)
unfolding add_all Within Added AllKept IsConsistent
add_all_added n c [] cl w = (cl, λ t. (λ f. (f, tt), λ p. p.0))
add_all_added n c (r ∷ rs) cl w =
    step (is_consistent r c) refl (λ closed. add_all_added n (add r c) rs closed w.2)
  where
    step :
        (b : Bool) → is_consistent r c ≡ b
        → (Closed n (add r c) → Added n (add r c) rs (add_all rs (add r c)))
        → Added n c (r ∷ rs) (elim b [ true ↦ add_all rs (add r c) | false ↦ none ])
    step true e rest =
        let ok : IsConsistent r c = leb-true _ _ e in
        added_cons n c r rs cl w.0 w.1 ok (add_all rs (add r c)) (rest (add_closed n c r cl w.0 w.1 ok))
    step false e rest =
        let short : r.slack + c r.early r.late < bias + r.more = leb-false _ _ e in
        λ t f k. add_none n c r w.0 w.1 (λ ok. omega arith) t f k.0
