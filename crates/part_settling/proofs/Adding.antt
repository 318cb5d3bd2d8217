-- Laws of rules added one after the other to a closed table. Assumes nothing.
--   Adding l n rs t left   the table t comes of l by adding rules of rs, and `left` are left to add
--   next_left      the first of those left
--   begins, stops, goes_on, ends   one law for each place of the loop
--   all_added, not_added   what the answer of the code says: all rules were added, or not, whatever cells stand there then
--   put_back       the live rows of the table put over those that adding changed: it is as it came
--   usable_wide    a usable rule is usable among more points;  agree, looked_up, usable_here: what the code of one rule asks
use Prim.Native.Nat.{ℕ, ◌+◌, ◌*◌, ◌≤◌, ◌<◌}
use native.Mathlib.Decide.{dec_lt}
use lib.Seq.{ext_get_or, drop-cons}
use native.Mathlib.Numerals.{add-one}
use Rattle.base_lists.proofs.Build.{build_at}
use native.Mathlib.Omega.{arith}
use mathlib.Core.Path.{◌≡◌, refl, sym, subst, ap, ◌∙◌}
use mathlib.Core.Bool.{Bool, true, false}
use mathlib.Core.List.{List, [], ◌∷◌}
use mathlib.Core.Option.{Option}
use lib.ListN.{length, get_or, drop}
use borrow.Author.Tests.{leb-true}
use Rattle.spec_plain.specs.Limits.{side, cell_count}
use Rattle.spec_plain.specs.declared.Rule.{Rule}
use Rattle.base_lists.specs.Loops.{build, rewritten}
use Rattle.base_lists.proofs.Rewritten.{rewritten_length, rewritten_in, rewritten_from}
use Rattle.spec_stn.specs.Table.{bias, Closed, IsConsistent, is_consistent}
use Rattle.part_gaps.specs.Cells.{cell, table_of, added, Usable}
use Rattle.part_gaps.proofs.Added.{added_length, added_closed, added_past}
use Rattle.part_settling.specs.Settled.{AllUsable, added_all, outcome}

pub usable_wide : (n m : ℕ) (r : Rule) → n ≤ m → Usable n r → Usable m r
usable_wide n m r le u =
    record { early_live = omega (arith, u.early_live); late_live = omega (arith, u.late_live); few_more = u.few_more; few_slack = u.few_slack }

pub record Adding (l : List ℕ) (n : ℕ) (rs : List Rule) (t : List ℕ) (left : List Rule) : Type 0 where
  pub cells : length t ≡ cell_count
  -- so the next rule is looked up and added rightly
  pub closed : Closed n (table_of t)
  pub usable : AllUsable n left
  -- adding what is left comes to what adding all comes to
  pub same : added_all left n t ≡ added_all rs n l
  -- no row past the live ones has changed
  pub rest : (k : ℕ) → n * side ≤ k → get_or t k 0 ≡ get_or l k 0

-- what is left starts with the element at k
pub next_left : {A : Type 0} → (l : List A) (k : ℕ) (z : A) → k < length l → drop k l ≡ get_or l k z ∷ drop (k + 1) l
next_left l k z h = drop-cons l k z h ∙ ap (λ (i : ℕ). get_or l k z ∷ drop i l) (sym (add-one k))

pub begins : (l : List ℕ) (n : ℕ) (rs : List Rule) → length l ≡ cell_count → Closed n (table_of l) → AllUsable n rs → Adding l n rs l rs
begins l n rs e c u = record { cells = e; closed = c; usable = u; same = refl; rest = λ k h. refl }

module _ {l : List ℕ} {n : ℕ} {rs : List Rule} {t : List ℕ} {left : List Rule} (s : Adding l n rs t left) where
  pub ends : left ≡ [] → outcome true t ≡ added_all rs n l
  unfolding added_all outcome
  ends e = subst (λ (x : List Rule). added_all x n t ≡ added_all rs n l) e s.same

  module _ (r : Rule) (rest : List Rule) (e : left ≡ r ∷ rest) where
    all_usable : AllUsable n (r ∷ rest)
    all_usable = subst (AllUsable n) e s.usable

    pub usable_here : Usable n r
    usable_here = all_usable.0

    -- what looking the rule up asks
    pub looked_up : n ≤ side → Usable side r × (cell t r.early r.late ≤ bias + bias)
    looked_up h =
        let u = usable_here in
        (usable_wide n side r h u, s.closed.bounded r.early r.late u.early_live u.late_live)

    same_here : added_all (r ∷ rest) n t ≡ added_all rs n l
    same_here = subst (λ (x : List Rule). added_all x n t ≡ added_all rs n l) e s.same

    pub stops : (m : List ℕ) → is_consistent r (table_of t) ≡ false → outcome false m ≡ added_all rs n l
    unfolding added_all outcome
    stops m f = sym (rw (added_all, f)) ∙ same_here

    pub agree : is_consistent r (table_of t) ≡ true → IsConsistent r (table_of t)
    unfolding IsConsistent
    agree f = leb-true _ _ f

    pub goes_on : n ≤ side → (m : List ℕ) → is_consistent r (table_of t) ≡ true → m ≡ added t n r → Adding l n rs m rest
    unfolding added_all
    goes_on h m f q =
        subst (λ (x : List ℕ). Adding l n rs x rest) (sym q)
        (record {
          cells = added_length t n r s.cells h;
          closed = added_closed t n r s.cells h s.closed usable_here.early_live usable_here.late_live (agree f);
          usable = all_usable.1;
          same = sym (rw (added_all, f)) ∙ same_here;
          rest = λ k past. added_past t n r s.cells h k past ∙ s.rest k past;
        })

module _ (ok : Bool) (m : List ℕ) (o : Option (List ℕ)) (e : outcome ok m ≡ o) where
  pub all_added : ok ≡ true → outcome true m ≡ o
  all_added t = subst (λ (z : Bool). outcome z m ≡ o) t e

  pub not_added : ok ≡ false → (x : List ℕ) → outcome false x ≡ o
  unfolding outcome
  not_added f x = subst (λ (z : Bool). outcome z m ≡ o) f e

-- adding made g of l and changed only the first q cells: to put the first q cells of l into g is to make it l again
pub put_back :
    (l old g x : List ℕ) (n q : ℕ) → old ≡ build (λ k. get_or l k 0) n → q ≤ n → length g ≡ length l → ((k : ℕ) → q ≤ k → get_or g k 0 ≡ get_or l k 0)
    → x ≡ rewritten (λ k. get_or old k 0) g 0 q → x ≡ l
put_back l old g x n q copy few same rest out =
    ext_get_or 0 x l (ap length out ∙ rewritten_length f g 0 q ∙ same) (λ k h. go k (omega (arith, same_x)) (dec_lt k q))
  where
    f : ℕ → ℕ
    f k = get_or old k 0

    same_x : length x ≡ length g
    same_x = ap length out ∙ rewritten_length f g 0 q

    at : (k : ℕ) → get_or x k 0 ≡ get_or (rewritten f g 0 q) k 0
    at k = ap (λ (w : List ℕ). get_or w k 0) out

    kept : (k : ℕ) → k < q → f k ≡ get_or l k 0
    kept k h = ap (λ (w : List ℕ). get_or w k 0) copy ∙ build_at (λ i. get_or l i 0) n k 0 (omega arith)

    go : (k : ℕ) → k < length g → Dec (k < q) → get_or x k 0 ≡ get_or l k 0
    go k h (yes lt) = at k ∙ rewritten_in f g 0 q k (omega arith) lt h ∙ kept k lt
    go k h (no ge) = at k ∙ rewritten_from f g 0 q k (omega arith) ∙ rest k (omega arith)
