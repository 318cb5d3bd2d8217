-- Lines at the moment of an allocation. Assumes nothing.
--   words_few              a line of words holds at most 32 uses
--   then_none              where none is put in yet, a line is as it is in the words
--   then_other, then_own   the line when one allocation more is put in: into another line, into this one
--   then_long              how long it is: each allocation of its resource makes it longer by one
--   then_short             the uses of a line are Short
--   Sought                 a use that is looked for, and where
--   look_other, look_here, look_behind, look_before   where it is without the last allocation: that is in another line, is the use itself, went in
--                          before it, or behind it;  look_words: in the words
use Rattle.std.proofs.Common.{◌≡◌, ℕ, suc, ◌+◌, ◌-◌, ◌≤◌, ◌<◌, Bool, true, false, cond, eqb, List, [], ◌∷◌, ◌++◌, length, get_or, set, refl, sym, ◌∙◌, ap, subst, arith}
use Rattle.std.specs.List.{count_by}
use Rattle.std.proofs.Math.Seq.{get_or-set_same, get_or-set_other}
use Rattle.std.proofs.Math.ListN.{length-set, length-map}
use Rattle.std.proofs.lemmas.List.Sums.{sum_by-cons}
use borrow.Author.Tests.{eqb-true, eqb-false}
use Rattle.spec_plain.specs.Limits.{resources}
use Rattle.spec_plain.specs.declared.Use.{Use}
use Rattle.spec_plain.specs.declared.Allocation.{Allocation}
use Rattle.spec_plain.specs.Plain.{no_use, inserted, used_from}
use Rattle.part_allocations.specs.ReadAllocations.{ReadAllocations}
use Rattle.part_allocations.proofs.Read.{used_short}
use Rattle.part_lines.specs.ArrayLists.{line_of}
use Rattle.part_lines.specs.Asked.{AllShort, Lined, Readable}
use Rattle.part_lines.specs.Placing.{line_for, lines_with, all_with, AllFit}
use Rattle.part_lines.proofs.Lists.{set_all}
use Rattle.part_lines.proofs.LineLaws.{length_inserted}
use Rattle.part_lines.proofs.Inserted.{inserted_below, inserted_here, inserted_behind, inserted_short}
use Rattle.part_lines.proofs.Placing.{with_more, with_many, fits_less}
use Rattle.base_lists.proofs.Build.{build_length}
use Rattle.part_boardwords.specs.Layout.{line_start}
use Rattle.part_boardwords.specs.Words.{word_in, use_at, line_at, lines_read, lines_in}
use Rattle.part_boardwords.proofs.Boards.{line_count, line_held, held_size, held_use}
use Rattle.part_drafts.specs.Moment.{line_then}

pub words_few : (w : List ℕ) → Lined (lines_read (word_in w)) → (r : ℕ) → r < resources → word_in w (line_start r) ≤ 32
words_few w lined r h = omega (arith, lined.counts r, line_count (word_in w) r h)

pub lines_many : (w : List ℕ) → length (lines_in w) ≡ 16
lines_many w = length-map (lines_read (word_in w)) line_of ∙ build_length (line_at (word_in w)) resources

-- ---- how long a line is

-- whether the allocation goes into line r
abbrev pub into : ℕ → Allocation → Bool
into r p = eqb p.resource r

module _ (x r : ℕ) where
  long_with : (ls : List (List Use)) (p : Allocation) → r < length ls
      → length (get_or (lines_with x ls p) r []) ≡ length (get_or ls r []) + cond (into r p) 1 0
  long_with ls p h = go (into r p) refl
    where
      go : (b : Bool) → into r p ≡ b → length (get_or (lines_with x ls p) r []) ≡ length (get_or ls r []) + cond b 1 0
      go true e =
          let own : p.resource ≡ r = eqb-true _ _ e in
          let put : List Use → List Use = inserted p.place (used_from x p) in
          let at : get_or (lines_with x ls p) r [] ≡ put (get_or ls r []) =
          ap (λ (i : ℕ). get_or (set ls i (put (get_or ls i []))) r []) own ∙ get_or-set_same ls r (put (get_or ls r [])) [] h in
          omega (arith, ap length at, length_inserted p.place (used_from x p) (get_or ls r []))
      go false e =
          let at : get_or (lines_with x ls p) r [] ≡ get_or ls r [] = get_or-set_other ls p.resource r _ [] (λ c. eqb-false _ _ e (sym c)) in
          omega (arith, ap length at)

  pub long_then : (ls : List (List Use)) (ps : List Allocation) → r < length ls
      → length (get_or (all_with x ls ps) r []) ≡ length (get_or ls r []) + count_by (into r) ps
  unfolding all_with
  long_then ls [] h = omega arith
  long_then ls (p ∷ ps) h =
      let later = long_then (lines_with x ls p) ps (omega (arith, length-set ls p.resource (inserted p.place (used_from x p) (line_for ls p)))) in
      omega (arith, later, long_with ls p h, sum_by-cons (λ (q : Allocation). cond (into r q) 1 0) p ps)

  -- ---- the uses of a line

  pub short_then : (ls : List (List Use)) (ps : List Allocation) → ((i : ℕ) → AllShort (get_or ls i []))
      → ((k : ℕ) → k < length ps → (z : Allocation) → Readable (get_or ps k z)) → AllShort (get_or (all_with x ls ps) r [])
  unfolding all_with
  short_then ls [] short read = short r
  short_then ls (p ∷ ps) short read =
      short_then (lines_with x ls p) ps
      (set_all AllShort ls p.resource _ [] (inserted_short _ p.place _ (used_short x p (read 0 (omega arith) p)) (short p.resource)) short)
      (λ k h z. read (suc k) (omega arith) z)

module _ (x : ℕ) (w : List ℕ) where
  pub then_none : (r : ℕ) → r < resources → line_then x w [] r ≡ line_of (line_at (word_in w) r)
  unfolding all_with
  then_none r h = line_held (word_in w) r h

  pub then_long : (ps : List Allocation) (r : ℕ) → r < resources → Lined (lines_read (word_in w))
      → length (line_then x w ps r) ≡ word_in w (line_start r) + count_by (into r) ps
  then_long ps r h lined =
      let many = lines_many w in
      omega (
        arith,
        long_then x r (lines_in w) ps (omega (arith, many)),
        ap length (line_held (word_in w) r h),
        held_size (word_in w) (line_start r) (words_few w lined r h),
      )

  pub then_short : (ps : List Allocation) (r : ℕ) → Lined (lines_read (word_in w)) → ReadAllocations ps → AllShort (line_then x w ps r)
  then_short ps r lined read = short_then x r (lines_in w) ps lined.short read.each

  module _ (ps : List Allocation) (p : Allocation) (r : ℕ) where
    then_other : (p.resource ≡ r → ⊥) → line_then x w (ps ++ (p ∷ [])) r ≡ line_then x w ps r
    then_other h =
        ap (λ (ls : List (List Use)). get_or ls r []) (with_more x (lines_in w) ps p)
        ∙ get_or-set_other (all_with x (lines_in w) ps) p.resource r _ [] (λ c. h (sym c))

    then_own : p.resource ≡ r → r < resources → line_then x w (ps ++ (p ∷ [])) r ≡ inserted p.place (used_from x p) (line_then x w ps r)
    then_own e h =
        let put : List Use → List Use = inserted p.place (used_from x p) in
        let then : List (List Use) = all_with x (lines_in w) ps in
        let many = with_many x (lines_in w) ps ∙ lines_many w in
        ap (λ (ls : List (List Use)). get_or ls r []) (with_more x (lines_in w) ps p)
        ∙ ap (λ (i : ℕ). get_or (set then i (put (get_or then i []))) r []) e
        ∙ get_or-set_same then r (put (line_then x w ps r)) [] (omega (arith, many))

-- ---- a use looked for

-- u is the use at place `at` of line r once the allocations ps are put in, all of which fit
pub record Sought (x : ℕ) (w : List ℕ) (r : ℕ) (u : Use) (ps : List Allocation) (at : ℕ) : Type 0 where
  pub fits : AllFit x (lines_in w) ps
  pub below : at < length (line_then x w ps r)
  pub is : u ≡ get_or (line_then x w ps r) at no_use

module _ {x : ℕ} {w : List ℕ} {r : ℕ} {u : Use} (ps : List Allocation) (p : Allocation) {at : ℕ} (s : Sought x w r u (ps ++ (p ∷ [])) at) where
  before : AllFit x (lines_in w) ps × (p.place ≤ length (line_then x w ps p.resource)) × (length (line_then x w ps p.resource) < 32)
  before = fits_less x (lines_in w) ps p s.fits

  pub look_other : (p.resource ≡ r → ⊥) → Sought x w r u ps at
  look_other other =
      let same = then_other x w ps p r other in
      record { fits = before.0; below = omega (arith, s.below, ap length same); is = s.is ∙ ap (λ (l : List Use). get_or l at no_use) same }

  module _ (own : p.resource ≡ r) (h : r < resources) where
    abbrev put_in : Use
    put_in = used_from x p

    abbrev line : List Use
    line = line_then x w ps r

    in_line : p.place ≤ length line
    in_line = subst (λ (i : ℕ). p.place ≤ length (line_then x w ps i)) own before.1

    is_inserted : (i : ℕ) → at ≡ i → u ≡ get_or (inserted p.place put_in line) i no_use
    is_inserted i e =
        s.is
        ∙ ap (λ (l : List Use). get_or l at no_use) (then_own x w ps p r own h)
        ∙ ap (λ (j : ℕ). get_or (inserted p.place put_in line) j no_use) e

    longer : length (line_then x w (ps ++ (p ∷ [])) r) ≡ suc (length line)
    longer = ap length (then_own x w ps p r own h) ∙ length_inserted p.place put_in line

    pub look_here : p.place ≡ at → u ≡ put_in
    look_here e = is_inserted p.place (sym e) ∙ inserted_here put_in line p.place in_line

    pub look_behind : p.place < at → Sought x w r u ps (at - 1)
    look_behind l =
        record {
          fits = before.0;
          below = omega (arith, s.below, longer);
          is = is_inserted (suc (at - 1)) (omega arith) ∙ inserted_behind put_in line p.place (at - 1) (omega arith) in_line;
        }

    pub look_before : at < p.place → Sought x w r u ps at
    look_before l =
        record {
          fits = before.0;
          below = omega (arith, in_line);
          is = is_inserted at refl ∙ inserted_below put_in line p.place at l in_line;
        }

pub look_words :
    {x : ℕ} {w : List ℕ} {r : ℕ} {u : Use} {at : ℕ} → Sought x w r u [] at → r < resources → Lined (lines_read (word_in w))
    → (at < 32) × (u ≡ use_at (word_in w) (line_start r) at)
look_words {x = x} {w = w} {r = r} {at = at} s h lined =
    let none = then_none x w r h in
    let few = words_few w lined r h in
    let size = held_size (word_in w) (line_start r) few in (
      omega (arith, s.below, ap length none, size, few),
      s.is
          ∙ ap (λ (l : List Use). get_or l at no_use) none
          ∙ held_use (word_in w) (line_start r) at (omega (arith, s.below, ap length none, size)) (omega (arith, s.below, ap length none, size, few)),
    )
