-- The uses of an offer's allocations put into lines that are in words, one after the other. Assumes nothing.
--   PutIn      how the words stand once the first k of the allocations are put in
--   next_fits  what putting in the next one asks for;  next_in: once it is put in
--   all_in     once all are put in
use Prim.Native.Nat.{ℕ, ◌+◌, ◌≤◌, ◌<◌}
use mathlib.Core.Path.{◌≡◌, sym, ◌∙◌, ap, subst}
use mathlib.Core.List.{List, [], ◌∷◌}
use lib.ListN.{length, get_or, set, drop, drop_of_length-le}
use lib.Seq.{drop-cons}
use native.Mathlib.Numerals.{add-one}
use native.Mathlib.Omega.{arith}
use Rattle.spec_plain.specs.Limits.{resources}
use Rattle.spec_plain.specs.declared.Allocation.{Allocation}
use Rattle.spec_plain.specs.declared.Use.{Use}
use Rattle.spec_plain.specs.Plain.{inserted, used_from}
use Rattle.part_allocations.specs.ReadAllocations.{ReadAllocations}
use Rattle.part_allocations.proofs.Read.{used_short}
use Rattle.part_lines.specs.declared.Line.{Line}
use Rattle.part_lines.specs.ArrayLists.{line_of, line_from, lines_of, lines_from}
use Rattle.part_lines.specs.Asked.{Short, Ready, Readable}
use Rattle.part_lines.specs.Placing.{lines_with, all_with, AllFit}
use Rattle.part_boardwords.specs.Layout.{lines_at, cells_at, line_start}
use Rattle.part_boardwords.specs.Words.{word_in, line_read, line_at, lines_read, lines_in}
use Rattle.part_boardwords.specs.Codec.{lines_words, overwritten}
use Rattle.part_boardwords.proofs.Boards.{line_held}
use Rattle.part_boardwords.proofs.Written.{lines_put}
use Rattle.part_linewords.specs.Beside.{Tidy, Beside}
use Rattle.part_linewords.proofs.WordLaws.{lines_set}
use Rattle.part_linewords.proofs.ReadyLaws.{words_tidy, words_size, stays_ready}

-- the words w are the words v with the first k of the allocations put in, where p0 of their job is point x
pub record PutIn (x : ℕ) (allocations : List Allocation) (v w : List ℕ) (k : ℕ) : Type 0 where
  pub ready : Ready (lines_read (word_in w))
  -- those that are left fit
  pub fits : AllFit x (lines_in w) (drop k allocations)
  -- and with them put in too, the lines are those with all of them put in
  pub whole : all_with x (lines_in w) (drop k allocations) ≡ all_with x (lines_in v) allocations
  -- the words before the lines and behind them are what they were
  pub below : (i : ℕ) → i < lines_at → word_in w i ≡ word_in v i
  pub behind : (i : ℕ) → cells_at ≤ i → word_in w i ≡ word_in v i
  pub size : length w ≡ length v

module _
    {x : ℕ} {allocations : List Allocation} {v w : List ℕ} {k : ℕ} (s : PutIn x allocations v w k) (more : k < length allocations)
    (read : ReadAllocations allocations)
    (z : Allocation) where
  -- the next of them; z is what past the end would be read
  abbrev p : Allocation
  p = get_or allocations k z

  left : drop k allocations ≡ p ∷ drop (k + 1) allocations
  left = drop-cons allocations k z more ∙ ap (λ (i : ℕ). p ∷ drop i allocations) (sym (add-one k))

  in_range : Readable p
  in_range = read.each k more z

  there : p.resource < resources
  there = in_range.resource

  fits_now :
      (p.place ≤ length (get_or (lines_in w) p.resource []))
      × (length (get_or (lines_in w) p.resource []) < 32)
      × AllFit x (lines_with x (lines_in w) p) (drop (k + 1) allocations)
  unfolding AllFit
  fits_now = subst (AllFit x (lines_in w)) left s.fits

  -- of the line whose first word is number i
  abbrev Fits : ℕ → Type 0
  Fits i = (p.place ≤ word_in w i) × (word_in w i < 32) × Tidy (line_read (word_in w) i)

  fits_line : Fits (line_start p.resource)
  fits_line =
      let size : length (get_or (lines_in w) p.resource []) ≡ word_in w (line_start p.resource) =
      ap length (line_held (word_in w) p.resource there) ∙ words_size (word_in w) s.ready p.resource there in
      (omega (arith, size, fits_now.0), omega (arith, size, fits_now.1), words_tidy (word_in w) s.ready p.resource there)

  pub next_fits : (at : ℕ) → at ≡ line_start p.resource → Fits at × (p.resource < resources)
  next_fits at start = (subst Fits (sym start) fits_line, there)

  module _ (u : Use) (used : u ≡ used_from x p) (y : List ℕ) (same : length y ≡ length w) (at : ℕ) (start : at ≡ line_start p.resource)
      (line-now : line_read (word_in y) at ≡ line_from (inserted p.place u (line_of (line_read (word_in w) at))))
      (beside-now : Beside at (word_in w) (word_in y)) where
    line : line_at (word_in y) p.resource ≡ line_from (inserted p.place u (line_of (line_at (word_in w) p.resource)))
    line =
        subst (λ (i : ℕ). line_read (word_in y) i ≡ line_from (inserted p.place u (line_of (line_read (word_in w) i)))) start line-now

    beside : Beside (line_start p.resource) (word_in w) (word_in y)
    beside = subst (λ (i : ℕ). Beside i (word_in w) (word_in y)) start beside-now

    short : Short u
    short = subst Short (sym used) (used_short x p in_range)

    -- the line with the use, as one of the lines that are held
    set_line : (lines_in y ≡ lines_with x (lines_in w) p) × Ready (lines_read (word_in y))
    set_line =
        let r = p.resource in
        let e = lines_set (word_in w) (word_in y) r there beside in
        let stays =
        stays_ready (lines_read (word_in w)) r p.place u (line_at (word_in y) r) s.ready short fits_now.1
        (line ∙ ap (λ (l : List Use). line_from (inserted p.place u l)) (sym (line_held (word_in w) r there))) in
        (ap lines_of e ∙ stays.0 ∙ ap (λ (a : Use). set (lines_in w) r (inserted p.place a (get_or (lines_in w) r []))) used, subst Ready (sym e) stays.1)

    pub next_in : PutIn x allocations v y (k + 1)
    unfolding all_with
    next_in =
        let rest = drop (k + 1) allocations in
        record {
          ready = set_line.1;
          fits = subst (λ (ls : List (List Use)). AllFit x ls rest) (sym set_line.0) fits_now.2;
          whole = ap (λ (ls : List (List Use)). all_with x ls rest) set_line.0 ∙ sym (ap (all_with x (lines_in w)) left) ∙ s.whole;
          below = λ i h. beside.0 i (omega arith) ∙ s.below i h;
          behind = λ i h. beside.1 i (omega (arith, there)) ∙ s.behind i h;
          size = same ∙ s.size;
        }

pub all_in :
    {x : ℕ} {allocations : List Allocation} {v w : List ℕ} {k : ℕ} → PutIn x allocations v w k → length allocations ≤ k → cells_at ≤ length v
    → w ≡ overwritten v lines_at (lines_words (lines_from (all_with x (lines_in v) allocations)))
unfolding all_with
all_in {x = x} {allocations = allocations} {v = v} {w = w} {k = k} s over room =
    let held : lines_in w ≡ all_with x (lines_in v) allocations = sym (ap (all_with x (lines_in w)) (drop_of_length-le allocations over)) ∙ s.whole in
    lines_put v w room s.size s.below s.behind
    ∙ ap (λ (ls : List Line). overwritten v lines_at (lines_words ls)) (s.ready.tidy ∙ ap lines_from held)
