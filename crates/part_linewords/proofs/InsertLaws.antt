-- A use put into a line that is in words.
--   line_inserted     the line that is read afterwards;  beside_line: the other words are what they were
-- The words afterwards: the count is one more; those of the uses before the place stay, those of the use stand at the place, and those of
-- the uses behind it stand one use further up.
use Prim.Native.Nat.{ℕ, zero, suc, ◌+◌, ◌-◌, ◌≤◌, ◌<◌}
use mathlib.Core.Path.{◌≡◌, refl, sym, ◌∙◌, ap}
use mathlib.Core.List.{List}
use lib.ListN.{length, get_or, set, get_or-eq_default}
use lib.Seq.{ext_get_or, get_or-set_same, get_or-set_other}
use native.Mathlib.Decide.{dec_lt}
use native.Mathlib.Omega.{arith}
use Rattle.base_lists.specs.Loops.{rewritten}
use Rattle.base_lists.proofs.Rewritten.{rewritten_length, rewritten_in, rewritten_below, rewritten_from}
use Rattle.spec_plain.specs.Limits.{most_uses}
use Rattle.spec_plain.specs.Plain.{no_use, inserted}
use Rattle.spec_plain.specs.declared.Use.{Use}
use Rattle.part_lines.specs.declared.Line.{Line}
use Rattle.part_lines.specs.Padded.{padded}
use Rattle.part_lines.specs.ArrayLists.{line_of, line_from}
use Rattle.part_lines.proofs.Padded.{length_padded, padded_at}
use Rattle.part_lines.proofs.LineLaws.{length_inserted}
use Rattle.part_boardwords.specs.Layout.{use_size, line_end, use_start}
use Rattle.part_boardwords.specs.Words.{word_in, up_by_use, use_at, uses_read, line_read}
use Rattle.part_boardwords.specs.Codec.{use_words, overwritten}
use Rattle.base_lists.proofs.Build.{build_length, build_at}
use Rattle.part_boardwords.proofs.Overwritten.{overwritten_length, overwritten_below, overwritten_from}
use Rattle.part_boardwords.proofs.Written.{overwritten_at}
use Rattle.part_linewords.specs.Beside.{Tidy, Beside}
use Rattle.part_boardwords.proofs.Parts.{use_by, use_written}
use Rattle.part_lines.proofs.Inserted.{inserted_below, inserted_here, inserted_behind}

-- ---- the words afterwards

module _
    (W M P : List ℕ) (at place n : ℕ) (u : Use) (fits : line_end at ≤ length W) (in_place : place ≤ n) (few : n < 32)
    (moved : M ≡ rewritten (up_by_use W) W (use_start at place + use_size) (use_start at n + use_size))
    (stored : P ≡ overwritten M (use_start at place) (use_words u)) where
  length_moved : length M ≡ length W
  length_moved = rw moved (rewritten_length (up_by_use W) W (use_start at place + use_size) (use_start at n + use_size))

  length_stored : length P ≡ length W
  length_stored = rw stored (overwritten_length M (use_start at place) (use_words u) ∙ length_moved)

  other : (k : ℕ) → (k ≡ at → ⊥) → get_or (set P at (n + 1)) k 0 ≡ get_or (overwritten M (use_start at place) (use_words u)) k 0
  other k h = get_or-set_other P at k (n + 1) 0 h ∙ rw stored refl

  word_count : get_or (set P at (n + 1)) at 0 ≡ n + 1
  word_count = get_or-set_same P at (n + 1) 0 (omega (arith, length_stored))

  word_before : (k : ℕ) → (k ≡ at → ⊥) → k < use_start at place → get_or (set P at (n + 1)) k 0 ≡ get_or W k 0
  word_before k h l =
      other k h
      ∙ overwritten_below M (use_start at place) (use_words u) k l
      ∙ rw moved (rewritten_below (up_by_use W) W (use_start at place + use_size) (use_start at n + use_size) k (omega arith))

  word_moved :
      (k j : ℕ) → use_start at place + use_size ≤ k → k < use_start at n + use_size → k - use_size ≡ j
      → get_or (set P at (n + 1)) k 0 ≡ get_or W j 0
  word_moved k j lo hi e =
      other k (λ c. omega arith)
      ∙ overwritten_from M (use_start at place) (use_words u) k lo
      ∙ rw moved (rewritten_in (up_by_use W) W (use_start at place + use_size) (use_start at n + use_size) k lo hi (omega arith))
      ∙ ap (λ (i : ℕ). get_or W i 0) e

  word_behind : (k : ℕ) → use_start at n + use_size ≤ k → get_or (set P at (n + 1)) k 0 ≡ get_or W k 0
  word_behind k h =
      other k (λ c. omega arith)
      ∙ overwritten_from M (use_start at place) (use_words u) k (omega arith)
      ∙ rw moved (rewritten_from (up_by_use W) W (use_start at place + use_size) (use_start at n + use_size) k h)

  pub beside_line : Beside at (word_in W) (word_in (set P at (n + 1)))
  beside_line = (λ k h. word_before k (λ c. omega arith) (omega arith), λ k h. word_behind k (omega arith))

  abbrev now_use : ℕ → Use
  now_use = use_at (word_in (set P at (n + 1))) at

  abbrev old_use : ℕ → Use
  old_use = use_at (word_in W) at

  use_before : (i : ℕ) → i < place → now_use i ≡ old_use i
  use_before i h =
      use_by (word_in (set P at (n + 1))) (word_in W) (use_start at i) (use_start at i)
      (λ k l. word_before (use_start at i + k) (λ c. omega arith) (omega arith))

  use_here : (i : ℕ) → i ≡ place → now_use i ≡ u
  use_here i e =
      let room : use_start at place + use_size ≤ length M = omega (arith, length_moved) in
      use_written (word_in (set P at (n + 1))) (use_start at i) u
      (λ k l. other (use_start at i + k) (λ c. omega arith)
      ∙ overwritten_at M (use_start at place) (use_words u) (use_start at i + k) k (omega arith) l room)

  use_moved : (i : ℕ) → place ≤ i → i < n → now_use (suc i) ≡ old_use i
  use_moved i lo hi =
      use_by (word_in (set P at (n + 1))) (word_in W) (use_start at (suc i)) (use_start at i)
      (λ k l. word_moved (use_start at (suc i) + k) (use_start at i + k) (omega arith) (omega arith) (omega arith))

  use_behind : (i : ℕ) → n < i → now_use i ≡ old_use i
  use_behind i h =
      use_by (word_in (set P at (n + 1))) (word_in W) (use_start at i) (use_start at i)
      (λ k l. word_behind (use_start at i + k) (omega arith))

  module _ (count : n ≡ word_in W at) (tidy : Tidy (line_read (word_in W) at)) where
    abbrev held : List Use
    held = line_of (line_read (word_in W) at)

    size : length held ≡ n
    size = sym (count ∙ ap (λ (q : Line). q.count) tidy)

    old_is : (i : ℕ) → i < 32 → old_use i ≡ get_or held i no_use
    old_is i h =
        sym (build_at old_use 32 i no_use h)
        ∙ ap (λ (q : Line). get_or q.uses i no_use) tidy
        ∙ padded_at most_uses no_use held i h

    new_is : (i : ℕ) → i < 32 → now_use i ≡ get_or (inserted place u held) i no_use
    new_is i h = go i h (dec_lt i place)
      where
        none : (k : ℕ) → n ≤ k → get_or held k no_use ≡ no_use
        none k l = get_or-eq_default held no_use {n = k} (omega (arith, size))

        behind : (k : ℕ) → suc k < 32 → place ≤ k → Dec (k < n) → now_use (suc k) ≡ get_or held k no_use
        behind k l lo (yes lt) = use_moved k lo lt ∙ old_is k (omega arith)
        behind k l lo (no ge) = use_behind (suc k) (omega arith) ∙ old_is (suc k) l ∙ none (suc k) (omega arith) ∙ sym (none k (omega arith))

        beyond : (k : ℕ) → k < 32 → place < k → now_use k ≡ get_or (inserted place u held) k no_use
        beyond zero l lo = absurd (omega arith)
        beyond (suc k) l lo = behind k l (omega arith) (dec_lt k n) ∙ sym (inserted_behind u held place k (omega arith) (omega (arith, size)))

        upto : (k : ℕ) → k < 32 → place ≤ k → Dec (place < k) → now_use k ≡ get_or (inserted place u held) k no_use
        upto k l lo (yes gt) = beyond k l gt
        upto k l lo (no le) =
            let e : k ≡ place = omega arith in
            use_here k e ∙ sym (ap (λ (i : ℕ). get_or (inserted place u held) i no_use) e ∙ inserted_here u held place (omega (arith, size)))

        go : (k : ℕ) → k < 32 → Dec (k < place) → now_use k ≡ get_or (inserted place u held) k no_use
        go k l (yes lt) = use_before k lt ∙ old_is k l ∙ sym (inserted_below u held place k lt (omega (arith, size)))
        go k l (no ge) = upto k l (omega arith) (dec_lt place k)

    pub line_inserted : line_read (word_in (set P at (n + 1))) at ≡ line_from (inserted place u held)
    line_inserted =
        let l : List Use = inserted place u held in
        let count_is : word_in (set P at (n + 1)) at ≡ length l = word_count ∙ omega (arith, length_inserted place u held, size) in
        let len = build_length now_use 32 in
        let uses-are : uses_read (word_in (set P at (n + 1))) at ≡ padded most_uses no_use l =
        ext_get_or no_use (uses_read (word_in (set P at (n + 1))) at) (padded most_uses no_use l) (len ∙ sym (length_padded most_uses no_use l))
        (λ k h. build_at now_use 32 k no_use (omega (arith, len)) ∙ new_is k (omega (arith, len)) ∙ sym (padded_at most_uses no_use l k (omega (arith, len)))) in
        rw (count_is, uses-are) refl
