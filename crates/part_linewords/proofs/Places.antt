-- A line in its place among words.
--   line_put   words that hold a line at `at`, and are as they were elsewhere
use Prim.Native.Nat.{ℕ, zero, suc, ◌+◌, ◌<◌, ◌≤◌}
use mathlib.Core.Path.{◌≡◌, sym, ◌∙◌, ap, ap₂}
use mathlib.Core.List.{List, ◌∷◌}
use lib.ListN.{length, get_or}
use native.Mathlib.Omega.{arith}
use Rattle.spec_plain.specs.Limits.{most_uses}
use Rattle.spec_plain.specs.declared.Use.{Use}
use Rattle.spec_plain.specs.Plain.{no_use}
use Rattle.part_lines.specs.ArrayLists.{line_from}
use Rattle.part_lines.specs.Padded.{padded}
use Rattle.part_lines.proofs.Padded.{length_padded, padded_at}
use Rattle.base_lists.specs.Loops.{build}
use Rattle.part_boardwords.specs.Layout.{uses_in, uses_size, line_size, line_end}
use Rattle.part_boardwords.specs.Words.{word_in, use_at, uses_read}
use Rattle.part_boardwords.specs.Codec.{uses_words, line_words, overwritten}
use Rattle.base_lists.proofs.Build.{build_length, build_same, build_at, build_back}
use Rattle.part_boardwords.proofs.Inverse.{uses_read_lem}
use Rattle.part_boardwords.proofs.Written.{overwritten_is}

-- the words of the line that holds these uses, read one by one
line_at :
    (x : List ℕ) (at : ℕ) (us : List Use) → length us ≤ 32 → word_in x at ≡ length us
    → ((m : ℕ) → m < 32 → use_at (word_in x) at m ≡ get_or us m no_use)
    → line_words (line_from us) ≡ word_in x at ∷ build (λ j. word_in x (at + uses_in + j)) uses_size
line_at x at us few count uses =
    let same : uses_read (word_in x) at ≡ padded most_uses no_use us =
    build_same (use_at (word_in x) at) (λ m. get_or (padded most_uses no_use us) m no_use) 32 (λ m h. uses m h ∙ sym (padded_at most_uses no_use us m h))
    ∙ build_back (padded most_uses no_use us) 32 no_use (length_padded most_uses no_use us) in
    ap₂ (λ (a : ℕ) (l : List ℕ). a ∷ l) (sym count)
    (ap uses_words (sym same) ∙ uses_read_lem (word_in x) at)

pub line_put :
    (w x : List ℕ) (at : ℕ) (us : List Use) → length us ≤ 32 → length x ≡ length w → line_end at ≤ length w → word_in x at ≡ length us
    → ((m : ℕ) → m < 32 → use_at (word_in x) at m ≡ get_or us m no_use) → ((k : ℕ) → k < at → get_or x k 0 ≡ get_or w k 0)
    → ((k : ℕ) → line_end at ≤ k → get_or x k 0 ≡ get_or w k 0) → x ≡ overwritten w at (line_words (line_from us))
line_put w x at us few e room count uses below from =
    overwritten_is w x at l e (omega (arith, size)) inside below (λ k h. from k (omega (arith, size)))
    ∙ ap (overwritten w at) (sym (line_at x at us few count uses))
  where
    f : ℕ → ℕ
    f j = word_in x (at + uses_in + j)

    l : List ℕ
    l = word_in x at ∷ build f uses_size

    size : length l ≡ line_size
    size = ap suc (build_length f uses_size)

    inside : (i : ℕ) → i < length l → get_or x (at + i) 0 ≡ get_or l i 0
    inside zero h = ap (λ (j : ℕ). get_or x j 0) {x = at + 0} {y = at} (omega arith)
    inside (suc i) h =
        ap (λ (j : ℕ). get_or x j 0) {x = at + suc i} {y = at + uses_in + i} (omega arith) ∙ sym (build_at f uses_size i 0 (omega (arith, size)))
