-- Laws of lines where they lie.
--   cleared_put          a line whose count and first uses are written, and whose other places were cleared
--   tidy_put             a line as it came, whose places not in use were cleared
-- A loop that changes each of the lines by h:
--   changed, turned      the lines as they will be, and the words after k turns
--   lines_turn, lines_done   a turn, and the end
--   lines_few            a line that is not reached yet has at most 32 uses
use Prim.Native.Nat.{ℕ, ◌+◌, ◌*◌, ◌<◌, ◌≤◌}
use mathlib.Core.Path.{◌≡◌, refl, sym, ◌∙◌, ap}
use mathlib.Core.List.{List, map}
use lib.ListN.{length, get_or, get_or-eq_default}
use native.Mathlib.Decide.{dec_lt}
use native.Mathlib.Omega.{arith}
use Rattle.spec_plain.specs.Limits.{resources, most_uses}
use Rattle.spec_plain.specs.declared.Use.{Use}
use Rattle.spec_plain.specs.Plain.{no_use}
use Rattle.part_lines.specs.declared.Line.{Line}
use Rattle.part_lines.specs.ArrayLists.{line_of, no_line, line_from}
use Rattle.part_lines.proofs.Lists.{map_at}
use Rattle.base_lists.specs.Loops.{rewritten}
use Rattle.base_lists.proofs.Rewritten.{rewritten_length, rewritten_in, rewritten_below, rewritten_from}
use Rattle.part_boardwords.specs.Layout.{line_size, lines_at, line_start, line_end, use_start}
use Rattle.part_boardwords.specs.Words.{Words, word_in, use_at, line_read, line_at, lines_read}
use Rattle.part_boardwords.specs.Codec.{joined, line_words, overwritten}
use Rattle.base_lists.proofs.Build.{build_length, build_at}
use Rattle.part_boardwords.proofs.Parts.{use_by, use_zero}
use Rattle.part_boardwords.proofs.Boards.{line_count, held_size, held_use, same_line}
use Rattle.part_boardwords.proofs.Blocks.{length_joined}
use Rattle.part_boardwords.proofs.Overwritten.{overwritten_line_turn, length_line, overwritten_from}
use Rattle.part_linewords.proofs.Places.{line_put}

-- ---- a line

-- a line whose count and first uses are those of us, and whose other words are 0
line_held :
    (w x : List ℕ) (at n : ℕ) (us : List Use) → n ≡ length us → n ≤ 32 → line_end at ≤ length w → length x ≡ length w
    → word_in x at ≡ n → ((m : ℕ) → m < n → use_at (word_in x) at m ≡ get_or us m no_use)
    → ((k : ℕ) → use_start at n ≤ k → k < line_end at → word_in x k ≡ 0)
    → ((k : ℕ) → k < at → word_in x k ≡ word_in w k) → ((k : ℕ) → line_end at ≤ k → word_in x k ≡ word_in w k)
    → x ≡ overwritten w at (line_words (line_from us))
line_held w x at n us size few room len count uses clear below from =
    line_put w x at us (omega arith) len room (count ∙ size) (λ m h. go m h (dec_lt m n)) below from
  where
    go : (m : ℕ) → m < 32 → Dec (m < n) → use_at (word_in x) at m ≡ get_or us m no_use
    go m h (yes lt) = uses m lt
    go m h (no ge) =
        use_zero (word_in x) (use_start at m) (λ i l. clear (use_start at m + i) (omega arith) (omega arith))
        ∙ sym (get_or-eq_default us no_use {n = m} (omega arith))

-- a use whose words are the same
same_words : (v w : Words) (a m n : ℕ) → m < n → ((k : ℕ) → use_start a 0 ≤ k → k < use_start a n → v k ≡ w k) → use_at v a m ≡ use_at w a m
same_words v w a m n lt same =
    use_by v w (use_start a m) (use_start a m) (λ i l. same (use_start a m + i) (omega arith) (omega arith))

-- the count and the uses us are there, and the other words were cleared
pub cleared_put :
    (w y x : List ℕ) (at n : ℕ) (us : List Use) → n ≡ length us → n ≤ 32 → line_end at ≤ length w → length y ≡ length w
    → word_in y at ≡ n → ((m : ℕ) → m < n → use_at (word_in y) at m ≡ get_or us m no_use)
    → ((k : ℕ) → k < at → word_in y k ≡ word_in w k) → ((k : ℕ) → line_end at ≤ k → word_in y k ≡ word_in w k)
    → x ≡ rewritten (λ k. 0) y (use_start at n) (line_end at) → x ≡ overwritten w at (line_words (line_from us))
cleared_put w y x at n us size few room len count uses below from is =
    line_held w x at n us size few room (ap length is ∙ rewritten_length z y (use_start at n) (line_end at) ∙ len) (early at (omega arith) ∙ count)
    (λ m lt. same_words (word_in x) (word_in y) at m n lt (λ k lo hi. early k hi) ∙ uses m lt)
    (λ k lo hi. ap (λ (l : List ℕ). get_or l k 0) is ∙ rewritten_in z y (use_start at n) (line_end at) k lo hi (omega (arith, len)))
    (λ k h. early k (omega arith) ∙ below k h)
    (λ k h. ap (λ (l : List ℕ). get_or l k 0) is ∙ rewritten_from z y (use_start at n) (line_end at) k h ∙ from k h)
  where
    z : ℕ → ℕ
    z k = 0

    early : (k : ℕ) → k < use_start at n → word_in x k ≡ word_in y k
    early k h = ap (λ (l : List ℕ). get_or l k 0) is ∙ rewritten_below z y (use_start at n) (line_end at) k h

pub tidy_put :
    (w x : List ℕ) (at : ℕ) → line_end at ≤ length w → word_in w at ≤ most_uses
    → x ≡ rewritten (λ k. 0) w (use_start at (word_in w at)) (line_end at)
    → x ≡ overwritten w at (line_words (line_from (line_of (line_read (word_in w) at))))
tidy_put w x at room few is =
    cleared_put w w x at (word_in w at) (line_of (line_read (word_in w) at)) (sym (held_size (word_in w) at few)) few room refl refl
    (λ m h. sym (held_use (word_in w) at m h (omega arith))) (λ k h. refl) (λ k h. refl) is

-- ---- all lines

module _ (h : Line → Line) (w₀ : List ℕ) where
  -- the lines as they will be
  abbrev changed : List Line
  changed = map h (lines_read (word_in w₀))

  abbrev pub turned : ℕ → List ℕ
  turned k = overwritten w₀ lines_at (joined (λ i. line_words (get_or changed i no_line)) k)

  changed_at : (k : ℕ) → k < resources → get_or changed k no_line ≡ h (line_at (word_in w₀) k)
  changed_at k l =
      map_at h (lines_read (word_in w₀)) k no_line no_line (omega (arith, build_length (line_at (word_in w₀)) resources))
      ∙ ap h (build_at (line_at (word_in w₀)) resources k no_line l)

  -- the words from line k on are still what they were
  words_ahead : (w : List ℕ) (k : ℕ) → w ≡ turned k → (i : ℕ) → line_start k ≤ i → word_in w i ≡ word_in w₀ i
  words_ahead w k is i l =
      let f : ℕ → List ℕ = λ i. line_words (get_or changed i no_line) in
      let size : length (joined f k) ≡ line_size * k = length_joined f line_size k (λ i. length_line (get_or changed i no_line)) in
      ap (λ (q : List ℕ). get_or q i 0) is ∙ overwritten_from w₀ lines_at (joined f k) i (omega (arith, size))

  -- line k is still what it was
  lines_ahead : (w : List ℕ) (k : ℕ) → w ≡ turned k → line_at (word_in w) k ≡ line_at (word_in w₀) k
  lines_ahead w k is = same_line (word_in w) (word_in w₀) (line_start k) (λ i l m. words_ahead w k is i l)

  pub lines_turn :
      (w x : List ℕ) (k at : ℕ) → w ≡ turned k → k < resources → at ≡ line_start k → x ≡ overwritten w at (line_words (h (line_read (word_in w) at)))
      → x ≡ turned (k + 1)
  lines_turn w x k at is l start new =
      let one : h (line_at (word_in w) k) ≡ get_or changed k no_line = ap h (lines_ahead w k is) ∙ sym (changed_at k l) in
      let there = new ∙ ap (λ (i : ℕ). overwritten w i (line_words (h (line_read (word_in w) i)))) start in
      overwritten_line_turn changed w₀ lines_at k w x is (there ∙ ap (λ (q : Line). overwritten w (line_start k) (line_words q)) one)

  pub lines_done :
      (w : List ℕ) (k : ℕ) (ls : List Line) → w ≡ turned k → k ≡ resources → changed ≡ ls
      → w ≡ overwritten w₀ lines_at (joined (λ i. line_words (get_or ls i no_line)) resources)
  lines_done w k ls is e same =
      is ∙ ap turned e ∙ ap (λ (q : List Line). overwritten w₀ lines_at (joined (λ i. line_words (get_or q i no_line)) resources)) same

  -- a line that is not reached yet has at most 32 uses
  pub lines_few :
      (w : List ℕ) (k at : ℕ) → w ≡ turned k → k < resources → at ≡ line_start k
      → ((i : ℕ) → (get_or (lines_read (word_in w₀)) i no_line).count ≤ most_uses) → word_in w at ≤ 32
  lines_few w k at is l start few =
      omega (arith, ap (word_in w) start, words_ahead w k is (line_start k) (omega arith), line_count (word_in w₀) k l, few k)
