-- Laws of uses that are moved to the front where they lie.
--   left        what stays of the first k uses
--   thin_none   the loop's start;  thin_size: how many stay
--   thin_less, thin_more   its turn: use k is read, as it was at first; it leaves, or what stays of it is written behind what stays of those before it
--   stay_put    a line whose uses were moved to the front, whose count was stored and whose other places were cleared
use Prim.Native.Nat.{ℕ, ◌+◌, ◌<◌, ◌≤◌}
use mathlib.Core.Path.{◌≡◌, refl, sym, ◌∙◌, ap, subst}
use mathlib.Core.List.{List, [], ◌∷◌, ◌++◌, append-nil}
use lib.ListN.{length, get_or, set, take, length-set, length-take, length-append, get_or-append}
use lib.Seq.{take-suc, get_or-set_same, get_or-set_other}
use native.Mathlib.Decide.{dec_lt}
use native.Mathlib.Numerals.{add-one}
use native.Mathlib.Omega.{arith}
use Rattle.spec_plain.specs.Limits.{most_uses}
use Rattle.spec_plain.specs.declared.Use.{Use}
use Rattle.spec_plain.specs.Plain.{no_use, staying}
use Rattle.part_lines.specs.ArrayLists.{line_of, line_from}
use Rattle.part_lines.proofs.LeavingLaws.{few_stay, staying_append}
use Rattle.base_lists.specs.Loops.{rewritten}
use Rattle.part_boardwords.specs.Layout.{use_size, line_end, use_start}
use Rattle.part_boardwords.specs.Words.{word_in, use_read, use_at, uses_read, line_read}
use Rattle.part_boardwords.specs.Codec.{use_words, line_words, overwritten}
use Rattle.base_lists.proofs.Build.{build_length, build_at, past}
use Rattle.part_linewords.specs.Thinned.{Thinned}
use Rattle.part_boardwords.proofs.Parts.{use_by, use_written}
use Rattle.part_boardwords.proofs.Boards.{held_size}
use Rattle.part_boardwords.proofs.Overwritten.{overwritten_below, overwritten_from}
use Rattle.part_boardwords.proofs.Written.{overwritten_at}
use Rattle.part_linewords.proofs.Lines.{cleared_put}

module _ (f m : ℕ) (w₀ : List ℕ) (at : ℕ) where
  abbrev pub left : ℕ → List Use
  left k = staying f m (take k (uses_read (word_in w₀) at))

  left_few : (k : ℕ) → length (left k) ≤ k
  left_few k = let us : List Use = uses_read (word_in w₀) at in omega (arith, few_stay f m (take k us), length-take k us)

  pub thin_size : 0 ≡ length (left 0)
  unfolding staying
  thin_size = refl

  pub thin_none : Thinned w₀ w₀ at 0 (left 0)
  unfolding staying
  thin_none = record { uses = λ i h. absurd (omega arith); before = λ k h. refl; behind = λ k h. refl }

  -- one more use, and what stays of it
  left_more : (k : ℕ) → k < 32 → left (k + 1) ≡ left k ++ staying f m (use_at (word_in w₀) at k ∷ [])
  left_more k h =
      let us : List Use = uses_read (word_in w₀) at in
      let size : length us ≡ 32 = build_length (use_at (word_in w₀) at) most_uses in
      ap left (add-one k)
      ∙ ap (staying f m) (take-suc us k no_use (omega arith))
      ∙ ap (λ (u : Use). staying f m (take k us ++ (u ∷ []))) (build_at (use_at (word_in w₀) at) most_uses k no_use h)
      ∙ staying_append f m (take k us) (use_at (word_in w₀) at k ∷ [])

  -- the use that is read is the one that came first
  module _ (w : List ℕ) (k : ℕ) (h : k < 32) (t : Thinned w₀ w at k (left k)) where
    left_with : (u : Use) → u ≡ use_read (word_in w) (use_start at k) → left (k + 1) ≡ left k ++ staying f m (u ∷ [])
    left_with u e =
        let read : u ≡ use_at (word_in w₀) at k =
        e ∙ use_by (word_in w) (word_in w₀) (use_start at k) (use_start at k) (λ i l. t.behind (use_start at k + i) (omega arith)) in
        left_more k h ∙ ap (λ (a : Use). left k ++ staying f m (a ∷ [])) (sym read)

    -- it leaves: the words are as they were
    pub thin_less : (u : Use) → u ≡ use_read (word_in w) (use_start at k) → [] ≡ staying f m (u ∷ []) → (left k ≡ left (k + 1)) × Thinned w₀ w at (k + 1) (left (k + 1))
    thin_less u e none =
        let same : left k ≡ left (k + 1) = sym (append-nil (left k)) ∙ ap (λ (o : List Use). left k ++ o) none ∙ sym (left_with u e) in (
          same,
          subst (Thinned w₀ w at (k + 1)) same (record { uses = t.uses; before = t.before; behind = λ i l. t.behind i (omega arith) }),
        )

    -- what stays of it, v, is written behind what stays of those before it: the words are then x
    module _ (x : List ℕ) (n : ℕ) (v : Use) (room : line_end at ≤ length w) (size : n ≡ length (left k)) (is : x ≡ overwritten w (use_start at n) (use_words v)) where
      few : n ≤ k
      few = omega (arith, left_few k)

      word_below : (i : ℕ) → i < use_start at n → word_in x i ≡ word_in w i
      word_below i l = ap (λ (q : List ℕ). get_or q i 0) is ∙ overwritten_below w (use_start at n) (use_words v) i l

      word_from : (i : ℕ) → use_start at n + use_size ≤ i → word_in x i ≡ word_in w i
      word_from i l = ap (λ (q : List ℕ). get_or q i 0) is ∙ overwritten_from w (use_start at n) (use_words v) i l

      word_at : (i j : ℕ) → i ≡ use_start at n + j → j < use_size → word_in x i ≡ get_or (use_words v) j 0
      word_at i j e l = ap (λ (q : List ℕ). get_or q i 0) is ∙ overwritten_at w (use_start at n) (use_words v) i j e l (omega (arith, few))

      use_below : (i : ℕ) → i < n → use_at (word_in x) at i ≡ use_at (word_in w) at i
      use_below i l = use_by (word_in x) (word_in w) (use_start at i) (use_start at i) (λ j r. word_below (use_start at i + j) (omega arith))

      use_there : use_at (word_in x) at n ≡ v
      use_there = use_written (word_in x) (use_start at n) v (λ i l. word_at (use_start at n + i) i refl l)

      next : Thinned w₀ x at (k + 1) (left k ++ (v ∷ []))
      next =
          record {
            uses = λ i l. go i (omega (arith, length-append (left k) (v ∷ []))) (dec_lt i n);
            before = λ i l. word_below i (omega arith) ∙ t.before i l;
            behind = λ i l. word_from i (omega (arith, few)) ∙ t.behind i (omega arith);
          }
        where
          go : (i : ℕ) → i < length (left k) + 1 → Dec (i < n) → use_at (word_in x) at i ≡ get_or (left k ++ (v ∷ [])) i no_use
          go i l (yes lt) = use_below i lt ∙ t.uses i (omega arith) ∙ sym (get_or-append (left k) (v ∷ []) no_use i (omega arith))
          go i l (no ge) =
              let e : i ≡ n = omega arith in
              ap (use_at (word_in x) at) e ∙ use_there ∙ sym (past (left k) (v ∷ []) i 0 no_use (omega arith))

      pub thin_more : (u : Use) → u ≡ use_read (word_in w) (use_start at k) → (v ∷ []) ≡ staying f m (u ∷ []) → (n + 1 ≡ length (left (k + 1))) × Thinned w₀ x at (k + 1) (left (k + 1))
      thin_more u e one =
          let all : left k ++ (v ∷ []) ≡ left (k + 1) = ap (λ (o : List Use). left k ++ o) one ∙ sym (left_with u e) in
          let longer : n + 1 ≡ length (left k ++ (v ∷ [])) = omega (arith, length-append (left k) (v ∷ [])) in
          (longer ∙ ap length all, subst (Thinned w₀ x at (k + 1)) all next)

pub stay_put :
    (f m : ℕ) (w y x : List ℕ) (at n : ℕ) → line_end at ≤ length w → word_in w at ≤ most_uses → length y ≡ length w
    → n ≡ length (staying f m (line_of (line_read (word_in w) at)))
    → Thinned w y at (word_in w at) (staying f m (line_of (line_read (word_in w) at)))
    → x ≡ rewritten (λ k. 0) (set y at n) (use_start at n) (line_end at)
    → x ≡ overwritten w at (line_words (line_from (staying f m (line_of (line_read (word_in w) at)))))
stay_put f m w y x at n room few len size t is =
    cleared_put w (set y at n) x at n us size (omega (arith, most)) room (length-set y at n ∙ len) (get_or-set_same y at n 0 (omega arith))
    (λ i h. use_by (word_in (set y at n)) (word_in y) (use_start at i) (use_start at i)
    (λ k l. other (use_start at i + k) (omega arith))
    ∙ t.uses i (omega arith)) (λ k h. get_or-set_other y at k n 0 (λ c. omega arith) ∙ t.before k (omega arith))
    (λ k h. other k (omega arith) ∙ t.behind k (omega arith)) is
  where
    us : List Use
    us = staying f m (line_of (line_read (word_in w) at))

    most : length us ≤ word_in w at
    most = omega (arith, few_stay f m (line_of (line_read (word_in w) at)), held_size (word_in w) at few)

    other : (k : ℕ) → use_start at 0 ≤ k → get_or (set y at n) k 0 ≡ get_or y k 0
    other k h = get_or-set_other y at k n 0 (λ c. omega arith)
