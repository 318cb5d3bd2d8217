-- Lines that are read from words.
--   lines_set     the words of one line changed: its line is another, and the others are what they were
use Prim.Native.Nat.{ℕ, ◌≤◌, ◌<◌}
use mathlib.Core.Path.{◌≡◌, sym, ◌∙◌}
use lib.ListN.{length, get_or, set, length-set}
use lib.Seq.{ext_get_or, get_or-set_same, get_or-set_other}
use native.Mathlib.Decide.{dec_lt}
use native.Mathlib.Omega.{arith}
use Rattle.spec_plain.specs.Limits.{resources}
use Rattle.base_lists.proofs.Build.{build_length}
use Rattle.part_lines.specs.ArrayLists.{no_line}
use Rattle.part_boardwords.specs.Layout.{line_start, line_end}
use Rattle.part_boardwords.specs.Words.{Words, line_at, lines_read}
use Rattle.part_boardwords.proofs.Boards.{line_of_lem, same_line}
use Rattle.part_linewords.specs.Beside.{Beside}

module _ (v w : Words) (r : ℕ) (h : r < resources) (beside : Beside (line_start r) v w) where
  same_other : (k : ℕ) → (k ≡ r → ⊥) → line_at w k ≡ line_at v k
  same_other k other = same_line w v (line_start k) (λ n a b. go n a b (dec_lt k r))
    where
      go : (n : ℕ) → line_start k ≤ n → n < line_end (line_start k) → Dec (k < r) → w n ≡ v n
      go n a b (yes lt) = beside.0 n (omega arith)
      go n a b (no ge) = let past : r < k = omega arith in beside.1 n (omega arith)

  pub lines_set : lines_read w ≡ set (lines_read v) r (line_at w r)
  lines_set =
      let n : length (lines_read w) ≡ 16 = build_length (line_at w) resources in
      let m : length (lines_read v) ≡ 16 = build_length (line_at v) resources in
      ext_get_or no_line (lines_read w) (set (lines_read v) r (line_at w r)) (n ∙ sym (length-set (lines_read v) r (line_at w r) ∙ m))
      (λ k l. line_of_lem w k (omega arith) ∙ at k (omega arith) (dec_lt k r) (dec_lt r k))
    where
      same : (k : ℕ) → k < resources → (k ≡ r → ⊥) → line_at w k ≡ get_or (set (lines_read v) r (line_at w r)) k no_line
      same k l other = same_other k other ∙ sym (get_or-set_other (lines_read v) r k (line_at w r) no_line other ∙ line_of_lem v k l)

      here : (k : ℕ) → k ≡ r → line_at w k ≡ get_or (set (lines_read v) r (line_at w r)) k no_line
      here k s = rw s (sym (get_or-set_same (lines_read v) r (line_at w r) no_line (omega (arith, build_length (line_at v) resources, h))))

      at : (k : ℕ) → k < resources → Dec (k < r) → Dec (r < k) → line_at w k ≡ get_or (set (lines_read v) r (line_at w r)) k no_line
      at k l (yes lt) d = same k l (λ s. omega arith)
      at k l (no ge) (yes gt) = same k l (λ s. omega arith)
      at k l (no ge) (no le) = here k (omega arith)
