-- The allocation count and its three spare bytes, read as one word, low byte first (Note 3). Assumes nothing.
--   Clean          what document 01 asks of the four bytes: a count of at most 4, and three zero bytes
--   small, clean   the law, of any four bytes: their word is at most 4 exactly where they are clean
--   head_passes    so the test of the word is the test of the four bytes (`bad_head`)
--   head_count     and where it passes, the word is the count
use Prim.Native.Nat.{ℕ, ◌+◌, ◌*◌, ◌≤◌, ◌<◌}
use native.Mathlib.Omega.{arith}
use mathlib.Core.Path.{◌≡◌, refl, sym, ◌∙◌}
use mathlib.Core.List.{List}
use mathlib.Core.Bool.{Bool, true, false, not}
use lib.ListN.{get_or}
use lib.Dec.{eqb, ltb}
use borrow.Author.Tests.{le-ltb, eq-eqb, eqb-true, ltb-false, ltb-true, not-false}
use Rattle.base_words.specs.Word.{word}
use Rattle.base_rulings.proofs.RulingLaws.{neither}
use Rattle.read_plant.specs.Plant.{bad_head, allocation_count}

pub record Clean (n b c d : ℕ) : Type 0 where
  pub few : n ≤ 4
  pub first : b ≡ 0
  pub second : c ≡ 0
  pub third : d ≡ 0

-- a spare byte that is not 0 makes the word 256 at least
pub small : (n b c d : ℕ) → n + 256 * b + 65536 * c + 16777216 * d ≤ 4 → Clean n b c d
small n b c d h = record { few = omega arith; first = omega arith; second = omega arith; third = omega arith }

pub clean : (n b c d : ℕ) → Clean n b c d → n + 256 * b + 65536 * c + 16777216 * d ≤ 4
clean n b c d h = omega (arith, h)

module _ (s : List ℕ) (at : ℕ) where
  head_is :
      word s (at + 24) ≡ allocation_count s at + 256 * get_or s (at + 25) 0 + 65536 * get_or s (at + 26) 0 + 16777216 * get_or s (at + 27) 0
  unfolding word
  head_is =
      let first : at + 24 + 1 ≡ at + 25 = omega arith in
      let second : at + 24 + 2 ≡ at + 26 = omega arith in
      let third : at + 24 + 3 ≡ at + 27 = omega arith in
      simp (first, second, third)

  abbrev Head : Type 0
  Head = Clean (allocation_count s at) (get_or s (at + 25) 0) (get_or s (at + 26) 0) (get_or s (at + 27) 0)

  -- the four tests of `bad_head`, byte by byte
  pub bytes_clean : bad_head s at ≡ false → Head
  unfolding bad_head
  bytes_clean e =
      let few = neither (ltb 4 (allocation_count s at)) _ e in
      let first = neither (not (eqb (get_or s (at + 25) 0) 0)) _ few.1 in
      let second = neither (not (eqb (get_or s (at + 26) 0) 0)) (not (eqb (get_or s (at + 27) 0) 0)) first.1 in
      record {
        few = ltb-false _ _ few.0;
        first = eqb-true _ _ (not-false _ first.0);
        second = eqb-true _ _ (not-false _ second.0);
        third = eqb-true _ _ (not-false _ second.1);
      }

  clean_bytes : Head → bad_head s at ≡ false
  unfolding bad_head
  clean_bytes h = simp (le-ltb 4 (allocation_count s at) h.few, eq-eqb _ _ h.first, eq-eqb _ _ h.second, eq-eqb _ _ h.third)

  pub head_passes : ltb 4 (word s (at + 24)) ≡ bad_head s at
  head_passes = go (ltb 4 (word s (at + 24))) refl (bad_head s at) refl
    where
      go : (w : Bool) → ltb 4 (word s (at + 24)) ≡ w → (b : Bool) → bad_head s at ≡ b → w ≡ b
      go false p b q =
          let h : word s (at + 24) ≤ 4 = ltb-false 4 (word s (at + 24)) p in
          let i = head_is in
          sym (clean_bytes (small _ _ _ _ (omega (arith, h, i)))) ∙ q
      go true p false q =
          let h : 4 < word s (at + 24) = ltb-true 4 (word s (at + 24)) p in
          let i = head_is in
          let k = clean _ _ _ _ (bytes_clean q) in
          absurd (omega (arith, h, i, k))
      go true p true q = refl

  pub head_count : bad_head s at ≡ false → word s (at + 24) ≡ allocation_count s at
  head_count e =
      let i = head_is in
      let h = bytes_clean e in
      omega (arith, i, h)
