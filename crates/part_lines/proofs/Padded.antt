-- Laws of padded lists.
--   length_padded       an array has as many places as it has
--   padded_none         nothing held: z everywhere
--   padded_push         the next place stored: the list with one more at its end
--   padded_last         a z at the end is as good as none
--   padded_one          the next place stored, with the one element that comes or with none
--   take_padded         what is read back
--   padded_at           a place read, whether in use or not
use Prim.Native.Nat.{ℕ, zero, suc, ◌≤◌, ◌<◌}
use mathlib.Core.Path.{◌≡◌, refl, sym, ◌∙◌, ap}
use mathlib.Core.List.{List, [], ◌∷◌, ◌++◌, append-nil}
use lib.ListN.{length, get_or, set, take, replicate}
use native.Mathlib.Omega.{arith}
use Rattle.part_lines.specs.Padded.{padded}

module _ {A : Type 0} where
  pub length_padded : (n : ℕ) (z : A) (l : List A) → length (padded n z l) ≡ n
  unfolding padded
  length_padded zero z l = refl
  length_padded (suc n) z [] = ap suc (length_padded n z [])
  length_padded (suc n) z (a ∷ l) = ap suc (length_padded n z l)

  pub padded_none : (n : ℕ) (z : A) → replicate n z ≡ padded n z []
  unfolding padded
  padded_none zero z = refl
  padded_none (suc n) z = ap (◌∷◌ z) (padded_none n z)

  pub padded_push : (n : ℕ) (z : A) (l : List A) (a : A) → length l < n → set (padded n z l) (length l) a ≡ padded n z (l ++ (a ∷ []))
  unfolding padded
  padded_push zero z l a h = absurd (omega arith)
  padded_push (suc n) z [] a h = refl
  padded_push (suc n) z (b ∷ l) a h = ap (◌∷◌ b) (padded_push n z l a (omega arith))

  pub padded_last : (n : ℕ) (z : A) (l : List A) → length l < n → padded n z l ≡ padded n z (l ++ (z ∷ []))
  unfolding padded
  padded_last zero z l h = absurd (omega arith)
  padded_last (suc n) z [] h = refl
  padded_last (suc n) z (a ∷ l) h = ap (◌∷◌ a) (padded_last n z l (omega arith))

  pub padded_one :
      (n : ℕ) (z : A) (l o : List A) → length l < n → length o ≤ 1 → set (padded n z l) (length l) (get_or o 0 z) ≡ padded n z (l ++ o)
  padded_one n z l [] h few = padded_push n z l z h ∙ sym (padded_last n z l h) ∙ ap (padded n z) (sym (append-nil l))
  padded_one n z l (a ∷ []) h few = padded_push n z l a h
  padded_one n z l (a ∷ b ∷ o) h few = absurd (omega arith)

  pub take_padded : (n : ℕ) (z : A) (l : List A) → length l ≤ n → take (length l) (padded n z l) ≡ l
  unfolding padded
  take_padded n z [] h = refl
  take_padded zero z (a ∷ l) h = absurd (omega arith)
  take_padded (suc n) z (a ∷ l) h = ap (◌∷◌ a) (take_padded n z l (omega arith))

  pub padded_at : (n : ℕ) (z : A) (l : List A) (k : ℕ) → k < n → get_or (padded n z l) k z ≡ get_or l k z
  unfolding padded
  padded_at zero z l k h = absurd (omega arith)
  padded_at (suc n) z [] zero h = refl
  padded_at (suc n) z [] (suc k) h = padded_at n z [] k (omega arith)
  padded_at (suc n) z (a ∷ l) zero h = refl
  padded_at (suc n) z (a ∷ l) (suc k) h = padded_at n z l k (omega arith)
