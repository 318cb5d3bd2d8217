-- Laws of lists that the loops cite. A loop that reads an array with a count goes down the list `take n l` that it holds: what is left after
-- k elements is `drop k (take n l)`.
--   held_next       what is left starts with the element at k
--   held_over       after n elements nothing is left
--   length_held     the list has as many elements as the count says
--   length_mapped   the length of an array of structs, from what is known of a parameter
--   map_set, map_at, set_all   a list that is mapped, and then stored or read; a property of each element, after a store
use Prim.Native.Nat.{ℕ, zero, suc, ◌+◌, ◌≤◌, ◌<◌}
use mathlib.Core.Path.{◌≡◌, refl, sym, ◌∙◌, ap}
use mathlib.Core.List.{List, [], ◌∷◌, map}
use lib.ListN.{length, get_or, set, take, drop, length-take, length-map, drop_of_length-le}
use lib.Seq.{length-take-le, drop-cons, get_or-take}
use native.Mathlib.Omega.{arith}
use native.Mathlib.Numerals.{add-one}

module _ {A : Type 0} where
  pub length_held : (n : ℕ) (l : List A) → n ≤ length l → length (take n l) ≡ n
  length_held n l h = length-take-le n l h

  pub held_next : (n : ℕ) (l : List A) (k : ℕ) (z : A) → k < n → n ≤ length l → drop k (take n l) ≡ get_or l k z ∷ drop (k + 1) (take n l)
  held_next n l k z h hn =
      let le : k < length (take n l) = omega (arith, length_held n l hn) in
      drop-cons (take n l) k z le
      ∙ ap (λ (a : A). a ∷ drop (suc k) (take n l)) (get_or-take n l k z h)
      ∙ ap (λ (i : ℕ). get_or l k z ∷ drop i (take n l)) (sym (add-one k))

  pub held_over : (n : ℕ) (l : List A) (k : ℕ) → n ≤ k → drop k (take n l) ≡ []
  held_over n l k h = let le : length (take n l) ≤ k = omega (arith, length-take n l) in drop_of_length-le (take n l) le

  pub set_all :
      (P : A → Type 0) (l : List A) (r : ℕ) (a z : A) → P a → ((i : ℕ) → P (get_or l i z)) → (i : ℕ) → P (get_or (set l r a) i z)
  set_all P [] r a z ha h i = h i
  set_all P (b ∷ l) zero a z ha h zero = ha
  set_all P (b ∷ l) zero a z ha h (suc i) = h (suc i)
  set_all P (b ∷ l) (suc r) a z ha h zero = h zero
  set_all P (b ∷ l) (suc r) a z ha h (suc i) = set_all P l r a z ha (λ k. h (suc k)) i

module _ {A B : Type 0} where
  pub length_mapped : (f : A → B) (l : List A) (n : ℕ) → length (map f l) ≡ n → length l ≡ n
  length_mapped f l n p = sym (length-map l f) ∙ p

  pub map_set : (f : A → B) (l : List A) (i : ℕ) (a : A) → map f (set l i a) ≡ set (map f l) i (f a)
  map_set f [] i a = refl
  map_set f (b ∷ l) zero a = refl
  map_set f (b ∷ l) (suc i) a = ap (◌∷◌ (f b)) (map_set f l i a)

  pub map_at : (f : A → B) (l : List A) (i : ℕ) (d : A) (e : B) → i < length l → get_or (map f l) i e ≡ f (get_or l i d)
  map_at f [] i d e h = absurd (omega arith)
  map_at f (b ∷ l) zero d e h = refl
  map_at f (b ∷ l) (suc i) d e h = map_at f l i d e (omega arith)
