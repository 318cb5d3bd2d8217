-- A list that was filled from the front: the laws of `build`. Assumes nothing.
--   build_none, build_more   no turn yet; one turn more
--   build_length    as many elements as were asked for
--   build_at        the elements;  build_past: past the end what stands there
--   build_same      element by element
--   build_back      a list is built of its own elements
--   build_replicate the same element n times
--   build_add       a list in two parts
--   past            what comes behind a first part
use Prim.Native.Nat.{ℕ, zero, suc, ◌+◌, ◌≤◌, ◌<◌}
use mathlib.Core.Path.{◌≡◌, refl, sym, ◌∙◌, ap, ap₂}
use mathlib.Core.List.{List, [], ◌∷◌, ◌++◌, append-nil, append_assoc}
use lib.ListN.{length, get_or, replicate, length-append, get_or-append, get_or-eq_default}
use lib.Seq.{ext_get_or, get_or-append-add}
use native.Mathlib.Decide.{dec_lt}
use native.Mathlib.Numerals.{add-one}
use native.Mathlib.Omega.{arith}
use Rattle.base_lists.specs.Loops.{build}

module _ {A : Type 0} where
  pub build_none : (f : ℕ → A) → build f 0 ≡ []
  unfolding build
  build_none f = refl

  pub build_more : (f : ℕ → A) (n : ℕ) → build f (n + 1) ≡ build f n ++ (f n ∷ [])
  unfolding build
  build_more f n = rw (add-one n)

  pub build_length : (f : ℕ → A) (n : ℕ) → length (build f n) ≡ n
  unfolding build
  build_length f zero = refl
  build_length f (suc n) = length-append (build f n) (f n ∷ []) ∙ rw (build_length f n) (omega arith)

  -- one more at the end
  replicate_more : (n : ℕ) (z : A) → replicate n z ++ (z ∷ []) ≡ replicate (suc n) z
  replicate_more zero z = refl
  replicate_more (suc n) z = ap (◌∷◌ z) (replicate_more n z)

  pub build_replicate : (n : ℕ) (z : A) → replicate n z ≡ build (λ k. z) n
  unfolding build
  build_replicate zero z = refl
  build_replicate (suc n) z = sym (replicate_more n z) ∙ ap (λ (l : List A). l ++ (z ∷ [])) (build_replicate n z)

  pub past : (l m : List A) (n k : ℕ) (d : A) → n ≡ length l + k → get_or (l ++ m) n d ≡ get_or m k d
  past l m n k d e = ap (λ (i : ℕ). get_or (l ++ m) i d) e ∙ get_or-append-add l m k d

  pub build_same : (f g : ℕ → A) (n : ℕ) → ((k : ℕ) → k < n → f k ≡ g k) → build f n ≡ build g n
  unfolding build
  build_same f g zero e = refl
  build_same f g (suc n) e =
      ap₂ (λ (l : List A) (a : A). l ++ (a ∷ [])) (build_same f g n (λ k h. e k (omega arith))) (e n (omega arith))

  pub build_at : (f : ℕ → A) (n k : ℕ) (d : A) → k < n → get_or (build f n) k d ≡ f k
  unfolding build
  build_at f zero k d h = absurd (omega arith)
  build_at f (suc n) k d h = go (dec_lt k n) (build_at f n k d)
    where
      go : Dec (k < n) → (k < n → get_or (build f n) k d ≡ f k) → get_or (build f n ++ (f n ∷ [])) k d ≡ f k
      go (yes lt) before = get_or-append (build f n) (f n ∷ []) d k (omega (arith, build_length f n)) ∙ before lt
      go (no ge) before =
          past (build f n) (f n ∷ []) k 0 d (omega (arith, build_length f n)) ∙ ap f {x = n} {y = k} (omega arith)

  pub build_past : (f : ℕ → A) (n k : ℕ) (d : A) → n ≤ k → get_or (build f n) k d ≡ d
  build_past f n k d h = get_or-eq_default (build f n) d {n = k} (omega (arith, build_length f n))

  pub build_back : (l : List A) (n : ℕ) (d : A) → length l ≡ n → build (λ k. get_or l k d) n ≡ l
  build_back l n d e =
      let len = build_length (λ k. get_or l k d) n in
      ext_get_or d (build (λ k. get_or l k d) n) l (len ∙ sym e) (λ k h. build_at (λ i. get_or l i d) n k d (omega (arith, len)))

  pub build_add : (f : ℕ → A) (m n : ℕ) → build f (m + n) ≡ build f m ++ build (λ k. f (m + k)) n
  unfolding build
  build_add f m zero = ap (build f) {x = m + 0} {y = m} (omega arith) ∙ sym (append-nil (build f m))
  build_add f m (suc n) =
      ap (build f) {x = m + suc n} {y = suc (m + n)} (omega arith)
      ∙ ap (λ (l : List A). l ++ (f (m + n) ∷ [])) (build_add f m n)
      ∙ append_assoc (build f m) (build (λ k. f (m + k)) n) (f (m + n) ∷ [])
