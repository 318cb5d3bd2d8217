-- Laws of lists that are made of blocks of the same length.
--   length_joined   so many blocks of so many elements
--   joined_same     block by block
--   joined_blocks   blocks of s elements, one behind the other
--   joined_at       element i of block k
use Prim.Native.Nat.{ℕ, zero, suc, ◌+◌, ◌*◌, ◌<◌}
use mathlib.Core.Path.{◌≡◌, refl, sym, ◌∙◌, ap, ap₂}
use mathlib.Core.List.{List, ◌++◌}
use lib.ListN.{length, get_or, length-append, get_or-append}
use native.Mathlib.Decide.{dec_lt}
use native.Mathlib.Omega.{arith}
use Rattle.base_lists.specs.Loops.{build}
use Rattle.part_boardwords.specs.Codec.{joined}
use Rattle.base_lists.proofs.Build.{past, build_none, build_add}

pub length_joined : (f : ℕ → List ℕ) (s n : ℕ) → ((k : ℕ) → length (f k) ≡ s) → length (joined f n) ≡ s * n
unfolding joined
length_joined f s zero e = omega arith
length_joined f s (suc n) e =
    length-append (joined f n) (f n) ∙ rw (length_joined f s n e, e n) (more s n)
  where
    more : (s n : ℕ) → s * n + s ≡ s * suc n
    more s n = omega arith

pub joined_same : (f g : ℕ → List ℕ) (n : ℕ) → ((k : ℕ) → k < n → f k ≡ g k) → joined f n ≡ joined g n
unfolding joined
joined_same f g zero e = refl
joined_same f g (suc n) e = ap₂ (λ (l m : List ℕ). l ++ m) (joined_same f g n (λ k h. e k (omega arith))) (e n (omega arith))

pub joined_blocks : (f : ℕ → ℕ) (s n : ℕ) → joined (λ k. build (λ i. f (s * k + i)) s) n ≡ build f (s * n)
unfolding joined
joined_blocks f s zero = sym (ap (build f) {x = s * 0} {y = 0} (omega arith) ∙ build_none f)
joined_blocks f s (suc n) =
    ap (λ (l : List ℕ). l ++ build (λ i. f (s * n + i)) s) (joined_blocks f s n)
    ∙ sym (build_add f (s * n) s)
    ∙ ap (build f) {x = s * n + s} {y = s * suc n} (omega arith)

-- element i of block k stands before the end of block k
inside : (s k n i : ℕ) → k < n → i < s → s * k + i < s * n
inside s k zero i h l = absurd (omega arith)
inside s k (suc n) i h l = go (dec_lt k n) (inside s k n i)
  where
    go : Dec (k < n) → (k < n → i < s → s * k + i < s * n) → s * k + i < s * suc n
    go (yes lt) before = let b = before lt l in omega (arith, b)
    go (no ge) before = let e : s * k ≡ s * n = ap (λ (x : ℕ). s * x) {x = k} {y = n} (omega arith) in omega (arith, e)

pub joined_at :
    (f : ℕ → List ℕ) (s n k i : ℕ) → ((j : ℕ) → length (f j) ≡ s) → k < n → i < s → get_or (joined f n) (s * k + i) 0 ≡ get_or (f k) i 0
unfolding joined
joined_at f s zero k i e h l = absurd (omega arith)
joined_at f s (suc n) k i e h l = go (dec_lt k n) (joined_at f s n k i e)
  where
    go : Dec (k < n) → (k < n → i < s → get_or (joined f n) (s * k + i) 0 ≡ get_or (f k) i 0)
        → get_or (joined f n ++ f n) (s * k + i) 0 ≡ get_or (f k) i 0
    go (yes lt) before =
        get_or-append (joined f n) (f n) 0 (s * k + i) (omega (arith, length_joined f s n e, inside s k n i lt l)) ∙ before lt l
    go (no ge) before =
        let q : n ≡ k = omega arith in
        let p : s * k ≡ s * n = ap (λ (x : ℕ). s * x) (sym q) in
        past (joined f n) (f n) (s * k + i) i 0 (omega (arith, length_joined f s n e, p)) ∙ ap (λ (x : ℕ). get_or (f x) i 0) q
