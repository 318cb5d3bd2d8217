-- Numbers written as bytes are the numbers that are read there, and bytes read as numbers are the bytes that are written. Assumes nothing.
--   AllSmall ns         each number of a list is a u32
--   u32s_length         four bytes for each number;  u32s_append: lists one after the other
--   word_past           a word behind a first part
--   words_in            of a list that has numbers written in it: each is read where it stands;  bytes_in: the same of bytes
--   piece s at n        the n bytes from place `at` on;  piece_add: in two parts;  piece_word: four of them are a word written
--   pieces              and 4 * n of them are n words written
use Prim.Native.Nat.{ℕ, zero, suc, ◌+◌, ◌*◌, ◌/◌, ◌%◌, ◌≤◌, ◌<◌}
use native.Mathlib.Numerals.{add-one}
use native.Mathlib.Nat.{div-div-eq-div-mul, mod-eq_of_lt}
use native.Mathlib.Omega.{arith}
use mathlib.Core.Path.{◌≡◌, refl, sym, ◌∙◌, ap, ap₂}
use mathlib.Core.List.{List, [], ◌∷◌, ◌++◌, append-nil}
use lib.ListN.{length, get_or, take, drop, length-append, get_or-append}
use lib.Seq.{take-add, drop-drop, drop-cons}
use Rattle.base_words.specs.Word.{word, u32, u32s, Bytes}
use Rattle.write_plant.specs.Canonical.{Small}
use Rattle.base_lists.specs.All.{All}
use Rattle.base_lists.specs.Loops.{build}
use Rattle.base_lists.proofs.Build.{past}

abbrev pub AllSmall : List ℕ → Type 0
AllSmall ns = All Small ns

-- ---- written, then read

pub u32s_length : (ns : List ℕ) → length (u32s ns) ≡ 4 * length ns
u32s_length [] = refl
u32s_length (n ∷ ns) = length-append (u32 n) (u32s ns) ∙ omega (arith, u32s_length ns)

pub u32s_append : (ns ms : List ℕ) → u32s (ns ++ ms) ≡ u32s ns ++ u32s ms
u32s_append [] ms = refl
u32s_append (n ∷ ns) ms = ap (λ (l : List ℕ). u32 n ++ l) (u32s_append ns ms)

pub word_past : (xs ys : List ℕ) (at k : ℕ) → at ≡ length xs + k → word (xs ++ ys) at ≡ word ys k
unfolding word
word_past xs ys at k e =
    omega (
      arith,
      past xs ys at k 0 e,
      past xs ys (at + 1) (k + 1) 0 (omega arith),
      past xs ys (at + 2) (k + 2) 0 (omega arith),
      past xs ys (at + 3) (k + 3) 0 (omega arith),
    )

word_here : (n : ℕ) (ys : List ℕ) → Small n → word (u32 n ++ ys) 0 ≡ n
unfolding word
word_here n ys h =
    let top : n / 16777216 < 256 = omega arith in
    let high : n / 16777216 % 256 ≡ n / 16777216 = mod-eq_of_lt top in
    omega (arith, high, div-div-eq-div-mul n 256 256, div-div-eq-div-mul n 65536 256)

words_at : (ns ys : List ℕ) (k : ℕ) → AllSmall ns → k < length ns → word (u32s ns ++ ys) (4 * k) ≡ get_or ns k 0
words_at [] ys k a h = absurd (omega arith)
words_at (n ∷ ns) ys zero a h = word_here n (u32s ns ++ ys) a.0
words_at (n ∷ ns) ys (suc k) a h = word_past (u32 n) (u32s ns ++ ys) (4 * suc k) (4 * k) (omega arith) ∙ words_at ns ys k a.1 (omega arith)

pub words_in :
    (s front ns back : List ℕ) → s ≡ front ++ (u32s ns ++ back) → AllSmall ns → (at k : ℕ) → at ≡ length front + 4 * k → k < length ns
    → word s at ≡ get_or ns k 0
words_in s front ns back e a at k p h = ap (λ (l : List ℕ). word l at) e ∙ word_past front (u32s ns ++ back) at (4 * k) p ∙ words_at ns back k a h

pub bytes_in :
    (s front bs back : List ℕ) → s ≡ front ++ (bs ++ back) → (at k : ℕ) → at ≡ length front + k → k < length bs → get_or s at 0 ≡ get_or bs k 0
bytes_in s front bs back e at k p h =
    ap (λ (l : List ℕ). get_or l at 0) e ∙ past front (bs ++ back) at k 0 p ∙ get_or-append bs back 0 k h

-- ---- read, then written

abbrev pub piece : List ℕ → ℕ → ℕ → List ℕ
piece s at n = take n (drop at s)

pub piece_add : (s : List ℕ) (at m n : ℕ) → piece s at (m + n) ≡ piece s at m ++ piece s (at + m) n
piece_add s at m n = take-add m n (drop at s) ∙ ap (λ (l : List ℕ). take m (drop at s) ++ take n l) (drop-drop m at s)

-- one element, and what comes behind it
pub piece_next : (s : List ℕ) (at next n : ℕ) → at + 1 ≡ next → at < length s → piece s at (suc n) ≡ get_or s at 0 ∷ piece s next n
piece_next s at next n e h = ap (take (suc n)) (drop-cons s at 0 h) ∙ ap (λ (k : ℕ). get_or s at 0 ∷ take n (drop k s)) (sym (add-one at) ∙ e)

-- the low byte of a number
low : (m x y : ℕ) → m ≡ x + 256 * y → x < 256 → x ≡ m % 256
low m x y e h = omega arith

-- the bytes of the number that four bytes make
bytes_of :
    (a b c d : ℕ) → a < 256 → b < 256 → c < 256 → d < 256 → a ∷ b ∷ c ∷ d ∷ [] ≡ u32 (a + 256 * b + 65536 * c + 16777216 * d)
bytes_of a b c d ha hb hc hd =
    let n : ℕ = a + 256 * b + 65536 * c + 16777216 * d in
    ap₂ ◌∷◌ (low n a (b + 256 * c + 65536 * d) (omega arith) ha)
    (ap₂ ◌∷◌ (low (n / 256) b (c + 256 * d) (omega arith) hb)
    (ap₂ ◌∷◌ (low (n / 65536) c d (omega arith) hc)
    (ap₂ ◌∷◌ (low (n / 16777216) d 0 (omega arith) hd) refl)))

pub piece_word : (s : List ℕ) (at : ℕ) → Bytes s → at + 4 ≤ length s → piece s at 4 ≡ u32 (word s at)
unfolding word
piece_word s at all h =
    piece_next s at (at + 1) 3 (omega arith) (omega arith)
    ∙ ap (◌∷◌ (get_or s at 0))
    (piece_next s (at + 1) (at + 2) 2 (omega arith) (omega arith)
    ∙ ap (◌∷◌ (get_or s (at + 1) 0))
    (piece_next s (at + 2) (at + 3) 1 (omega arith) (omega arith)
    ∙ ap (◌∷◌ (get_or s (at + 2) 0)) (piece_next s (at + 3) (at + 4) 0 (omega arith) (omega arith))))
    ∙ bytes_of (get_or s at 0) (get_or s (at + 1) 0) (get_or s (at + 2) 0) (get_or s (at + 3) 0) (all at) (all (at + 1)) (all (at + 2)) (all (at + 3))

pub pieces :
    (s : List ℕ) (at n : ℕ) → Bytes s → at + 4 * n ≤ length s → piece s at (4 * n) ≡ u32s (build (λ k. word s (at + 4 * k)) n)
unfolding build
pieces s at zero all h = refl
pieces s at (suc n) all h =
    ap (piece s at) {x = 4 * suc n} {y = 4 * n + 4} (omega arith)
    ∙ piece_add s at (4 * n) 4
    ∙ ap₂ ◌++◌ (pieces s at n all (omega arith)) (piece_word s (at + 4 * n) all (omega arith) ∙ sym (append-nil (u32 (word s (at + 4 * n)))))
    ∙ sym (u32s_append (build (λ k. word s (at + 4 * k)) n) (word s (at + 4 * n) ∷ []))
