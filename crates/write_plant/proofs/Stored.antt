-- Bytes stored one behind the other (`sets` of the library). Assumes nothing.
--   sets_append    two lists, one behind the other
--   part_stored    bytes copied into a part of a slice
--   sets_comm      one before the other: they can change places
--   words_turn     a loop's turn: one number more
--   trailer_stored  a trailer in its three parts
--   sets_front     from the start of a list: in front of what was there
use Prim.Native.Nat.{ℕ, suc, ◌+◌, ◌-◌, ◌*◌, ◌≤◌, ◌<◌}
use native.Mathlib.Omega.{arith}
use mathlib.Core.Path.{◌≡◌, refl, sym, ◌∙◌, ap}
use mathlib.Core.List.{List, [], ◌∷◌, ◌++◌, append-nil, append_assoc}
use lib.ListN.{length, get_or, set, drop}
use lib.Seq.{set_comm, sets, sets-eq, drop-drop}
use borrow.Rule.Slice.PartMut.{put_mid}
use Rattle.base_words.specs.Word.{u32, u32s}
use Rattle.base_lists.specs.Loops.{build}
use Rattle.base_lists.proofs.Build.{build_length, build_more, build_same, build_back}
use Rattle.std.specs.List.{between}
use Rattle.std.proofs.lemmas.List.Edits.{length-between, get_or-between}
use Rattle.write_plant.specs.Written.{mark}
use Rattle.write_plant.proofs.Words.{u32s_length, u32s_append}

pub sets_append : (l : List ℕ) (at : ℕ) (xs ys : List ℕ) (to : ℕ) → to ≡ at + length xs → sets l at (xs ++ ys) ≡ sets (sets l at xs) to ys
sets_append l at [] ys to e = ap (λ (k : ℕ). sets l k ys) {x = at} {y = to} (omega arith)
sets_append l at (x ∷ xs) ys to e = sets_append (set l at x) (suc at) xs ys to (omega arith)

-- bytes copied into a part of a slice are stored there
pub part_stored :
    (s : List ℕ) (at to : ℕ) (xs ys : List ℕ) → ys ≡ xs → to ≡ at + length xs → to ≤ length s → put_mid at (to - at) s ys ≡ sets s at xs
part_stored s at to xs ys e f h =
    let long : to - at ≡ length xs = omega arith in
    rw (e, long, sets-eq xs s at (omega arith), drop-drop (length xs) at s, append_assoc)

-- stores before and behind can change places
set_sets : (l : List ℕ) (i x j : ℕ) (ys : List ℕ) → i < j → set (sets l j ys) i x ≡ sets (set l i x) j ys
set_sets l i x j [] h = refl
set_sets l i x j (y ∷ ys) h =
    set_sets (set l j y) i x (suc j) ys (omega arith) ∙ ap (λ (m : List ℕ). sets m (suc j) ys) (set_comm l j i y x (λ e. absurd (omega arith)))

pub sets_comm : (l : List ℕ) (i : ℕ) (xs : List ℕ) (j : ℕ) (ys : List ℕ) → i + length xs ≤ j → sets (sets l j ys) i xs ≡ sets (sets l i xs) j ys
sets_comm l i [] j ys h = refl
sets_comm l i (x ∷ xs) j ys h = ap (λ (m : List ℕ). sets m (suc i) xs) (set_sets l i x j ys (omega arith)) ∙ sets_comm (set l i x) (suc i) xs j ys (omega arith)

pub words_turn :
    (l : List ℕ) (at : ℕ) (f : ℕ → ℕ) (k to : ℕ) (m x : List ℕ) → m ≡ sets l at (u32s (build f k)) → to ≡ at + 4 * k → x ≡ sets m to (u32 (f k))
    → x ≡ sets l at (u32s (build f (k + 1)))
words_turn l at f k to m x e p q =
    q
    ∙ ap (λ (y : List ℕ). sets y to (u32 (f k))) e
    ∙ sym (sets_append l at (u32s (build f k)) (u32 (f k)) to (omega (arith, u32s_length (build f k), build_length f k)))
    ∙ ap (sets l at) (sym (ap u32s (build_more f k) ∙ u32s_append (build f k) (f k ∷ []) ∙ ap (λ (y : List ℕ). u32s (build f k) ++ y) (append-nil (u32 (f k)))))

-- the numbers of a part of a list, built one after the other
pub part_built : (w : List ℕ) (from to n : ℕ) → to ≡ from + n → to ≤ length w → between from to w ≡ build (λ k. get_or w (from + k) 0) n
part_built w from to n e h =
    let size : length (between from to w) ≡ n = omega (arith, length-between w from to h) in
    sym (build_back (between from to w) n 0 size)
    ∙ build_same (λ k. get_or (between from to w) k 0) (λ k. get_or w (from + k) 0) n (λ k less. get_or-between w from to k 0 (omega arith))

pub sets_front : (l xs : List ℕ) → length xs ≤ length l → sets l 0 xs ≡ xs ++ drop (length xs) l
sets_front l xs h = sets-eq xs l 0 (omega arith) ∙ ap (λ (k : ℕ). xs ++ drop k l) {x = 0 + length xs} {y = length xs} (omega arith)

pub trailer_stored :
    (l : List ℕ) (at i n : ℕ) (x y z : List ℕ) → x ≡ sets l at (u32 i) → y ≡ sets x (at + 4) (u32 n) → z ≡ sets y (at + 8) mark
    → z ≡ sets l at (u32s (i ∷ n ∷ []) ++ mark)
trailer_stored l at i n x y z ex ey ez =
    ez
    ∙ ap (λ (m : List ℕ). sets m (at + 8) mark)
    (ey ∙ ap (λ (m : List ℕ). sets m (at + 4) (u32 n)) ex ∙ sym (sets_append l at (u32 i) (u32 n) (at + 4) refl))
    ∙ sym (sets_append l at (u32 i ++ u32 n) mark (at + 8) refl)
