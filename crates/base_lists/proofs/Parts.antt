-- What the library's calls write to a part of a slice, as `rewritten`. After a write to `s[a..e]` a goal shows s as `put_mid a (e - a) xs ys`,
-- with xs what s held and ys what the part holds now, and after one to `s[..k]` as `ys ++ drop k xs`.
--   part_written       whatever the call: ys are the elements of f from a on
--   part_filled        `s[a..e].fill(v)`;  front_filled `s[..k].fill(v)`. Each takes the call's clause `after` as it is
--   part_copied        `s[a..e].copy_from_slice(m)`;  part_copied_from `s[a..e].copy_from_slice(&m[p..p + n])`
--   front_copied       `s[..k].copy_from_slice(&m[..k])`: each cell to its own place
--   cells_moved        `s.copy_within(i..i + n, at)`
--   first_built        `&m[..n]`, as a list that was built
use mathlib.Core.List.{List, ◌++◌, append_assoc}
use mathlib.Core.Path.{◌≡◌, refl, sym, ◌∙◌, ap}
use Prim.Native.Nat.{ℕ, ◌+◌, ◌-◌, ◌≤◌, ◌<◌}
use native.Mathlib.Omega.{arith}
use lib.ListN.{length, get_or, take, drop, replicate, get_or-append, length-append, length-drop, get_or-replicate, length-replicate}
use lib.Seq.{length-take-le, get_or-take, get_or-drop, get_or-append_right, drop-drop, ext_get_or, paste}
use borrow.Rule.Slice.PartMut.{mid_of, put_mid}
use Rattle.base_lists.specs.Loops.{build, rewritten}
use Rattle.base_lists.proofs.Build.{build_length, build_at}
use Rattle.base_lists.proofs.Rewritten.{rewritten_is}

pub part_written :
    (f : ℕ → ℕ) (xs ys : List ℕ) (a k q : ℕ) → a + k ≤ length xs → length ys ≡ k → q ≡ a + k → ((i : ℕ) → i < k → get_or ys i 0 ≡ f (a + i))
    → put_mid a k xs ys ≡ rewritten f xs a q
part_written f xs ys a k q room len end is =
    rewritten_is f xs (put_mid a k xs ys) a q whole inside below from
  where
    front : length (take a xs) ≡ a
    front = length-take-le a xs (omega arith)

    whole : length (put_mid a k xs ys) ≡ length xs
    whole =
        omega (
          arith,
          front,
          length-append (take a xs) (ys ++ drop k (drop a xs)),
          length-append ys (drop k (drop a xs)),
          length-drop k (drop a xs),
          length-drop a xs,
        )

    behind : (j : ℕ) → a ≤ j → get_or (put_mid a k xs ys) j 0 ≡ get_or (ys ++ drop k (drop a xs)) (j - a) 0
    behind j lo =
        get_or-append_right (take a xs) (ys ++ drop k (drop a xs)) j 0 (omega (arith, front))
        ∙ ap (λ (i : ℕ). get_or (ys ++ drop k (drop a xs)) (j - i) 0) front

    inside : (j : ℕ) → a ≤ j → j < q → j < length xs → get_or (put_mid a k xs ys) j 0 ≡ f j
    inside j lo hi h =
        behind j lo ∙ get_or-append ys (drop k (drop a xs)) 0 (j - a) (omega arith) ∙ is (j - a) (omega arith) ∙ ap f {x = a + (j - a)} {y = j} (omega arith)

    below : (j : ℕ) → j < a → get_or (put_mid a k xs ys) j 0 ≡ get_or xs j 0
    below j h = get_or-append (take a xs) (ys ++ drop k (drop a xs)) 0 j (omega (arith, front)) ∙ get_or-take a xs j 0 h

    from : (j : ℕ) → q ≤ j → get_or (put_mid a k xs ys) j 0 ≡ get_or xs j 0
    from j h =
        behind j (omega arith)
        ∙ get_or-append_right ys (drop k (drop a xs)) (j - a) 0 (omega arith)
        ∙ get_or-drop k (drop a xs) (j - a - length ys) 0
        ∙ get_or-drop a xs (k + (j - a - length ys)) 0
        ∙ ap (λ (i : ℕ). get_or xs i 0) {x = a + (k + (j - a - length ys))} {y = j} (omega arith)

pub part_filled :
    (v : ℕ) (xs ys : List ℕ) (a k q : ℕ) → (((y : ℕ) → y ≡ v → y ≡ v) → ys ≡ replicate (length (mid_of a k xs)) v) → a + k ≤ length xs → q ≡ a + k
    → put_mid a k xs ys ≡ rewritten (λ i. v) xs a q
part_filled v xs ys a k q is room end =
    part_written (λ i. v) xs ys a k q room (ap length filled ∙ length-replicate (length (mid_of a k xs)) v ∙ many) end
    (λ i h. ap (λ (l : List ℕ). get_or l i 0) filled ∙ get_or-replicate (length (mid_of a k xs)) i v 0 (omega (arith, many)))
  where
    filled : ys ≡ replicate (length (mid_of a k xs)) v
    filled = is (λ y e. e)

    many : length (mid_of a k xs) ≡ k
    many = length-take-le k (drop a xs) (omega (arith, length-drop a xs))

pub front_filled :
    (v : ℕ) (xs ys : List ℕ) (k : ℕ) → (((y : ℕ) → y ≡ v → y ≡ v) → ys ≡ replicate (length (take k xs)) v) → k ≤ length xs
    → ys ++ drop k xs ≡ rewritten (λ i. v) xs 0 k
front_filled v xs ys k is room = part_filled v xs ys 0 k k is (omega arith) (omega arith)

pub part_copied_from :
    (m xs ys : List ℕ) (p n a k q : ℕ) → ys ≡ take n (drop p m) → p + n ≤ length m → a + k ≤ length xs → n ≡ k → q ≡ a + k
    → put_mid a k xs ys ≡ rewritten (λ i. get_or m (p + (i - a)) 0) xs a q
part_copied_from m xs ys p n a k q is there room many end =
    part_written (λ i. get_or m (p + (i - a)) 0) xs ys a k q room
    (ap length is ∙ length-take-le n (drop p m) (omega (arith, length-drop p m)) ∙ many) end
    (λ i h. ap (λ (l : List ℕ). get_or l i 0) is ∙ get_or-take n (drop p m) i 0 (omega arith) ∙ get_or-drop p m i 0
    ∙ ap (λ (j : ℕ). get_or m (p + j) 0) {x = i} {y = a + i - a} (omega arith))

pub part_copied :
    (m xs ys : List ℕ) (a k q : ℕ) → ys ≡ m → length m ≡ k → a + k ≤ length xs → q ≡ a + k → put_mid a k xs ys ≡ rewritten (λ i. get_or m (i - a) 0) xs a q
part_copied m xs ys a k q is long room end =
    part_written (λ i. get_or m (i - a) 0) xs ys a k q room (ap length is ∙ long) end
    (λ i h. ap (λ (l : List ℕ). get_or l i 0) is ∙ ap (λ (j : ℕ). get_or m j 0) {x = i} {y = a + i - a} (omega arith))

pub front_copied :
    (m xs ys : List ℕ) (k : ℕ) → ys ≡ take k m → k ≤ length m → k ≤ length xs → ys ++ drop k xs ≡ rewritten (λ i. get_or m i 0) xs 0 k
front_copied m xs ys k is there room =
    part_written (λ i. get_or m i 0) xs ys 0 k k (omega arith) (ap length is ∙ length-take-le k m there) (omega arith)
    (λ i h. ap (λ (l : List ℕ). get_or l i 0) is ∙ get_or-take k m i 0 h ∙ ap (λ (j : ℕ). get_or m j 0) {x = i} {y = 0 + i} (omega arith))

pub cells_moved :
    (xs : List ℕ) (i at n q : ℕ) → i + n ≤ length xs → at + n ≤ length xs → q ≡ at + n
    → paste xs at (drop i xs) n ≡ rewritten (λ k. get_or xs (i + (k - at)) 0) xs at q
cells_moved xs i at n q there room end =
    append_assoc (take at xs) (take n (drop i xs)) (drop (at + n) xs)
    ∙ ap (λ (l : List ℕ). take at xs ++ (take n (drop i xs) ++ l)) (sym (drop-drop n at xs))
    ∙ part_copied_from xs xs (take n (drop i xs)) i n at n q refl there room refl end

pub first_built : (m : List ℕ) (n : ℕ) → n ≤ length m → take n m ≡ build (λ k. get_or m k 0) n
first_built m n there =
    let len = length-take-le n m there in
    ext_get_or 0 (take n m) (build (λ k. get_or m k 0) n) (len ∙ sym (build_length (λ k. get_or m k 0) n))
    (λ k h. get_or-take n m k 0 (omega (arith, len)) ∙ sym (build_at (λ i. get_or m i 0) n k 0 (omega (arith, len))))
