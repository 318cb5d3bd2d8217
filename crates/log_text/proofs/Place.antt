-- Laws of writing into a buffer at a place. Assumes nothing.
--   placed          what is written into the part of a buffer from a place on is written into the buffer there
--   placed_over     the same, where that part is no longer than what is written
--   written_none    nothing is written by leaving the buffer as it is
--   written_start   the same, with the place as the code has it
--   written_in_calls   what `write!` writes, in one call after another, is written as a whole
--   written_more    two writings, one after the other, are one of both texts, also where there is no room for all
use Prim.Native.Nat.{ℕ, ◌+◌, ◌-◌, ◌≤◌, ◌<◌, min}
use mathlib.Core.Path.{◌≡◌, refl, sym, ◌∙◌}
use mathlib.Core.Bool.{Bool, true, false}
use mathlib.Core.List.{List, [], ◌∷◌, ◌++◌, append_assoc, append-nil}
use native.Mathlib.Omega.{arith}
use native.Mathlib.Nat.{add_assoc, add-zero}
use lib.Dec.{leb}
use borrow.Author.Tests.{leb-true, leb-false}
use lib.ListN.{length, take, drop, length-append, length-drop, drop_of_length-le}
use lib.Seq.{paste, paste-zero, length-paste, take-paste, drop-paste, take_all, take-length, take-append-le, take-append-add, drop-drop}
use Rattle.std.specs.List.{FoldsTo, concat}
use Rattle.std.specs.Fmt.{WritesInCalls}
use Rattle.log_text.specs.Written.{Written, fitting, start_at}

-- n bytes of s are written into the rest of the buffer, which is then new
pub placed :
    (before s new : List ℕ) (at start n : ℕ) → start ≡ min at (length before) → n ≡ min (length s) (length before - start)
    → new ≡ take n s ++ drop n (take (length before - start) (drop start before))
    → Written before at s (take start before ++ (new ++ drop (length before - start) (drop start before))) (start + n)
unfolding fitting start_at
placed before s new at start n e f q =
    let all : length (drop start before) ≤ length before - start = rw length-drop (omega arith) in
    let whole : take (length before - start) (drop start before) ≡ drop start before = take_all (length before - start) (drop start before) all in
    let none : drop (length before - start) (drop start before) ≡ [] = drop_of_length-le (drop start before) all in
    let made : new ≡ take n s ++ drop n (drop start before) = q ∙ rw whole in
    record {
      place = rw (← e, ← f);
      bytes = rw (← e, ← f, made, none, drop-drop n start before, append-nil, append_assoc);
    }

-- n bytes of s are written into the n places from start on, which are then new
pub placed_over :
    (before s new : List ℕ) (at start n k : ℕ) → start ≡ min at (length before) → n ≡ min (length s) (length before - start)
    → k ≡ n → new ≡ take n s
    → Written before at s (take start before ++ (new ++ drop k (drop start before))) (start + n)
unfolding fitting start_at
placed_over before s new at start n k e f g made =
    record {
      place = rw (← e, ← f);
      bytes = rw (← e, ← f, g, made, drop-drop n start before, append_assoc);
    }

pub written_none : (before : List ℕ) (at : ℕ) → Written before at [] before (start_at before at)
unfolding fitting
written_none before at =
    let none : min 0 (length before - start_at before at) ≡ 0 = omega arith in
    record {
      place = rw (none, add-zero (start_at before at));
      bytes = rw none (paste-zero before (start_at before at) []);
    }

-- the room for two texts: the second has what the first leaves
within : (start x len : ℕ) → start ≤ len → start + min x (len - start) ≤ len
within start x len h = omega arith

room_for_both : (x y start len : ℕ) → start ≤ len → min (x + y) (len - start) ≡ min x (len - start) + min y (len - (start + min x (len - start)))
room_for_both x y start len h = omega arith

-- so all of the first text is there, or nothing of the second
both :
    (s t : List ℕ) (start len : ℕ) (m n : ℕ) → start ≤ len → m ≡ min (length s) (len - start) → n ≡ min (length t) (len - (start + m))
    → take m s ++ take n t ≡ take (m + n) (s ++ t)
both s t start len m n h hm hn = go (leb (length s) (len - start)) refl
  where
    go : (q : Bool) → leb (length s) (len - start) ≡ q → take m s ++ take n t ≡ take (m + n) (s ++ t)
    go true e =
        let l : length s ≤ len - start = leb-true (length s) (len - start) e in
        let w : m ≡ length s = omega arith in
        rw (w, take-length s, take-append-add s t n)
    go false e =
        let l : len - start < length s = leb-false (length s) (len - start) e in
        let w : n ≡ 0 = omega arith in
        let i : m ≤ length s = omega arith in
        rw (w, add-zero m, take-append-le m s t i, append-nil)

-- two pastes, one after the other
pasted :
    (before s t : List ℕ) (start m n : ℕ) → start + m ≤ length before → m ≤ length s → take m s ++ take n t ≡ take (m + n) (s ++ t)
    → paste (paste before start s m) (start + m) t n ≡ paste before start (s ++ t) (m + n)
pasted before s t start m n h short e =
    let i : start ≤ length before = omega arith in
    let front : take (start + m) (paste before start s m) ≡ take start before ++ take m s = take-paste before start s m i short in
    let back : drop (start + m + n) (paste before start s m) ≡ drop (start + (m + n)) before =
    sym (drop-drop n (start + m) (paste before start s m)) ∙ rw (drop-paste before start s m i short, drop-drop n (start + m) before, add_assoc) in
    rw (front, back, append_assoc (take start before) (take m s) (take n t), e)

-- the place of a first text, and the buffer after it
module _ (before s : List ℕ) (at : ℕ) where
  start_within : start_at before at ≤ length before
  unfolding start_at
  start_within = omega arith

  end_within : start_at before at + fitting before at s ≤ length before
  unfolding fitting
  end_within = within (start_at before at) (length s) (length before) start_within

  fitting_within : fitting before at s ≤ length s
  unfolding fitting
  fitting_within = omega arith

  abbrev first_end : ℕ
  first_end = start_at before at + fitting before at s

  abbrev first_after : List ℕ
  first_after = paste before (start_at before at) s (fitting before at s)

  first_long : length first_after ≡ length before
  first_long = length-paste before (start_at before at) s (fitting before at s) end_within fitting_within

  start_again : start_at first_after first_end ≡ first_end
  unfolding start_at
  start_again = rw first_long (omega (arith, end_within))

  fitting_second : (t : List ℕ) → fitting first_after first_end t ≡ min (length t) (length before - first_end)
  unfolding fitting
  fitting_second t = rw (start_again, first_long)

  fitting_first : fitting before at s ≡ min (length s) (length before - start_at before at)
  unfolding fitting
  fitting_first = refl

  room_shared : (t : List ℕ) → fitting before at (s ++ t) ≡ fitting before at s + min (length t) (length before - first_end)
  unfolding fitting
  room_shared t =
      rw (length-append s t)
      (room_for_both (length s) (length t) (start_at before at) (length before) start_within)

  fitting_both : (t : List ℕ) → fitting before at (s ++ t) ≡ fitting before at s + fitting first_after first_end t
  fitting_both t = rw (fitting_second t) (room_shared t)

  both_written :
      (t : List ℕ) → paste first_after first_end t (fitting first_after first_end t) ≡ paste before (start_at before at) (s ++ t) (fitting before at (s ++ t))
  both_written t =
      rw (fitting_both t)
      (pasted before s t (start_at before at) (fitting before at s) (fitting first_after first_end t) end_within fitting_within
      (both s t (start_at before at) (length before) (fitting before at s) (fitting first_after first_end t) start_within fitting_first (fitting_second t)))

pub written_more : (before s mid t after : List ℕ) (at m end : ℕ) → Written before at s mid m → Written mid m t after end → Written before at (s ++ t) after end
written_more before s mid t after at m end a b =
    let c : Written (first_after before s at) (first_end before s at) t after end = rw (a.bytes, a.place) at b in
    record {
      place = c.place ∙ rw (start_again before s at, fitting_both before s at t, add_assoc);
      bytes = c.bytes ∙ rw (start_again before s at) (both_written before s at t);
    }

pub written_start : (before : List ℕ) (at start : ℕ) → start ≡ min at (length before) → Written before at [] before start
unfolding start_at
written_start before at start e = rw e (written_none before at)

-- a text ends within its memory, and it does so behind what was written
written_within : (before s after : List ℕ) (at end : ℕ) → Written before at s after end → end ≤ length after
written_within before s after at end w = rw (w.place, w.bytes, first_long before s at) (end_within before s at)

-- each call of `write_str` writes what it is given
module _ {W : Type 0} (took : W → List ℕ → W → Type 0) (bytes : W → List ℕ) (len : W → ℕ)
    (each : (w : W) (s : List ℕ) (v : W) → took w s v → Written (bytes w) (len w) s (bytes v) (len v)) where
  in_calls : (w : W) (parts : List (List ℕ)) (v : W) → len w ≤ length (bytes w) → FoldsTo took w parts v → Written (bytes w) (len w) (concat parts) (bytes v) (len v)
  in_calls w [] v h c = rw (← c) (written_start (bytes w) (len w) (len w) (omega arith))
  in_calls w (x ∷ xs) v h c =
      let first = each w x c.0 c.1 in
      written_more _ _ _ _ _ _ _ _ first (in_calls c.0 xs v (written_within _ _ _ _ _ first) c.2)

  pub written_in_calls : (w : W) (s : List ℕ) (v : W) → len w ≤ length (bytes w) → WritesInCalls took w s v → Written (bytes w) (len w) s (bytes v) (len v)
  written_in_calls w s v h c = rw (← c.whole) (in_calls w c.parts v h c.calls)
