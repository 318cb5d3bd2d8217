-- Flags: what a loop keeps in a Bool, and what a row of tests comes to.
--   flag_next, flag_end   a loop that goes down a list with `ok &= test`: its invariant is that the flag, and the test of what is left, are
--                         together the test of the whole list
--   first_apart           the flag of all places, split at the first
--   all_each              a test of each element is the test of the whole list
--   fails, passes         a test that is made of clauses, clause by clause: the first that fails is the answer
--   holds, breaks         what `if !r` tells of the test that r is
use Prim.Native.Nat.{ℕ, zero, suc, ◌+◌, ◌<◌}
use mathlib.Core.Path.{◌≡◌, refl, sym, ◌∙◌, ap}
use mathlib.Core.Bool.{Bool, true, false, not, ◌&&◌, and-true, and_assoc}
use mathlib.Core.List.{List, [], ◌∷◌}
use native.Mathlib.Omega.{arith}
use native.Mathlib.Numerals.{add-one}
use lib.ListN.{length, get_or}
use borrow.Author.Tests.{not-true, not-false}
use Rattle.base_lists.specs.Loops.{all_below}
use Rattle.part_sound.specs.Sound.{all_of}

pub flag_next : (ok test rest : Bool) {whole : Bool} → (ok && (test && rest)) ≡ whole → (ok && test && rest) ≡ whole
flag_next ok test rest h = and_assoc ok test rest ∙ h

pub flag_end : (ok : Bool) {whole : Bool} → (ok && true) ≡ whole → ok ≡ whole
flag_end ok h = sym (and-true ok) ∙ h

pub first_apart : (f : ℕ → Bool) (n : ℕ) → all_below f (suc n) ≡ (f 0 && all_below (λ k. f (k + 1)) n)
unfolding all_below
first_apart f zero = sym (and-true (f 0))
first_apart f (suc n) = rw (first_apart f n, add-one n) (and_assoc (f 0) (all_below (λ k. f (k + 1)) n) (f (suc n)))

module _ {A : Type 0} (f : A → Bool) (d : A) where
  pub all_each : (l : List A) (g : ℕ → A) (n : ℕ) → length l ≡ n → ((k : ℕ) → k < n → get_or l k d ≡ g k) → all_below (λ k. f (g k)) n ≡ all_of f l
  unfolding all_below
  all_each [] g n e is = rw (sym e) refl
  all_each (a ∷ l) g n e is =
      rw (sym e)
      (first_apart (λ k. f (g k)) (length l)
      ∙ rw (sym (is 0 (omega arith))) (ap (λ (b : Bool). f a && b)
      (all_each l (λ k. g (k + 1)) (length l) refl (λ k h. ap (λ (i : ℕ). get_or (a ∷ l) i d) (sym (add-one k)) ∙ is (k + 1) (omega arith)))))

pub fails : {a : Bool} (rest : Bool) → a ≡ false → false ≡ (a && rest)
fails rest h = rw h

pub passes : {a rest r : Bool} → a ≡ true → r ≡ rest → r ≡ (a && rest)
passes h e = rw h e

module _ {r test : Bool} (e : r ≡ test) where
  pub holds : not r ≡ false → test ≡ true
  holds h = sym e ∙ not-false r h

  pub breaks : not r ≡ true → test ≡ false
  breaks h = sym e ∙ not-true r h
