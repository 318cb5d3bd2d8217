-- An array that was made place by place is the list built of its elements. Assumes nothing.
--   filled    an array, by its elements
--   from_fn   the array that `array::from_fn` makes by calls that change nothing they captured
use Prim.Native.Nat.{ℕ, zero, suc, ◌+◌, ◌<◌}
use mathlib.Core.Path.{◌≡◌, sym, ◌∙◌, subst}
use mathlib.Core.List.{List}
use denote.Param.Members.{Mut}
use lib.ListN.{length, get_or}
use lib.Seq.{ext_get_or}
use native.Mathlib.Omega.{arith}
use Rattle.std.specs.Array.{IsFromFnResult, IsFromFnResultFrom}
use Rattle.std.specs.Fn.{Called}
use Rattle.base_lists.specs.Loops.{build}
use Rattle.base_lists.proofs.Build.{build_length, build_at}

pub filled : {A : Type 0} (d : A) (f : ℕ → A) (n : ℕ) (l : List A) → length l ≡ n → ((k : ℕ) → k < n → get_or l k d ≡ f k) → l ≡ build f n
filled d f n l long same = ext_get_or d l (build f n) (long ∙ sym (build_length f n)) (λ k h. same k (omega arith) ∙ sym (build_at f n k d (omega arith)))

module _ {F A : Type 0} (g : Mut F (ℕ × Unit {0}) A) (c : F) (d : A) (f : ℕ → A) (call : (i : ℕ) (y : A) (q : F) → Called g c (i, tt) y q → (q ≡ c) × (y ≡ f i)) where
  each : (l : List A) (i n : ℕ) → IsFromFnResultFrom g c l i n → (k j : ℕ) → k < n → j ≡ i + k → get_or l j d ≡ f j
  each l i zero made k j h e = absurd (omega arith)
  each l i (suc n) made zero j h e =
      let is : j ≡ i = omega arith in
      rw is (made.2.1 d ∙ (call i made.1 made.0 made.3).1)
  each l i (suc n) made (suc k) j h e =
      each l (i + 1) n (subst (λ (q : F). IsFromFnResultFrom g q l (i + 1) n) (call i made.1 made.0 made.3).0 made.4) k j (omega arith) (omega arith)

  pub from_fn : (n : ℕ) (l : List A) → IsFromFnResult g c l n → l ≡ build f n
  from_fn n l made = filled d f n l made.long (λ k h. each l 0 n made.each k k h (omega arith))
