-- A list that was written to from p on and before q: the laws of `rewritten`. A loop starts with `rewritten_none`, makes its
-- turn by `store` (or by `rewritten_more`, where a turn writes several places), reads what it has not reached yet by `ahead`, and ends
-- with `done`.
--   rewritten_length, _in, _below, _from   the elements: f from p on and before q, those of l below p and from q on
--   rewritten_is                        the list that has these elements is the rewritten one
--   rewritten_same                      another f that gives the same from p on and before q
--   rewritten_none                      nothing is written yet
--   rewritten_more                      a list m that was written to before q, and x, which is m but for f from q on and before r
--   store, ahead, done                  of a list m that is known to be a rewritten one, as a loop's invariant says
--   rewritten_whole                     all places are written
use mathlib.Core.Bool.{Bool, true, false, cond, ◌&&◌}
use mathlib.Core.List.{List}
use mathlib.Core.Path.{◌≡◌, refl, sym, ◌∙◌}
use Prim.Native.Nat.{ℕ, ◌+◌, ◌≤◌, ◌<◌}
use native.Mathlib.Decide.{dec_lt}
use native.Mathlib.Omega.{arith}
use lib.Dec.{leb, ltb}
use lib.ListN.{length, get_or, set, length-set, get_or-eq_default}
use lib.Seq.{ext_get_or, get_or-set_same, get_or-set_other}
use borrow.Author.Tests.{lt-ltb, le-ltb, le-leb, lt-leb}
use Rattle.base_lists.specs.Loops.{build, rewritten}
use Rattle.base_lists.proofs.Build.{build_length, build_at, build_past}

module _ (f : ℕ → ℕ) (l : List ℕ) (p q : ℕ) where
  pub rewritten_length : length (rewritten f l p q) ≡ length l
  unfolding rewritten
  rewritten_length = build_length _ _

  pub rewritten_in : (k : ℕ) → p ≤ k → k < q → k < length l → get_or (rewritten f l p q) k 0 ≡ f k
  unfolding rewritten
  rewritten_in k lo hi h = build_at _ _ k 0 h ∙ rw (le-leb p k lo, lt-ltb k q hi)

  -- where nothing is written, inside the list and past its end
  rewritten_out : (k : ℕ) → (leb p k && ltb k q) ≡ false → get_or (rewritten f l p q) k 0 ≡ get_or l k 0
  unfolding rewritten
  rewritten_out k e = go (dec_lt k (length l))
    where
      go : Dec (k < length l) → get_or (build (λ k. cond (leb p k && ltb k q) (f k) (get_or l k 0)) (length l)) k 0 ≡ get_or l k 0
      go (yes h) = build_at _ _ k 0 h ∙ rw e
      go (no h) = build_past _ _ k 0 (omega arith) ∙ sym (get_or-eq_default l 0 {n = k} (omega arith))

  pub rewritten_below : (k : ℕ) → k < p → get_or (rewritten f l p q) k 0 ≡ get_or l k 0
  rewritten_below k h = rewritten_out k (rw (lt-leb p k h))

  pub rewritten_from : (k : ℕ) → q ≤ k → get_or (rewritten f l p q) k 0 ≡ get_or l k 0
  rewritten_from k h = rewritten_out k (and_false (leb p k) (le-ltb k q h))
    where
      and_false : (a : Bool) {b : Bool} → b ≡ false → (a && b) ≡ false
      and_false true e = e
      and_false false e = refl

pub rewritten_is :
    (f : ℕ → ℕ) (l m : List ℕ) (p q : ℕ) → length m ≡ length l → ((k : ℕ) → p ≤ k → k < q → k < length l → get_or m k 0 ≡ f k)
    → ((k : ℕ) → k < p → get_or m k 0 ≡ get_or l k 0) → ((k : ℕ) → q ≤ k → get_or m k 0 ≡ get_or l k 0) → m ≡ rewritten f l p q
rewritten_is f l m p q e inside below from =
    ext_get_or 0 m (rewritten f l p q) (e ∙ sym (rewritten_length f l p q)) (λ k h. go k (omega arith) (dec_lt k p) (dec_lt k q))
  where
    go : (k : ℕ) → k < length l → Dec (k < p) → Dec (k < q) → get_or m k 0 ≡ get_or (rewritten f l p q) k 0
    go k h (yes lt) d = below k lt ∙ sym (rewritten_below f l p q k lt)
    go k h (no ge) (yes lt) = inside k (omega arith) lt h ∙ sym (rewritten_in f l p q k (omega arith) lt h)
    go k h (no ge) (no past) = from k (omega arith) ∙ sym (rewritten_from f l p q k (omega arith))

pub rewritten_same :
    (f g : ℕ → ℕ) (l : List ℕ) (p q : ℕ) → ((k : ℕ) → p ≤ k → k < q → f k ≡ g k) → rewritten f l p q ≡ rewritten g l p q
rewritten_same f g l p q same =
    rewritten_is g l (rewritten f l p q) p q (rewritten_length f l p q) (λ k lo hi h. rewritten_in f l p q k lo hi h ∙ same k lo hi)
    (rewritten_below f l p q) (rewritten_from f l p q)

pub rewritten_none : (f : ℕ → ℕ) (l : List ℕ) (p q : ℕ) → q ≤ p → l ≡ rewritten f l p q
rewritten_none f l p q e = rewritten_is f l l p q refl (λ k lo hi h. absurd (omega arith)) (λ k h. refl) (λ k h. refl)

module _ (f : ℕ → ℕ) (l m : List ℕ) (p q : ℕ) (is : m ≡ rewritten f l p q) where
  same_length : length m ≡ length l
  same_length = rw is (rewritten_length f l p q)

  pub ahead : (k : ℕ) → q ≤ k → get_or m k 0 ≡ get_or l k 0
  ahead k h = rw is (rewritten_from f l p q k h)

  pub done : (e : ℕ) → q ≡ e → m ≡ rewritten f l p e
  done e h = rw (← h) is

  pub rewritten_more :
      (x : List ℕ) (r : ℕ) → p ≤ q → q ≤ r → length x ≡ length l → ((k : ℕ) → q ≤ k → k < r → k < length l → get_or x k 0 ≡ f k)
      → ((k : ℕ) → k < q → get_or x k 0 ≡ get_or m k 0) → ((k : ℕ) → r ≤ k → get_or x k 0 ≡ get_or m k 0) → x ≡ rewritten f l p r
  rewritten_more x r lo hi e new below from =
      rewritten_is f l x p r e (λ k a b h. inside k a b h (dec_lt k q))
      (λ k h. below k (omega arith) ∙ rw is (rewritten_below f l p q k h)) (λ k h. from k h ∙ ahead k (omega arith))
    where
      inside : (k : ℕ) → p ≤ k → k < r → k < length l → Dec (k < q) → get_or x k 0 ≡ f k
      inside k a b h (yes lt) = below k lt ∙ rw is (rewritten_in f l p q k a lt h)
      inside k a b h (no ge) = new k (omega arith) b h

  pub store : (v r : ℕ) → p ≤ q → q < length l → q + 1 ≡ r → v ≡ f q → set m q v ≡ rewritten f l p r
  store v r lo room next e =
      rewritten_more (set m q v) r lo (omega arith) (simp length-set same_length) (λ k a b h. at k (omega arith))
      (λ k h. get_or-set_other m q k v 0 (λ c. omega arith)) (λ k h. get_or-set_other m q k v 0 (λ c. omega arith))
    where
      at : (k : ℕ) → k ≡ q → get_or (set m q v) k 0 ≡ f k
      at k s = rw s (get_or-set_same m q v 0 (rw same_length room) ∙ e)

pub rewritten_whole : (f : ℕ → ℕ) (l : List ℕ) (n : ℕ) → length l ≡ n → rewritten f l 0 n ≡ build f n
rewritten_whole f l n e =
    sym (ext_get_or 0 (build f n) (rewritten f l 0 n) (build_length f n ∙ sym (rewritten_length f l 0 n ∙ e)) (λ k h. at k (omega (arith, build_length f n))))
  where
    at : (k : ℕ) → k < n → get_or (build f n) k 0 ≡ get_or (rewritten f l 0 n) k 0
    at k h = build_at f n k 0 h ∙ sym (rewritten_in f l 0 n k (omega arith) h (omega arith))
