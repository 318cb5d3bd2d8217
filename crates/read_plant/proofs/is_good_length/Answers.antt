-- `is_good_length` meets its contract: one test of the length less one (`one_test`).
use Rattle.std.proofs.Common.{◌≡◌, ℕ, ◌+◌, ◌<◌, ◌%◌, ◌^◌, Bool, true, false, not, ◌||◌, refl, ap, ltb, arith, rules}
use borrow.Author.Tests.{lt-ltb, le-ltb, ltb-true, ltb-false}
use Rattle.read_plant.proofs.is_good_length.Goals as goal

one_test : (len : ℕ) → len < 2 ^ 32 → not (ltb ((len + 4294967295) % 4294967296) 1000000) ≡ (ltb len 1 || ltb 1000000 len)
one_test len h = go (ltb len 1) refl (ltb 1000000 len) refl
  where
    go : (x : Bool) → ltb len 1 ≡ x → (y : Bool) → ltb 1000000 len ≡ y → not (ltb ((len + 4294967295) % 4294967296) 1000000) ≡ (x || y)
    go true p y q = let none = ltb-true len 1 p in ap not (le-ltb _ 1000000 (omega (arith, none)))
    go false p true q = let over = ltb-true 1000000 len q in ap not (le-ltb _ 1000000 (omega (arith, over)))
    go false p false q = let some = ltb-false len 1 p in let most = ltb-false 1000000 len q in ap not (lt-ltb _ 1000000 (omega (arith, some, most)))

pub returns : goal.returns
returns c = one_test c.args.len (search rules)
