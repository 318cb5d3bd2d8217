-- `is_bad_duration` meets its contract: the longest is too long, or it is not above the shortest less one (`one_test`).
use Rattle.std.proofs.Common.{◌≡◌, ℕ, ◌+◌, ◌≤◌, ◌<◌, ◌%◌, ◌^◌, Bool, true, false, ◌||◌, refl, ltb, arith, rules}
use lib.Dec.{leb}
use mathlib.Core.Bool.{or-true}
use borrow.Author.Tests.{lt-ltb, le-ltb, le-leb, lt-leb, ltb-true, ltb-false}
use Rattle.read_plant.specs.Plant.{bad_duration}
use Rattle.read_plant.proofs.is_bad_duration.Goals as goal

one_test : (short long : ℕ) → short < 2 ^ 32 → long ≤ 1000000 → leb long ((short + 4294967295) % 4294967296) ≡ bad_duration short long
unfolding bad_duration
one_test short long h most = rw (le-ltb 1000000 long most) (go (ltb short 1) refl (ltb long short) refl)
  where
    go : (x : Bool) → ltb short 1 ≡ x → (y : Bool) → ltb long short ≡ y → leb long ((short + 4294967295) % 4294967296) ≡ (x || (y || false))
    go true p y q = let none = ltb-true short 1 p in le-leb long _ (omega (arith, none))
    go false p true q = let some = ltb-false short 1 p in let under = ltb-true long short q in le-leb long _ (omega (arith, some, under))
    go false p false q = let some = ltb-false short 1 p in let order = ltb-false long short q in lt-leb long _ (omega (arith, some, order))

pub returns-then-past : goal.returns-then-past
unfolding bad_duration
returns-then-past c = simp (lt-ltb _ _ c.if-past.true, or-true)

pub returns-else-past : goal.returns-else-past
returns-else-past c = one_test c.args.short c.args.long (search rules) c.if-past.false
