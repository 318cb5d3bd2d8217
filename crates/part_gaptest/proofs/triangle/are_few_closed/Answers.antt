-- Each row.
use Rattle.std.proofs.Common.{ℕ, ◌≡◌, true, false, refl, arith, rules}
use mathlib.Core.Bool.{Bool}
use borrow.Author.Tests.{tests}
use Rattle.std.proofs.lemmas.Iterator.{cases_from_all, YieldsList-from_range}
use Rattle.base_lists.proofs.Iterators.{all_ranged}
use Rattle.part_gaptest.specs.Test.{row_holds, is_closed}
use Rattle.part_gaptest.proofs.triangle.are_few_closed.Goals as goal

pub returns : goal.returns
unfolding is_closed
returns c =
    let A = c.args in
    let f : ℕ → Bool = row_holds A.t.now A.n in
    all_ranged f c.args.n _
    (cases_from_all _ _ _ (λ i. f i ≡ true) (λ i. f i ≡ false) c.all.ensures.ran (YieldsList-from_range 0 c.args.n c.args.n refl (omega arith))
    (λ x q k. search (rules, tests)) (λ x q k. search (rules, tests)))
