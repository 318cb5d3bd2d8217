-- Each point.
use Rattle.std.proofs.Common.{ℕ, ◌≡◌, ◌+◌, ◌*◌, true, false, refl, ◌∙◌, arith, rules}
use lib.Dec.{leb}
use mathlib.Core.Bool.{Bool, ◌&&◌}
use borrow.Author.Tests.{tests}
use Rattle.std.proofs.lemmas.Iterator.{cases_from_all, YieldsList-from_range}
use Rattle.base_lists.proofs.Iterators.{all_ranged}
use Rattle.part_gaptest.specs.Test.{in_windows}
use lib.ListN.{get_or}
use Rattle.spec_stn.specs.Table.{bias}
use Rattle.base_lists.proofs.AllBelow.{all_below_same}
use Rattle.part_gaps.proofs.Overlaid.{origin_row, origin_column}
use Rattle.part_gaptest.proofs.testing.in_windows.Goals as goal

pub returns : goal.returns
unfolding in_windows
returns c =
    let A = c.args in
    let f : ℕ → Bool = λ i. leb (get_or A.t.now (i * 65) 0) bias && leb (get_or A.t.now i 0) (bias + A.horizon) in
    all_ranged f c.args.n _
    (cases_from_all _ _ _ (λ i. f i ≡ true) (λ i. f i ≡ false) c.all.ensures.ran (YieldsList-from_range 0 c.args.n c.args.n refl (omega arith))
    (λ x q k. search (rules, tests)) (λ x q k. search (rules, tests)))
    ∙ all_below_same f _ A.n (λ i h. rw (origin_column A.t.now i, origin_row A.t.now i))
