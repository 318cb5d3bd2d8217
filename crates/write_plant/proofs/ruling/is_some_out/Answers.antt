-- `is_some_out` meets its contract: each allocation.
use Rattle.std.proofs.Common.{ℕ, ◌≡◌, ◌+◌, ◌*◌, true, false, refl, arith, rules}
use borrow.Author.Tests.{tests}
use Rattle.std.proofs.lemmas.Iterator.{cases_from_any, YieldsList-from_range}
use Rattle.write_plant.specs.Written.{AllocationFields, out_of}
use Rattle.write_plant.specs.Lent.{allocation_in}
use Rattle.write_plant.proofs.Measured.{some_ranged}
use Rattle.write_plant.proofs.ruling.is_some_out.Goals as goal

pub returns : goal.returns
returns c =
    let f : ℕ → AllocationFields = λ i. allocation_in c.args.w.now (c.args.at + 3 * i) in
    some_ranged f c.args.n _
    (cases_from_any _ _ _ (λ i. out_of (f i) ≡ true) (λ i. out_of (f i) ≡ false) c.any.ensures.ran
    (YieldsList-from_range 0 c.args.n c.args.n refl (omega arith))
    (λ x q k. search (rules, tests)) (λ x q k. search (rules, tests)))
