-- `read_allocations`: an offer that was read has at most 8 steps of at most 4 allocations; those of one step more each time.
use Prim.Native.Nat.{◌+◌}
use mathlib.Core.Path.{◌≡◌, refl}
use mathlib.Core.List.{◌++◌}
use lib.ListN.{take}
use Rattle.read_plant.specs.Plant.{allocation_count}
use native.Mathlib.Omega.{arith}
use Rattle.read_offer.proofs.Steps.{first_start}
use Rattle.spec_rulebook.specs.Reading.{record_of, allocations_of_step, allocations_from}
use Rattle.part_offered.proofs.StepLaws.{puts_next, puts_done}
use Rattle.part_offered.proofs.Sized.{offer_read}
use Rattle.part_offered.proofs.read_allocations.Goals as goal

pub loop-k-init : goal.loop-k-init
unfolding allocations_from
loop-k-init c = record { there = first_start _ _; allocations = refl; few = omega arith }

pub push_step-n-requires : goal.push_step-n-requires
push_step-n-requires c = omega (arith, c.new-step.result.offered.few)

pub loop-k-preserved : goal.loop-k-preserved
loop-k-preserved c =
    let p = c.args.offer.plant.bytes.now in
    let o = c.args.offer.bytes.now in
    let L = c.loop-k in
    let new = c.new-step.ensures in
    let pushed = c.push_step-n in
    let here : take (L.many + pushed.result) pushed.new.held ≡ take L.many L.held ++ allocations_of_step p o L.k 0 pushed.result =
    cc (pushed.ensures.behind, new.plant, new.offer, new.number) in
    let count : pushed.result ≡ allocation_count p (record_of p o L.k) =
    cc (pushed.ensures.number, c.new-step.result.offered.its, new.plant, new.offer, new.number) in
    record {
      there = cc (c.end-at.ensures, new.plant, new.offer, new.number);
      allocations = puts_next _ _ _ _ _ _ L.invariant.allocations here count;
      few = omega (arith, L.invariant.few, pushed.ensures.number, c.new-step.result.offered.few);
    }

pub invariant_of-result : goal.invariant_of-result
invariant_of-result c =
    let all = puts_done _ _ c.loop-k.k _ c.loop-k.invariant.allocations (omega (arith, c.step_count-k-end.ensures.0)) in
    record { read = offer_read _ _ c.args.offer.plant.good c.args.offer.ruled _ all }

pub returns : goal.returns
returns c = puts_done _ _ c.loop-k.k _ c.loop-k.invariant.allocations (omega (arith, c.step_count-k-end.ensures.0))
