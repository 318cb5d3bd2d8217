-- `read_durations`: an offer that was read has at most 8 steps; one step more each time.
use mathlib.Core.Path.{◌≡◌, refl, ◌∙◌}
use native.Mathlib.Omega.{arith}
use lib.ListN.{length-set}
use Rattle.std.proofs.lemmas.List.{take-append-le}
use borrow.Author.Rules.{rules}
use Rattle.read_offer.proofs.Steps.{first_start}
use Rattle.spec_rulebook.specs.Reading.{step_of, steps_from}
use Rattle.part_offered.proofs.StepLaws.{steps_next, steps_done}
use Rattle.part_offered.proofs.read_durations.Goals as goal

pub loop-k-init : goal.loop-k-init
unfolding steps_from
loop-k-init c = record { there = first_start _ _; steps = refl; long = search rules }

pub loop-k-preserved : goal.loop-k-preserved
loop-k-preserved c =
    let new = c.new-step.ensures in
    let L = c.loop-k in
    let is : c.durations.result ≡ step_of c.args.offer.plant.bytes.now c.args.offer.bytes.now L.k =
    cc (c.durations.ensures, new.plant, new.offer, new.number) in
    record {
      there = cc (c.end-at.ensures, new.plant, new.offer, new.number);
      steps = steps_next _ _ _ _ _ L.invariant.steps (omega arith) is;
      long = simp length-set L.invariant.long;
    }

pub returns : goal.returns
returns c =
    take-append-le _ _ _ (omega (arith, c.loop-k.invariant.long))
    ∙ steps_done _ _ c.loop-k.k _ _ c.loop-k.invariant.steps (omega (arith, c.loop-k.invariant.long)) c.step_count-count.ensures.0
