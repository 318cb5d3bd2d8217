-- `used_from`: the fields are those of the plain machine's use, whose definition opens here.
use mathlib.Core.Path.{refl}
use Rattle.spec_plain.specs.Plain.{used_from}
use Rattle.part_allocations.proofs.using.used_from.Goals as goal

pub returns : goal.returns
unfolding used_from
returns c = refl
