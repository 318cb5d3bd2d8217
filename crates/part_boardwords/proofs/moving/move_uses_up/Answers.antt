-- Word k of the part is the one a use before it.
use Rattle.std.proofs.Common.{arith, ◌-◌, ◌∙◌}
use Rattle.part_boardwords.specs.Layout.{use_size}
use Rattle.part_boardwords.proofs.Moved.{moved}
use Rattle.part_boardwords.proofs.moving.move_uses_up.Goals as goal

pub returns : goal.returns
returns c = c.copy_within.ensures.after ∙ moved (λ k. k - use_size) _ _ _ _ _ (omega arith) (omega arith) (omega arith) (λ k lo hi. omega arith)
