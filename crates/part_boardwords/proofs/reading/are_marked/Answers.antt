use Rattle.std.proofs.Common.{arith, ◌≡◌}
use Rattle.base_lists.proofs.AllBelow.{all_below_none, all_below_next}
use Rattle.part_boardwords.specs.Words.{all_marked}
use Rattle.part_boardwords.proofs.reading.are_marked.Goals as goal

pub loop-k-init : goal.loop-k-init
loop-k-init c = all_below_none _

pub loop-k-preserved : goal.loop-k-preserved
loop-k-preserved c = all_below_next _ c.loop-k.k c.loop-k.ok _ c.loop-k.invariant c.is_marked-ok.ensures

pub returns : goal.returns
unfolding all_marked
returns c = let e : c.loop-k.k ≡ 16 = omega arith in rw e at c.loop-k.invariant
