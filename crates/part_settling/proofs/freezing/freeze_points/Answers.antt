-- The first point, the next one, and none left.
use Rattle.std.proofs.Common.{[], ◌∷◌}
use Rattle.spec_plain.proofs.Points.{range_below}
use Rattle.part_settling.proofs.Frozen.{begins, goes_on, ends, range_first, range_next, range_over}
use Rattle.part_settling.proofs.freezing.freeze_points.Goals as goal

pub loop-point-init : goal.loop-point-init
loop-point-init c = let p = c.requires in begins _ _ _ _ p.0 p.3 (range_below _ _ _ p.2) (range_first _ _)

pub loop-point-preserved : goal.loop-point-preserved
loop-point-preserved c =
    goes_on c.loop-point.invariant c.requires.1 (_ ∷ []) _ (range_next _ _ c.loop-point-test.true) _ c.freeze_point.ensures

pub returns : goal.returns
returns c = ends c.loop-point.invariant (range_over _ _ c.loop-point-test.false)
