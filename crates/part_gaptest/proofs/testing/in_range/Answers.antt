-- The rows of live points, and then all cells past them.
use Rattle.std.proofs.Common.{◌∙◌, sym}
use Rattle.part_gaptest.specs.Test.{in_range}
use Rattle.part_gaptest.proofs.testing.in_range.Goals as goal

pub returns-then-are_rows_in_range : goal.returns-then-are_rows_in_range
unfolding in_range
returns-then-are_rows_in_range c = rw (sym c.are_rows_in_range.ensures ∙ c.if-are_rows_in_range.true) c.is_rest_clear.ensures

pub returns-else-are_rows_in_range : goal.returns-else-are_rows_in_range
unfolding in_range
returns-else-are_rows_in_range c = rw (sym c.are_rows_in_range.ensures ∙ c.if-are_rows_in_range.false) c.if-are_rows_in_range.false
