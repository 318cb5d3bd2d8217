-- Clause by clause, in the order of the definition.
use Rattle.std.proofs.Common.{arith}
use Rattle.std.proofs.lemmas.Grind.{common_steps}
use Rattle.part_sound.specs.Sound.{sized_jobs, clauses_kept}
use Rattle.part_sound.proofs.are_others_kept.Goals as goal

pub returns-then-is_gap_table : goal.returns-then-is_gap_table
unfolding sized_jobs clauses_kept
returns-then-is_gap_table c = grind (arith, common_steps)

pub returns-else-is_gap_table : goal.returns-else-is_gap_table
unfolding sized_jobs clauses_kept
returns-else-is_gap_table c = grind (arith, common_steps)
