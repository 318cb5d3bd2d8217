-- The whole run is the rest of the run from here (`Going`), at each turn; so an early stop costs nothing.
use Rattle.part_lines.specs.ArrayLists.{rules_of}
use Rattle.part_boardwords.specs.Words.{lines_in}
use Rattle.part_drafts.proofs.PlaceLaws.{Going}
use Rattle.part_drafts.proofs.placing.place_all.Given as goal

abbrev pub invariant-loop-k : goal.invariant-loop-k
invariant-loop-k l = Going l.settings l.first l.allocations.list.now (lines_in l.w) (rules_of l.initial.rules) l.k l.rules
