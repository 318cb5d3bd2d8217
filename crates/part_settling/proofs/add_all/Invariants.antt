-- The rules before the one at hand are added.
use Rattle.std.proofs.Common.{drop}
use Rattle.part_settling.proofs.Adding.{Adding}
use Rattle.part_settling.proofs.add_all.Given as goal

abbrev pub invariant-loop-rule : goal.invariant-loop-rule
invariant-loop-rule l = Adding l.fn.t l.n l.fn.rules l.t (drop l.rule-index l.fn.rules)
