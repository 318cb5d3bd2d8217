-- What stays of the first k uses stands at the front, and the words from use k on are as they came (`Thinned`).
use Rattle.std.proofs.Common.{◌≡◌, ◌≤◌, length}
use Rattle.part_linewords.specs.Thinned.{Thinned}
use Rattle.part_linewords.proofs.Thin.{left}
use Rattle.part_linewords.proofs.thinning.stay_uses.Given as goal

abbrev pub invariant-loop-k : goal.invariant-loop-k
invariant-loop-k l = record {
  size : l.next ≡ length (left l.f l.m l.fn.w l.at l.k);
  words : Thinned l.fn.w l.w l.at l.k (left l.f l.m l.fn.w l.at l.k);
  few : l.next ≤ l.k;
}
