-- After `action` turns the records of the first actions and their starts are stored, and `at` is where the records end.
use Rattle.std.proofs.Common.{◌≡◌, ◌≤◌, ◌*◌, length}
use Rattle.std.proofs.lemmas.List.Edits.{sets}
use Rattle.base_words.specs.Word.{u32s}
use Rattle.base_lists.specs.Loops.{build}
use Rattle.write_plant.specs.Parts.{lent_records}
use Rattle.write_plant.proofs.filing.put_records.Given as goal

abbrev pub invariant-loop-action : goal.invariant-loop-action
invariant-loop-action l = record {
  at : l.at ≡ length (lent_records l.w l.action);
  stored : l.s
      ≡ sets (sets l.initial.s 0 (lent_records l.w l.action)) l.index (u32s (build (λ a. length (lent_records l.w a)) l.action));
  few : l.at ≤ 76 * l.action;
}
