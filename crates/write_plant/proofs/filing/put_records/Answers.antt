-- `put_records` meets its contract: starts and ends stay far below the largest number, and a record fits before the index, since all of them do.
use Rattle.std.proofs.Common.{◌≡◌, ℕ, ◌+◌, ◌≤◌, ◌*◌, length, get_or, refl, sym, ◌∙◌, ap, arith}
use Rattle.std.proofs.lemmas.List.Edits.{sets}
use Rattle.base_words.specs.Word.{u32s}
use Rattle.base_lists.specs.Loops.{build}
use Rattle.write_plant.specs.Parts.{lent_records}
use Rattle.write_plant.proofs.LentLaws.{lent_none, lent_longer, lent_most, records_turn}
use Rattle.write_plant.proofs.filing.put_records.Goals as goal
use Rattle.write_plant.proofs.filing.put_records.Goals.{In-loop-action}

few : (c : In-loop-action) → get_or c.args.w.now (19 * c.loop-action.action + 6) 0 ≤ 4
few c = c.requires.1 c.loop-action.action (omega arith)

fits : (c : In-loop-action) → length (lent_records c.args.w.now (c.loop-action.action + 1)) ≤ c.args.index
fits c = omega (arith, lent_most c.args.w.now (c.loop-action.action + 1) c.args.count (omega arith))

pub loop-action-init : goal.loop-action-init
unfolding build
loop-action-init c =
    let none = lent_none c.args.w.now in
    record { at = sym (ap length none); stored = sym (ap (sets c.args.s.now 0) none); few = omega arith }

pub put_record-requires : goal.put_record-requires
put_record-requires c =
    let i = (goal.at.put_record-requires c).In-loop-action in
    (omega (arith, lent_longer c.args.w.now c.loop-action.action, fits i, c.loop-action.invariant.at), omega arith, refl, omega (arith, few i))

pub overflow_cast-at : goal.overflow_cast-at
overflow_cast-at c = omega arith

pub overflow_add-at-in-loop-action : goal.overflow_add-at-in-loop-action
overflow_add-at-in-loop-action c = omega (arith, few (goal.at.overflow_add-at-in-loop-action c).In-loop-action)

pub loop-action-preserved : goal.loop-action-preserved
loop-action-preserved c =
    let i = (goal.at.loop-action-preserved c).In-loop-action in
    let A = c.args in
    let L = c.loop-action in record {
      at = omega (arith, lent_longer A.w.now L.action, L.invariant.at);
      stored =
          records_turn A.w.now A.s.now A.index L.action L.at _ L.s _ _ L.invariant.stored L.invariant.at refl (fits i)
          c.put_record.ensures c.put_word.ensures;
      few = omega (arith, few i);
    }

pub returns : goal.returns
returns c =
    let A = c.args in
    let end : c.loop-action.action ≡ A.count = omega arith in
    c.loop-action.invariant.stored
    ∙ ap (λ (k : ℕ). sets (sets A.s.now 0 (lent_records A.w.now k)) A.index (u32s (build (λ a. length (lent_records A.w.now a)) k))) end
