-- `put_record` meets its contract: six numbers, the head, and the numbers of the allocations, one behind the other.
use Rattle.std.proofs.Common.{ℕ, ◌+◌, ◌*◌, List, refl, ◌∙◌, ap, arith}
use Rattle.std.proofs.lemmas.List.Edits.{sets}
use Rattle.base_words.specs.Word.{u32s}
use Rattle.write_plant.proofs.Stored.{part_built}
use Rattle.write_plant.proofs.LentLaws.{record_stored}
use Rattle.write_plant.proofs.filing.put_record.Goals as goal

pub returns : goal.returns
returns c =
    let A = c.args in
    let six = part_built A.w.now A.from (A.from + 6) 6 refl (omega arith) in
    let rest = part_built A.w.now (A.from + 7) (A.from + 7 + 3 * A.n) (3 * A.n) refl (omega arith) in
    record_stored A.w.now A.s.now A.at A.from A.n _ _ _ c.requires.2
    (c.put_words.ensures ∙ ap (λ (l : List ℕ). sets A.s.now A.at (u32s l)) six) c.put_head.ensures
    (c.put_words-2.ensures ∙ ap (λ (l : List ℕ). sets c.put_head.new.s (A.at + 28) (u32s l)) rest)
