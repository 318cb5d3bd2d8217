-- `Plant::read` meets its contract: 1 for each of its reasons, 2, what the records come to, or a good plant.
use Rattle.std.proofs.Common.{◌∙◌, sym}
use Rattle.std.proofs.lemmas.Result.{err_from_is_err_and}
use Rattle.read_plant.proofs.Good.{too_short, unmarked, bad_layout_lem, on_to_records, layout_right}
use Rattle.read_plant.proofs.file.Plant.read.Goals as goal
use Rattle.read_plant.proofs.file.Plant.read.Goals.{then-short-via-then-short, then-short-via-else-short+then-not-is_marked}

pub returns-then-short-clause-ruling : goal.returns-then-short-clause-ruling
returns-then-short-clause-ruling c =
    elim c.then-short.branch [
      | then-short-via-then-short w ↦ too_short _ w.if-short.true
      | then-short-via-else-short+then-not-is_marked w ↦
          unmarked _ _ w.if-short.false w.is_marked.ensures w.if-not-is_marked.true
    ]

pub returns-then-is_bad_layout-clause-ruling : goal.returns-then-is_bad_layout-clause-ruling
returns-then-is_bad_layout-clause-ruling c =
    bad_layout_lem _ _ _ c.if-short.false c.is_marked.ensures c.read_trailer-trailer.ensures.0 c.if-not-is_marked.false
    (sym c.is_bad_layout.ensures ∙ c.if-is_bad_layout.true)

pub read_records-requires : goal.read_records-requires
read_records-requires c =
    let right = layout_right _ _ (sym c.is_bad_layout.ensures ∙ c.if-is_bad_layout.false) in
    (c.read_trailer-trailer.ensures.0, right.0, right.1)

pub returns-in_err-read_records-clause-ruling : goal.returns-in_err-read_records-clause-ruling
returns-in_err-read_records-clause-ruling c =
    let records = on_to_records _ _ _ c.if-short.false c.is_marked.ensures c.read_trailer-trailer.ensures.0 c.if-not-is_marked.false
    (sym c.is_bad_layout.ensures ∙ c.if-is_bad_layout.false) in
    let p = err_from_is_err_and c.from_residual.result c.from_residual.ensures.1 in
    rw (p.1, p.2) (c.in_err-read_records.ensures ∙ records)

pub invariant_of-result : goal.invariant_of-result
invariant_of-result c =
    let records = on_to_records _ _ _ c.if-short.false c.is_marked.ensures c.read_trailer-trailer.ensures.0 c.if-not-is_marked.false
    (sym c.is_bad_layout.ensures ∙ c.if-is_bad_layout.false) in
    record {
      good = sym (c.in_ok-read_records.ensures ∙ records);
      trailed = c.read_trailer-trailer.ensures.0;
    }
