-- The uses behind the place are moved up, the use is stored at it, and the count is one more.
use Rattle.std.proofs.Common.{refl}
use Rattle.part_boardwords.specs.Words.{word_in}
use Rattle.part_linewords.proofs.InsertLaws.{line_inserted, beside_line}
use Rattle.part_linewords.proofs.inserting.insert.Goals as goal

pub returns : goal.returns
returns c =
    let A = c.args in
    let p = c.requires.at_in_bounds in
    let W = A.w.now in
    let n = word_in W A.at in
    let up = c.move_uses_up.ensures in
    let there = c.write_use.ensures in
    record {
      line = line_inserted W _ _ A.at A.place n A.u p.0 p.1 p.2 up there refl c.requires.tidy;
      others = beside_line W _ _ A.at A.place n A.u p.0 p.1 p.2 up there;
    }
