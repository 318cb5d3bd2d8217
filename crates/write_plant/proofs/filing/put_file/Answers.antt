-- `put_file` meets its contract: records with their index, and the trailer behind.
use Rattle.std.proofs.Common.{arith}
use Rattle.write_plant.proofs.LentLaws.{lent_few, file_stored}
use Rattle.write_plant.proofs.filing.put_file.Goals as goal

-- the index starts far below the largest number
pub put_trailer-requires : goal.put_trailer-requires
put_trailer-requires c =
    let A = c.args in (omega arith, omega (arith, lent_few A.w.now A.count c.requires.1, c.requires.3), omega arith)

pub returns : goal.returns
returns c =
    file_stored c.args.w.now c.args.s.now c.args.count c.args.index _ _ c.requires.3 c.put_records.ensures c.put_trailer.ensures
