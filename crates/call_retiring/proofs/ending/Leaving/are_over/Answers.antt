-- `are_over` meets its contract: the rule of the last point is looked up first, then those of the uses.
use Rattle.std.proofs.Common.{◌+◌, ◌-◌, arith}
use Rattle.spec_plain.specs.Plain.{tray_gap, all_end_by}
use Rattle.part_lines.specs.ArrayLists.{lines_of}
use Rattle.part_boardwords.specs.Words.{word_in, lines_read}
use Rattle.call_retiring.proofs.Ended.{last_late, last_over}
use Rattle.call_retiring.proofs.ending.Leaving.are_over.Goals as goal

pub returns-then-self-last : goal.returns-then-self-last
returns-then-self-last c =
    let L = c.args.self in last_late L.table.now L.clock (L.f + L.m - 1) (tray_gap L.settings) _ (omega arith)

pub returns : goal.returns
returns c =
    let L = c.args.self in
    last_over L.table.now L.clock (L.f + L.m - 1) (tray_gap L.settings)
    (all_end_by L.settings L.clock L.f L.m (lines_of (lines_read (word_in c.args.w.now)))) c.lines_end.result c.lines_end.ensures (omega arith)
