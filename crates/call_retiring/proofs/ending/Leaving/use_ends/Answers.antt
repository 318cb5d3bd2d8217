-- `use_ends` meets its contract. A use of a point that leaves has its rule looked up in the origin's row.
use Rattle.std.proofs.Common.{ℕ, ◌+◌, sym, ◌∙◌, ap, arith, get_or}
use lib.Dec.{leb}
use Rattle.spec_stn.specs.Table.{bias}
use Rattle.part_lines.proofs.LeavingLaws.{goes_below}
use Rattle.part_gaps.proofs.Overlaid.{origin_row}
use Rattle.call_retiring.proofs.Ended.{ends_stays, ends_goes}
use Rattle.call_retiring.proofs.ending.Leaving.use_ends.Goals as goal

pub returns-then-not-goes : goal.returns-then-not-goes
returns-then-not-goes c =
    let L = c.args.self in ends_stays L.table.now L.settings L.clock L.f L.m c.args.u (sym c.goes.ensures ∙ c.if-not-goes.true)

pub bounds-self-at : goal.bounds-self-at
bounds-self-at c =
    let L = c.args.self in
    omega (arith, goes_below L.f L.m c.args.u.point (sym c.goes.ensures ∙ c.if-not-goes.false), L.reach.size, L.reach.points)

pub overflow_add-result : goal.overflow_add-result
overflow_add-result c =
    let L = c.args.self in
    let latest = L.reach.bounded c.args.u.point (goes_below L.f L.m c.args.u.point (sym c.goes.ensures ∙ c.if-not-goes.false)) in
    omega (arith, origin_row L.table.now c.args.u.point, latest)

pub returns : goal.returns
returns c =
    let L = c.args.self in
    ap (λ (n : ℕ). leb (get_or L.table.now c.args.u.point 0 + n) (bias + L.clock)) c.end_of.ensures
    ∙ ends_goes L.table.now L.settings L.clock L.f L.m c.args.u (sym c.goes.ensures ∙ c.if-not-goes.false)
