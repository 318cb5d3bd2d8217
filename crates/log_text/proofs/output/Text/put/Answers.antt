-- `copy_from_slice` writes into the part of the memory that has room; `placed_over` says what that is in the whole. Assumes nothing.
use Rattle.std.proofs.Common.{◌+◌, ◌-◌, arith}
use Rattle.log_text.proofs.Place.{placed_over}
use Rattle.log_text.proofs.output.Text.put.Goals as goal

pub returns : goal.returns
returns g c =
    let n = c.min-n.result in
    let at = c.args.self.now.len in
    placed_over c.args.self.now.bytes c.args.s.now _ at at n (at + n - at) (omega arith) (omega arith) (omega arith) c.copy_from_slice.ensures.after
