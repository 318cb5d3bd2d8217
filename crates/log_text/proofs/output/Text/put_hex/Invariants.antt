-- The hex of the bytes passed is written.
use Rattle.log_text.specs.Hex.{encoded_to}
use Rattle.log_text.specs.Written.{Written}
use Rattle.log_text.proofs.output.Text.put_hex.Given as goal

abbrev pub invariant-loop-b : goal.invariant-loop-b
invariant-loop-b g l = Written l.fn.self.bytes l.fn.self.len (encoded_to l.s l.b-index) l.self.bytes l.self.len
