-- The hex of the bytes passed is written.
use Rattle.std.specs.Fmt.{HasWritten, IsPlainFormatter}
use Rattle.log_text.specs.Hex.{encoded_to}
use Rattle.log_text.proofs.hexadecimal.HexDisplay.fmt.Given as goal

abbrev pub invariant-loop-b : goal.invariant-loop-b
invariant-loop-b g l =
    IsPlainFormatter l.initial.f → HasWritten g.W.Write.write_str_gives l.initial.f (encoded_to l.b-items l.b-index) l.f
