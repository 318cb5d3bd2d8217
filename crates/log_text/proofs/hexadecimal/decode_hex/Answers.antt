-- No bytes stand at the start of the buffer. Assumes nothing.
use Rattle.std.proofs.Common.{arith, sym}
use Rattle.base_lists.proofs.Build.{build_none}
use Rattle.log_text.proofs.hexadecimal.decode_hex.Goals as goal

pub returns-in-45-clause-holds_bytes : goal.returns-in-45-clause-holds_bytes
returns-in-45-clause-holds_bytes c = (omega arith, sym (build_none _))
