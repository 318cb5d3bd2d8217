-- `u32_at` meets its contract: the sum of the four bytes is `word`.
use Rattle.std.proofs.Common.{rules}
use Rattle.base_words.specs.Word.{word}
use Rattle.base_words.proofs.u32_at.Goals as goal

pub returns : goal.returns
unfolding word
returns c = search rules
