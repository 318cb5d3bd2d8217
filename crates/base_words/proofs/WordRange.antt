-- Four bytes make a u32. Assumes nothing.
--   word_lt    every word of a list of bytes is below 2 ^ 32
use Prim.Native.Nat.{ℕ, ◌+◌, ◌^◌, ◌<◌}
use native.Mathlib.Omega.{arith}
use mathlib.Core.List.{List}
use Rattle.base_words.specs.Word.{word, Bytes}

pub word_lt : (s : List ℕ) (at : ℕ) → Bytes s → word s at < 2 ^ 32
unfolding word
word_lt s at h = let a = h at in let b = h (at + 1) in let c = h (at + 2) in let d = h (at + 3) in omega arith
