-- A word more is stored, and then all are those of the bytes. Assumes nothing.
use Rattle.std.proofs.Common.{refl, ◌∙◌, arith}
use Rattle.base_lists.proofs.Rewritten.{rewritten_none, rewritten_whole, store, done}
use Rattle.part_boardwords.specs.Layout.{board_size}
use Rattle.log_calls.specs.Bytes.{word_at}
use Rattle.log_calls.proofs.boards.store_words.Goals as goal

pub loop-k-init : goal.loop-k-init
loop-k-init c = rewritten_none _ _ _ _ (omega arith)

pub loop-k-preserved : goal.loop-k-preserved
loop-k-preserved c =
    store (word_at c.args.bytes.now) c.args.w.now c.loop-k.w 0 c.loop-k.k c.loop-k.invariant _ _ (omega arith) (omega arith) refl c.u32_at.ensures

pub returns : goal.returns
returns c =
    let f = word_at c.args.bytes.now in
    done f c.args.w.now c.loop-k.w 0 c.loop-k.k c.loop-k.invariant board_size (omega arith) ∙ rewritten_whole f c.args.w.now board_size (omega arith)
