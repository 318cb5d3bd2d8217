use Rattle.std.proofs.Common.{arith, ◌≡◌, ◌∙◌, ap}
use Rattle.base_lists.proofs.AllBelow.{all_below_none, all_below_next}
use Rattle.spec_plain.specs.Plain.{no_use}
use Rattle.part_lines.specs.ArrayLists.{line_of}
use Rattle.part_boardwords.specs.Words.{word_in, line_read, use_at}
use Rattle.part_boardwords.proofs.Boards.{held_size, held_use}
use Rattle.part_sound.specs.Sound.{sized_use}
use Rattle.part_sound.proofs.Flags.{all_each}
use Rattle.part_sound.proofs.lining.are_uses_sized.Goals as goal

pub loop-k-init : goal.loop-k-init
loop-k-init c = all_below_none _

pub loop-k-preserved : goal.loop-k-preserved
loop-k-preserved c =
    let L = c.loop-k in
    all_below_next _ L.k L.ok _ L.invariant (c.is_use_sized-ok.ensures ∙ ap (sized_use c.args.n) c.use_at.ensures)

pub returns : goal.returns
returns c =
    let w = word_in c.args.w.now in
    let at = c.args.at in
    let L = c.loop-k in
    let sized = sized_use c.args.n in
    let few = c.requires.1 in
    let e : L.k ≡ w at = omega arith in
    rw e at L.invariant
    ∙ all_each sized no_use (line_of (line_read w at)) (use_at w at) (w at) (held_size w at few) (λ k h. held_use w at k h (omega arith))
