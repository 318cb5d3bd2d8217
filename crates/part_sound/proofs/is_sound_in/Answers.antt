-- The marks, and then the clauses.
use Rattle.std.proofs.Common.{◌∙◌, sym, ap}
use Rattle.part_boardwords.specs.Words.{word_in}
use Rattle.part_sound.specs.Sound.{clauses_kept, sound}
use Rattle.part_sound.proofs.Flags.{passes}
use Rattle.part_sound.proofs.InWords.{unmarked, framed_in}
use Rattle.part_sound.proofs.is_sound_in.Goals as goal

pub returns-then-are_marked : goal.returns-then-are_marked
unfolding sound
returns-then-are_marked c =
    passes (sym c.are_marked.ensures ∙ c.if-are_marked.true) (c.are_clauses_kept.ensures ∙ ap clauses_kept (framed_in c.args.w.now c.requires))

pub returns-else-are_marked : goal.returns-else-are_marked
returns-else-are_marked c =
    c.if-are_marked.false ∙ sym (unmarked (word_in c.args.w.now) (sym c.are_marked.ensures ∙ c.if-are_marked.false))
