-- Words that pass the test stand for a sound board, which is theirs. Assumes nothing.
use Rattle.std.proofs.Common.{sym, ◌∙◌, ap}
use Rattle.part_sound.specs.Sound.{sound}
use Rattle.part_sound.proofs.InWords.{lent_whole}
use Rattle.log_chart.proofs.ChartDisplay.fmt.Goals as goal

pub of-requires : goal.of-requires
of-requires g c =
    let is = sym c.is_sound.ensures ∙ c.if-not-is_sound.false in
    let whole = lent_whole c.args.self.now.0.now is in
    (whole.0, sym (ap sound whole.1) ∙ is)
