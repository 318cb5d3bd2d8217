-- The words of a board with another clock and other jobs.
--   fronted w c jobs   the words w with the clock c and these jobs in place of theirs
use Rattle.std.specs.Prelude.{ℕ, List, set}
use Rattle.part_lines.specs.declared.Jobs.{Jobs}
use Rattle.part_boardwords.specs.Layout.{clock_at, count_at, jobs_at}
use Rattle.part_boardwords.specs.Codec.{jobs_words, overwritten}

abbrev pub fronted : List ℕ → ℕ → Jobs → List ℕ
fronted w c jobs = overwritten (set (set w clock_at c) count_at jobs.count) jobs_at (jobs_words jobs.jobs)
