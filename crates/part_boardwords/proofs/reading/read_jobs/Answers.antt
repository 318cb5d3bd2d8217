-- Each job of the array is the one that the closure read.
use Rattle.std.proofs.Common.{rules}
use Rattle.part_lines.specs.ArrayLists.{no_job}
use Rattle.part_boardwords.specs.Words.{word_in, job_at}
use Rattle.part_boardwords.proofs.Filled.{from_fn}
use Rattle.part_boardwords.proofs.reading.read_jobs.Goals as goal

pub returns : goal.returns
returns c =
    rw (from_fn _ _ no_job (job_at (word_in c.args.s.now)) (λ i y q called. search rules) 16 c.from_fn.result c.from_fn.ensures.items)
