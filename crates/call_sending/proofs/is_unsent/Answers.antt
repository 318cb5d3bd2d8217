-- `is_unsent` meets its contract: a place past the list, and one in it.
use Rattle.std.proofs.Common.{◌≡◌, length, sym, ◌∙◌, ap, arith}
use mathlib.Core.Bool.{not}
use borrow.Author.Tests.{le-ltb}
use Rattle.spec_plain.specs.declared.Job.{Job}
use Rattle.part_lines.specs.ArrayLists.{jobs_of}
use Rattle.part_lines.proofs.JobLaws.{unsent_past, unsent_at_lem}
use Rattle.part_boardwords.specs.Layout.{count_at}
use Rattle.part_boardwords.specs.Words.{word_in, held_jobs}
use Rattle.part_boardwords.proofs.Boards.{held_jobs_lem, held_job}
use Rattle.call_sending.proofs.is_unsent.Goals as goal

pub returns-then-k-w : goal.returns-then-k-w
returns-then-k-w c =
    let w = word_in c.args.w.now in
    let held : length (jobs_of (held_jobs w)) ≡ w count_at = held_jobs_lem w (omega arith) in
    let there = held_job w (omega arith) c.args.k (omega arith) in
    ap (λ (j : Job). not j.sent) (c.job_at.ensures ∙ sym there) ∙ unsent_at_lem (jobs_of (held_jobs w)) c.args.k (omega (arith, held))

pub returns-else-k-w : goal.returns-else-k-w
returns-else-k-w c =
    let w = word_in c.args.w.now in
    let held : length (jobs_of (held_jobs w)) ≡ w count_at = held_jobs_lem w (omega arith) in
    le-ltb c.args.k (w count_at) c.if-k-w.false ∙ unsent_past (jobs_of (held_jobs w)) c.args.k (omega (arith, held))
