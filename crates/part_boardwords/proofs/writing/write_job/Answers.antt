-- The words of the job are copied to its place.
use Rattle.std.proofs.Common.{◌≡◌, ◌∙◌, ap, arith, ℕ, ◌∷◌, []}
use Rattle.part_boardwords.specs.Codec.{job_words, mark_of}
use Rattle.part_boardwords.proofs.Overwritten.{overwritten_put}
use Rattle.part_boardwords.proofs.Parts.{mark_made}
use Rattle.part_boardwords.proofs.writing.write_job.Goals as goal

pub returns : goal.returns
returns c =
    let J = c.args.job in
    let marked : c.from.result ≡ mark_of J.sent = c.from.ensures ∙ mark_made J.sent in
    let words = c.copy_from_slice.ensures.after ∙ ap (λ (m : ℕ). J.points ∷ J.batch ∷ m ∷ J.due ∷ []) marked in
    overwritten_put _ _ _ (job_words J) _ words (omega arith) (omega arith)
