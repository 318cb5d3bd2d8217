-- After k turns the first k jobs are sent (`Listed`).
use Rattle.spec_plain.specs.Plain.{sent_up_to}
use Rattle.part_lines.specs.ArrayLists.{jobs_of}
use Rattle.part_boardwords.specs.Layout.{clock_at}
use Rattle.part_boardwords.specs.Words.{word_in, held_jobs}
use Rattle.part_jobwords.specs.Listed.{Listed}
use Rattle.part_jobwords.proofs.changing.set_marks.Given as goal

abbrev pub invariant-loop-k : goal.invariant-loop-k
invariant-loop-k l = Listed l.initial.w l.w (word_in l.initial.w clock_at) (sent_up_to l.k (jobs_of (held_jobs (word_in l.initial.w))))
