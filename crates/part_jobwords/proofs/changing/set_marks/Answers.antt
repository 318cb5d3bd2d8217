use Rattle.std.proofs.Common.{◌≡◌, ◌+◌, List, ℕ, sym, subst, arith}
use Rattle.spec_plain.specs.Plain.{sent_up_to}
use Rattle.part_lines.specs.ArrayLists.{jobs_of}
use Rattle.part_boardwords.specs.Layout.{clock_at}
use Rattle.part_boardwords.specs.Words.{word_in, held_jobs}
use Rattle.part_boardwords.proofs.Boards.{held_jobs_lem}
use Rattle.part_jobwords.specs.Listed.{Listed}
use Rattle.part_jobwords.proofs.Changes.{sent_none, sent_more}
use Rattle.part_jobwords.proofs.changing.set_marks.Goals as goal

pub loop-k-init : goal.loop-k-init
loop-k-init c = sent_none c.args.w.now (omega arith) c.requires.3

pub loop-k-preserved : goal.loop-k-preserved
loop-k-preserved c =
    let L = c.loop-k in
    let W = c.args.w.now in
    let js = jobs_of (held_jobs (word_in W)) in
    let held = held_jobs_lem (word_in W) (omega arith) in
    let more = sent_more W L.w _ L.k js (omega arith) (omega (arith, held)) L.invariant in
    subst (λ (x : List ℕ). Listed W x (word_in W clock_at) (sent_up_to (L.k + 1) js)) (sym c.write_sent.ensures) more

pub returns : goal.returns
returns c =
    let e : c.loop-k.k ≡ c.args.n = omega arith in
    rw (← e) c.loop-k.invariant
