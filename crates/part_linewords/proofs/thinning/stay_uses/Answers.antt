use Rattle.std.proofs.Common.{arith, ◌≡◌, ◌∙◌, ap, length}
use Rattle.part_linewords.proofs.Thin.{thin_size, thin_none, thin_less, thin_more}
use Rattle.part_linewords.proofs.thinning.stay_uses.Goals as goal
use Rattle.part_linewords.proofs.thinning.stay_uses.Goals.{in-Some, in_default}

pub loop-k-init : goal.loop-k-init
loop-k-init c =
    let A = c.args in
    record { size = thin_size A.f A.m A.w.now A.at; words = thin_none A.f A.m A.w.now A.at; few = omega arith }

pub loop-k-preserved : goal.loop-k-preserved
loop-k-preserved c =
    let A = c.args in
    let L = c.loop-k in
    let I = L.invariant in
    elim c.match-staying.branch [
      | in-Some w ↦
          let one = thin_more A.f A.m A.w.now A.at L.w L.k (omega arith) I.words w.write_use.new.w L.next w.in-Some.u (omega arith) I.size w.write_use.ensures
          c.use_at.result c.use_at.ensures w.in-Some.ensures in
          record { size = w.next-is ∙ one.0; words = rw w.w-is one.1; few = omega arith }
      | in_default w ↦
          let none = thin_less A.f A.m A.w.now A.at L.w L.k (omega arith) I.words c.use_at.result c.use_at.ensures w.in_default.ensures in
          record { size = w.next-is ∙ I.size ∙ ap length none.0; words = rw w.w-is none.1; few = omega arith }
    ]

pub returns : goal.returns
returns c =
    let L = c.loop-k in
    let e : L.k ≡ c.args.count = omega arith in
    record { size = rw (← e) L.invariant.size; few = omega arith; words = rw (← e) L.invariant.words }
