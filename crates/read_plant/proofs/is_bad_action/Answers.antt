-- `is_bad_action` meets its contract: facts, durations, allocations (`action_tests`).
use Rattle.std.proofs.Common.{◌∙◌, sym}
use Rattle.read_plant.proofs.Records.{action_tests}
use Rattle.read_plant.proofs.is_bad_action.Goals as goal
use Rattle.read_plant.proofs.is_bad_action.Goals.{then-has_fact_twice, else-has_fact_twice}

pub returns-then-is_bad_duration : goal.returns-then-is_bad_duration
returns-then-is_bad_duration c =
    elim c.if-has_fact_twice.branch [
      | then-has_fact_twice w ↦
          simp (w.value-is, action_tests c.args.s.now c.args.at, ← c.has_fact_twice.ensures, w.if-has_fact_twice.true)
      | else-has_fact_twice w ↦
          simp (
            c.if-is_bad_duration.true,
            action_tests c.args.s.now c.args.at,
            ← c.has_fact_twice.ensures,
            w.if-has_fact_twice.false,
            ← w.u32_at.ensures,
            ← w.u32_at-else-has_fact_twice.ensures,
            ← w.is_bad_duration.ensures,
            sym w.value-is ∙ c.if-is_bad_duration.true,
          )
    ]

pub returns-else-is_bad_duration : goal.returns-else-is_bad_duration
returns-else-is_bad_duration c =
    elim c.if-has_fact_twice.branch [
      | then-has_fact_twice w ↦ absurd (cc w.if-has_fact_twice.true)
      | else-has_fact_twice w ↦
          simp (
            action_tests c.args.s.now c.args.at,
            ← c.has_fact_twice.ensures,
            w.if-has_fact_twice.false,
            ← w.u32_at.ensures,
            ← w.u32_at-else-has_fact_twice.ensures,
            ← w.is_bad_duration.ensures,
            sym w.value-is ∙ c.if-is_bad_duration.false,
            ← c.requires.1,
          )
          c.is_some_bad.ensures
    ]
