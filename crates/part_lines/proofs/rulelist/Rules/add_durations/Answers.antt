-- A turn of the loop puts the two rules of the next step behind the others.
use Rattle.std.proofs.Common.{◌≡◌, ◌+◌, ◌-◌, ◌*◌, ◌<◌, ℕ, suc, length, List, [], ◌∷◌, ◌++◌, drop, get_or, refl, ap, sym, ◌∙◌, add-one, drop-cons, drop_of_length-le, arith}
use Rattle.spec_plain.specs.Limits.{most_steps}
use Rattle.spec_plain.specs.Plain.{durations}
use Rattle.spec_plain.specs.declared.Rule.{Rule}
use Rattle.spec_plain.specs.declared.Step.{Step}
use Rattle.part_lines.specs.ArrayLists.{rules_of, no_rule}
use Rattle.part_lines.proofs.RuleLaws.{Growing, Room_less, grows_one, grown}
use Rattle.part_lines.proofs.rulelist.Rules.add_durations.Goals as goal
use Rattle.part_lines.proofs.rulelist.Rules.add_durations.Goals.{After-push}

-- what reading past the end of the steps would give
abbrev no_step : Step
no_step = record { shortest = 0; longest = 0 }

-- the two rules of step k, where the first step runs from x
abbrev rule : ℕ → ℕ → List Step → ℕ → Rule
rule i x steps k = get_or (durations (x + k) (get_or steps k no_step ∷ [])) i no_rule

-- the rules of the steps that are left
abbrev rest : ℕ → List Step → ℕ → List Rule
rest x steps k = durations (x + k) (drop k steps)

begin : (x : ℕ) (steps : List Step) (k : ℕ) → k < length steps
    → rest x steps k ≡ rule 0 x steps k ∷ rule 1 x steps k ∷ rest x steps (k + 1)
unfolding durations
begin x steps k h = let next : x + (k + 1) ≡ suc (x + k) = omega arith in rw (next, add-one k, drop-cons steps k no_step) refl

-- the first of the two came
first : (c : After-push) → (let k = c.loop-k.k in let steps = c.args.steps.now in
    Growing (rules_of c.args.self.now ++ durations c.args.x steps) c.push.new.self (rule 1 c.args.x steps k ∷ rest c.args.x steps (k + 1))
    (2 * most_steps - (k + k) - 1))
first c =
    let k = c.loop-k.k in
    let x = c.args.x in
    let steps = c.args.steps.now in
    grows_one _ _ c.loop-k.invariant
    (begin x steps k c.loop-k-test.true ∙ ap (λ (r : Rule). r ∷ rule 1 x steps k ∷ rest x steps (k + 1)) (sym c.least_rule.ensures))
    c.push.ensures (omega arith)

pub push-requires-in-loop-k : goal.push-requires-in-loop-k
push-requires-in-loop-k c = Room_less (first (goal.at.push-requires-in-loop-k c).After-push).room 1 (omega arith)

pub loop-k-preserved : goal.loop-k-preserved
loop-k-preserved c =
    grows_one _ _ (first (goal.at.loop-k-preserved c).After-push)
    (ap (λ (r : Rule). r ∷ rest c.args.x c.args.steps.now (c.loop-k.k + 1)) (sym c.most_rule.ensures)) c.push-in-loop-k.ensures (omega arith)

pub returns : goal.returns
unfolding durations
returns c = grown c.loop-k.invariant (ap (durations (c.args.x + c.loop-k.k)) (drop_of_length-le c.args.steps.now c.loop-k-test.false))
