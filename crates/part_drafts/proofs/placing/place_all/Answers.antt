-- A turn goes on with the rest of the run, or it stops as the whole run does.
use Rattle.std.proofs.Common.{◌≡◌, ℕ, ◌+◌, List, [], ◌∷◌, ◌++◌, length, get_or, take, drop, refl, subst, add-one, drop-cons, drop_of_length-le, take_all, arith, ◌<◌}
use Rattle.std.proofs.Math.Seq.{take-suc}
use Rattle.std.proofs.lemmas.List.{length-take-le}
use Rattle.std.proofs.lemmas.Result.{err_from_is_err_and}
use Rattle.spec_plain.specs.declared.Allocation.{Allocation}
use Rattle.spec_plain.specs.declared.Use.{Use}
use Rattle.spec_plain.specs.Plain.{placed}
use Rattle.part_lines.specs.ArrayLists.{rules_of, answered}
use Rattle.part_lines.specs.Placing.{lines_with, all_with, AllFit}
use Rattle.part_lines.proofs.RuleLaws.{Room_less}
use Rattle.part_boardwords.specs.Words.{lines_in}
use Rattle.part_drafts.proofs.PlaceLaws.{goes_on, stops_here, all_placed}
use Rattle.part_drafts.proofs.placing.place_all.Goals as goal
use Rattle.part_drafts.proofs.placing.place_all.Goals.{After-place_one}

-- allocation k
abbrev at : List Allocation → ℕ → Allocation
at ps k = get_or ps k (record { resource = 0; place = 0; step = 0; offset = 0; length = 0 })

next : (ps : List Allocation) (k : ℕ) → k < length ps → drop k ps ≡ at ps k ∷ drop (k + 1) ps
next ps k h = rw (add-one k, drop-cons ps k (at [] 0)) refl

front : (ps : List Allocation) (k : ℕ) → k < length ps → take (k + 1) ps ≡ take k ps ++ (at ps k ∷ [])
front ps k h = rw (add-one k) (take-suc ps k (at [] 0) h)

-- what the turn came to, on the lines so far
turn : (c : After-place_one) → (let ps = c.args.allocations.list.now in let k = c.loop-k.k in let x = c.args.first in
    let ls = all_with x (lines_in c.args.w.now) (take k ps) in
    answered c.place_one.result (lines_with x ls (at ps k)) (rules_of c.place_one.new.rules)
    ≡ placed c.args.settings x (length (take k ps)) (at ps k ∷ []) ls (rules_of c.loop-k.rules))
turn c =
    let ps = c.args.allocations.list.now in
    let k = c.loop-k.k in
    let x = c.args.first in
    let ls : List Allocation → List (List Use) = all_with x (lines_in c.args.w.now) in
    subst (λ (qs : List Allocation). answered c.place_one.result (lines_with x (ls qs) (at ps k)) (rules_of c.place_one.new.rules)
    ≡ placed c.args.settings x (length qs) (at ps k ∷ []) (ls qs) (rules_of c.loop-k.rules)) c.before-in-loop-k.ensures c.place_one.ensures.answer

pub loop-k-init : goal.loop-k-init
unfolding all_with AllFit
loop-k-init c = record { runs = refl; fits = tt; room = c.requires.3 }

pub returns-in_err-place_one-clause-answer : goal.returns-in_err-place_one-clause-answer
unfolding answered
returns-in_err-place_one-clause-answer c =
    let ps = c.args.allocations.list.now in
    let k = c.loop-k.k in
    let p = err_from_is_err_and c.from_residual.result c.from_residual.ensures.1 in
    rw (p.1, p.2)
    (stops_here c.loop-k.invariant (at ps k) (next ps k c.loop-k-test.true) (front ps k c.loop-k-test.true) _ (length-take-le k ps (omega arith)) _ _
    (turn (goal.at.returns-in_err-place_one-clause-answer c).After-place_one) _ c.in_err-place_one.was)

pub returns-in_err-place_one-clause-room : goal.returns-in_err-place_one-clause-room
returns-in_err-place_one-clause-room c = c.place_one.ensures.room 2 (Room_less c.loop-k.invariant.room 4 (omega arith))

pub loop-k-preserved : goal.loop-k-preserved
loop-k-preserved c =
    let ps = c.args.allocations.list.now in
    let k = c.loop-k.k in
    goes_on c.loop-k.invariant (at ps k) (next ps k c.loop-k-test.true) (front ps k c.loop-k-test.true) _ (length-take-le k ps (omega arith)) _ _
    (turn (goal.at.loop-k-preserved c).After-place_one) c.in_ok-place_one.was
    (c.place_one.ensures.room _ (Room_less c.loop-k.invariant.room _ (omega arith)))

pub returns-clause-answer : goal.returns-clause-answer
unfolding answered
returns-clause-answer c =
    let ps = c.args.allocations.list.now in
    let k = c.loop-k.k in
    all_placed c.loop-k.invariant (drop_of_length-le ps c.loop-k-test.false) (take_all k ps c.loop-k-test.false)
