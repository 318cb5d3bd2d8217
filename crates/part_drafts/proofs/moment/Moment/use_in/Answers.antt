-- A turn takes the last of the allocations that are left, `Sought` without it.
use Rattle.std.proofs.Common.{◌≡◌, ℕ, List, [], ◌∷◌, ◌++◌, ◌<◌, get_or, refl, sym, ◌∙◌, ap, subst, arith, rules}
use Rattle.std.proofs.lemmas.List.{nil_from_length}
use Rattle.spec_plain.specs.declared.Allocation.{Allocation}
use Rattle.spec_plain.specs.Plain.{no_use}
use Rattle.part_boardwords.specs.Layout.{line_start}
use Rattle.part_boardwords.specs.Words.{word_in, use_at}
use Rattle.part_drafts.specs.Moment.{line_at}
use Rattle.part_drafts.proofs.Moments.{Sought, look_other, look_here, look_behind, look_before, look_words}
use Rattle.part_drafts.proofs.moment.Moment.use_in.Goals as goal
use Rattle.part_drafts.proofs.moment.Moment.use_in.Goals.{In-Some, In-None}

-- with the last allocation that is left
last : (c : In-Some) → Sought c.args.self.first c.args.self.w.now c.args.resource (get_or (line_at c.args.self c.args.resource) c.args.place no_use)
    (c.next.new.self.iter.rest.now ++ (c.in-Some.allocation.now ∷ [])) c.loop-allocation.at
last c = subst (λ (ps : List Allocation). Sought c.args.self.first c.args.self.w.now c.args.resource (get_or (line_at c.args.self c.args.resource) c.args.place no_use) ps c.loop-allocation.at) c.in-Some.ensures.steps c.loop-allocation.invariant

pub loop-allocation-init : goal.loop-allocation-init
loop-allocation-init c =
    let is : c.into_iter-allocation-iterator.result.iter.rest.now ≡ c.args.self.earlier.list.now = search rules in
    rw is (record { fits = c.args.self.fits; below = c.requires.1; is = refl })

pub returns-then-there-at : goal.returns-then-there-at
returns-then-there-at c =
    c.used_from.ensures ∙ sym (look_here _ c.in-Some.allocation.now (last (goal.at.returns-then-there-at c).In-Some) c.if-allocation-resource.true c.requires.0 c.if-there-at.true)

pub loop-allocation-preserved-then-there-at-2 : goal.loop-allocation-preserved-then-there-at-2
loop-allocation-preserved-then-there-at-2 c =
    look_behind _ _ (last (goal.at.loop-allocation-preserved-then-there-at-2 c).In-Some) c.if-allocation-resource.true c.requires.0 c.if-there-at-2.true

pub loop-allocation-preserved-else-there-at-2 : goal.loop-allocation-preserved-else-there-at-2
loop-allocation-preserved-else-there-at-2 c =
    look_before _ _ (last (goal.at.loop-allocation-preserved-else-there-at-2 c).In-Some) c.if-allocation-resource.true c.requires.0
    (let ne = c.if-there-at.false in omega (arith, ne))

pub loop-allocation-preserved : goal.loop-allocation-preserved
loop-allocation-preserved c = look_other _ _ (last (goal.at.loop-allocation-preserved c).In-Some) c.if-allocation-resource.false

-- none is left
found : (c : In-None) → (c.loop-allocation.at < 32)
    × (get_or (line_at c.args.self c.args.resource) c.args.place no_use ≡ use_at (word_in c.args.self.w.now) (line_start c.args.resource) c.loop-allocation.at)
found c =
    let none : c.loop-allocation.allocation-iterator.iter.rest.now ≡ [] = nil_from_length _ c.in-None.ensures.steps.0 in
    look_words
    (subst (λ (ps : List Allocation). Sought c.args.self.first c.args.self.w.now c.args.resource (get_or (line_at c.args.self c.args.resource) c.args.place no_use) ps c.loop-allocation.at) none c.loop-allocation.invariant)
    c.requires.0 c.args.self.lined

pub use_at-requires : goal.use_at-requires
use_at-requires c = (omega (arith, c.args.self.words), (found (goal.at.use_at-requires c).In-None).0)

pub returns : goal.returns
returns c =
    c.use_at.ensures ∙ ap (λ (i : ℕ). use_at (word_in c.args.self.w.now) i c.loop-allocation.at) c.line_start.ensures ∙ sym (found (goal.at.returns c).In-None).1
