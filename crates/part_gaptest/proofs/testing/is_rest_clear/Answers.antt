-- The parts, and the rest.
use Rattle.std.proofs.Common.{ℕ, ◌≡◌, ◌-◌, ◌*◌, ◌/◌, ◌%◌, ◌≤◌, ◌∙◌, List, [], length, get_or, drop, ap, true, false, refl, arith, rules}
use mathlib.Core.Bool.{Bool, ◌&&◌}
use lib.ListN.{length-drop}
use borrow.Author.Tests.{tests}
use Rattle.std.specs.Simd.{first_chunks}
use Rattle.std.proofs.lemmas.Slice.{between_to_end}
use Rattle.std.proofs.lemmas.Iterator.{cases_from_all, YieldsList-from_slice}
use Rattle.base_lists.proofs.Iterators.{all_listed}
use Rattle.base_lists.specs.Loops.{all_below}
use Rattle.part_gaptest.specs.Test.{clear}
use Rattle.part_gaptest.proofs.Test.{clear_parts}
use Rattle.part_gaptest.proofs.testing.is_rest_clear.Goals as goal
use Rattle.part_gaptest.proofs.testing.is_rest_clear.Goals.{After-all}

-- s are the cells from `from` on, which are cut
cut :
    (l s : List ℕ) (from : ℕ) (parts : List (List ℕ)) (rest : List ℕ) (p q : Bool) → from ≤ length l → s ≡ drop from l
    → parts ≡ first_chunks 256 (length s / 256) s → length parts ≡ length s / 256 → rest ≡ drop (length s / 256 * 256) s → length rest ≡ length s % 256
    → p ≡ all_below (λ k. clear (get_or parts k []) 0 (length (get_or parts k []))) (length parts) → q ≡ clear rest 0 (length rest)
    → (p && q) ≡ clear l from (length l - from)
cut l s from parts rest p q room es ep many er few tp tq =
    let size : length s ≡ length l - from = ap length es ∙ length-drop from l in
    clear_parts l from (length s / 256) 256 (length l - from) parts rest p q (omega arith) (omega arith)
    (ep ∙ ap (first_chunks 256 (length s / 256)) es) many (er ∙ ap (drop (length s / 256 * 256)) es) tp tq

parts_told :
    (c : After-all) → (q : Bool) → q ≡ clear c.as_chunks.result.1.now 0 (length c.as_chunks.result.1.now)
    → (c.all.result && q) ≡ clear c.args.t.now c.args.from (length c.args.t.now - c.args.from)
parts_told c q e =
    let parts = c.as_chunks.result.0.now in
    let s = c.as_chunks.ensures in
    cut c.args.t.now _ c.args.from parts _ c.all.result q (omega arith) (between_to_end c.args.t.now c.args.from (length c.args.t.now) (omega arith))
    s.front s.front_len s.back s.back_len
    (all_listed (λ x. clear x 0 (length x)) parts [] _
    (cases_from_all _ _ _ (λ x. clear x 0 (length x) ≡ true) (λ x. clear x 0 (length x) ≡ false) c.all.ensures.ran (YieldsList-from_slice parts cc)
    (λ x q k. search (rules, tests)) (λ x q k. search (rules, tests))))
    e

pub returns-then-all : goal.returns-then-all
returns-then-all c =
    let told = parts_told (goal.at.returns-then-all c).After-all c.are_clear.result c.are_clear.ensures in
    rw (c.if-all.true, c.requires.0) at told

pub returns-else-all : goal.returns-else-all
returns-else-all c =
    let told = parts_told (goal.at.returns-else-all c).After-all _ refl in
    c.if-all.false ∙ rw (c.if-all.false, c.requires.0) at told
