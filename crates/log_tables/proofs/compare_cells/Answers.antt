-- The first place at which the cells differ, or none.
use Rattle.std.proofs.Common.{rules, arith, ℕ, List, ◌≡◌, ◌≢◌, ◌≤◌, ◌<◌, get_or, length, Some, None}
use borrow.Author.Tests.{tests}
use Rattle.std.proofs.lemmas.Iterator.{first_from_Range}
use Rattle.log_tables.proofs.Answers.{no_entry, first_entry}
use Rattle.log_tables.proofs.Differences.{first_at, first_none}
use Rattle.log_tables.proofs.compare_cells.Goals as goal

abbrev Differ : List ℕ → List ℕ → ℕ → Type 0
Differ a b k = get_or a k 0 ≢ get_or b k 0

abbrev Same : List ℕ → List ℕ → ℕ → Type 0
Same a b k = get_or a k 0 ≡ get_or b k 0

pub returns-in-None : goal.returns-in-None
returns-in-None c =
    let a = c.args.a.now in
    let b = c.args.b.now in
    let alike : (k : ℕ) → 0 ≤ k → k < length a → Same a b k =
    first_from_Range (record { start = 0; end = length a }) _ _ None (Differ a b) (Same a b) c.in-None.ensures.ran (λ k q e. search (rules, tests)) (λ k q e. search (rules, tests)) in
    no_entry a b _ (first_none a b (omega arith) (λ k h. alike k (omega arith) h)) (omega arith)

pub returns-in-Some : goal.returns-in-Some
returns-in-Some c =
    let a = c.args.a.now in
    let b = c.args.b.now in
    let i = c.in-Some.k in
    let first : (0 ≤ i) × (i < length a) × Differ a b i × ((k : ℕ) → 0 ≤ k → k < i → Same a b k) =
    first_from_Range (record { start = 0; end = length a }) _ _ (Some i) (Differ a b) (Same a b) c.in-Some.ensures.ran (λ k q e. search (rules, tests)) (λ k q e. search (rules, tests)) in
    first_entry a b i (first_at a b i (omega arith) first.1 (λ k h. first.3 k (omega arith) h) first.2) first.1
