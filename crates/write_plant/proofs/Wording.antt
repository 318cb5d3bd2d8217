-- The words of a list of actions: lent, they are these actions. Assumes nothing.
--   words_of acts    19 words for each action, 0 past its allocations;  words_length: as many
--   words_back      the actions lent are the actions;  words_small: and each word is a u32 where the actions' numbers are
use Prim.Native.Nat.{ℕ, zero, suc, ◌+◌, ◌-◌, ◌*◌, ◌/◌, ◌≤◌, ◌<◌}
use native.Mathlib.Omega.{arith}
use mathlib.Core.Path.{◌≡◌, refl, ◌∙◌, ap}
use mathlib.Core.List.{List, [], ◌∷◌, ◌++◌}
use lib.ListN.{length, get_or, replicate, length-append, length-replicate, get_or-append}
use Rattle.base_lists.specs.All.{All}
use Rattle.base_lists.specs.Loops.{build}
use Rattle.base_lists.proofs.All.{all_at, all_append}
use Rattle.base_lists.proofs.Build.{past, build_same, build_back}
use Rattle.write_plant.specs.Written.{AllocationFields, ActionFields, no_action, allocation_numbers}
use Rattle.write_plant.specs.Lent.{allocation_in, action_in, actions_lent}
use Rattle.write_plant.specs.Canonical.{Small, six_of, FittingAction}
use Rattle.write_plant.proofs.Records.{no_allocation, numbers_length, numbers_at}

abbrev pub FewAllocations : ActionFields → Type 0
FewAllocations x = length x.allocations ≤ 4

-- the seven numbers
abbrev seven_of : ActionFields → List ℕ
seven_of x = x.needs_true ∷ x.needs_false ∷ x.makes_true ∷ x.makes_false ∷ x.shortest ∷ x.longest ∷ length x.allocations ∷ []

unfoldable pub spare : ActionFields → List ℕ
spare x = replicate (12 - 3 * length x.allocations) 0

abbrev words_one : ActionFields → List ℕ
words_one x = seven_of x ++ (allocation_numbers x.allocations ++ spare x)

abbrev pub words_of : List ActionFields → List ℕ
words_of [] = []
words_of (x ∷ acts) = words_one x ++ words_of acts

one_length : (x : ActionFields) → FewAllocations x → length (words_one x) ≡ 19
unfolding spare
one_length x h =
    omega (
      arith,
      length-append (allocation_numbers x.allocations) (spare x),
      numbers_length x.allocations,
      length-replicate {A = ℕ} (12 - 3 * length x.allocations) 0,
    )

pub words_length : (acts : List ActionFields) → All FewAllocations acts → length (words_of acts) ≡ 19 * length acts
words_length [] few = refl
words_length (x ∷ acts) few =
    omega (arith, length-append (words_one x) (words_of acts), one_length x few.0, words_length acts few.1)

-- a word of action a
word_at :
    (acts : List ActionFields) → All FewAllocations acts → (a k i : ℕ) → a < length acts → k < 19 → i ≡ 19 * a + k
    → get_or (words_of acts) i 0 ≡ get_or (words_one (get_or acts a no_action)) k 0
word_at [] few a k i ha hk e = absurd (omega arith)
word_at (x ∷ acts) few zero k i ha hk e =
    ap (λ (j : ℕ). get_or (words_of (x ∷ acts)) j 0) {x = i} {y = k} (omega arith)
    ∙ get_or-append (words_one x) (words_of acts) 0 k (omega (arith, one_length x few.0))
word_at (x ∷ acts) few (suc a) k i ha hk e =
    past (words_one x) (words_of acts) i (19 * a + k) 0 (omega (arith, one_length x few.0))
    ∙ word_at acts few.1 a k (19 * a + k) (omega arith) hk refl

-- a number of one of its allocations
number_at : (x : ActionFields) (k j : ℕ) → k < 3 * length x.allocations → j ≡ 7 + k → get_or (words_one x) j 0 ≡ get_or (allocation_numbers x.allocations) k 0
number_at x k j h e =
    past (seven_of x) (allocation_numbers x.allocations ++ spare x) j k 0 e
    ∙ get_or-append (allocation_numbers x.allocations) (spare x) 0 k (omega (arith, numbers_length x.allocations))

module _ (acts : List ActionFields) (few : All FewAllocations acts) (a : ℕ) (h : a < length acts) where
  abbrev x : ActionFields
  x = get_or acts a no_action

  abbrev w : List ℕ
  w = words_of acts

  x_few : FewAllocations x
  x_few = all_at FewAllocations acts no_action few a h

  here : (k i : ℕ) → k < 19 → i ≡ 19 * a + k → get_or w i 0 ≡ get_or (words_one x) k 0
  here k i hk e = word_at acts few a k i h hk e

  allocation_back : (k : ℕ) → k < length x.allocations → allocation_in w (19 * a + 7 + 3 * k) ≡ get_or x.allocations k no_allocation
  allocation_back k hk =
      let at : ℕ = 19 * a + 7 + 3 * k in
      let are = numbers_at x.allocations k hk in
      let y : AllocationFields = get_or x.allocations k no_allocation in
      let few-here = x_few in
      let r : get_or w at 0 ≡ y.resource =
      here (7 + 3 * k) at (omega arith) (omega arith) ∙ number_at x (3 * k) (7 + 3 * k) (omega arith) refl ∙ are.0 in
      let o : get_or w (at + 1) 0 ≡ y.offset =
      here (7 + (3 * k + 1)) (at + 1) (omega arith) (omega arith) ∙ number_at x (3 * k + 1) (7 + (3 * k + 1)) (omega arith) refl ∙ are.1 in
      let n : get_or w (at + 2) 0 ≡ y.length =
      here (7 + (3 * k + 2)) (at + 2) (omega arith) (omega arith) ∙ number_at x (3 * k + 2) (7 + (3 * k + 2)) (omega arith) refl ∙ are.2 in
      rw (r, o, n) refl

  action_back : action_in w a ≡ x
  action_back =
      let n : ℕ = length x.allocations in
      let f : ℕ → AllocationFields = λ k. allocation_in w (19 * a + 7 + 3 * k) in
      let nt : get_or w (19 * a) 0 ≡ x.needs_true = here 0 (19 * a) (omega arith) (omega arith) in
      let nf : get_or w (19 * a + 1) 0 ≡ x.needs_false = here 1 (19 * a + 1) (omega arith) refl in
      let mt : get_or w (19 * a + 2) 0 ≡ x.makes_true = here 2 (19 * a + 2) (omega arith) refl in
      let mf : get_or w (19 * a + 3) 0 ≡ x.makes_false = here 3 (19 * a + 3) (omega arith) refl in
      let sh : get_or w (19 * a + 4) 0 ≡ x.shortest = here 4 (19 * a + 4) (omega arith) refl in
      let lo : get_or w (19 * a + 5) 0 ≡ x.longest = here 5 (19 * a + 5) (omega arith) refl in
      let held : build f (get_or w (19 * a + 6) 0) ≡ x.allocations =
      ap (build f) (here 6 (19 * a + 6) (omega arith) refl)
      ∙ build_same f (λ k. get_or x.allocations k no_allocation) n allocation_back
      ∙ build_back x.allocations n no_allocation refl in
      rw (nt, nf, mt, mf, sh, lo, held) refl

pub words_back : (acts : List ActionFields) → All FewAllocations acts → actions_lent (words_of acts) ≡ acts
words_back acts few =
    ap (build (action_in (words_of acts))) {x = length (words_of acts) / 19} {y = length acts} (omega (arith, words_length acts few))
    ∙ build_same (action_in (words_of acts)) (λ a. get_or acts a no_action) (length acts) (action_back acts few)
    ∙ build_back acts (length acts) no_action refl

zeros_small : (n : ℕ) → All Small (replicate n 0)
zeros_small zero = tt
zeros_small (suc n) = (omega arith, zeros_small n)

small_one : (x : ActionFields) → FittingAction x → All Small (words_one x)
unfolding spare
small_one x s =
    let few = s.few in
    all_append Small (six_of x) (length x.allocations ∷ (allocation_numbers x.allocations ++ spare x)) s.six
    (omega (arith, few), all_append Small (allocation_numbers x.allocations) (spare x) s.numbers (zeros_small (12 - 3 * length x.allocations)))

pub words_small : (acts : List ActionFields) → All FittingAction acts → All Small (words_of acts)
words_small [] s = tt
words_small (x ∷ acts) s = all_append Small (words_one x) (words_of acts) (small_one x s.0) (words_small acts s.1)
