-- Records one after the other, and what is read of one. Assumes nothing.
--   start rs a        where record a of a list of records starts;  start_next, start_all, start_most: the next, the end, and no start behind it
--   joined_append, joined_at   records and more records; the list of bytes cut at a record
--   starts_length, starts_at   the index entries
--   numbers_length, numbers_append   an allocation's numbers;  record_length: how long a record is
--   action_here       a record's action is the action;  spare_here: and its spare bytes are 0
--   range_is          refusal 4 of a record in bytes is refusal 4 of its action
use Prim.Native.Nat.{ℕ, zero, suc, ◌+◌, ◌*◌, ◌≤◌, ◌<◌}
use native.Mathlib.Omega.{arith}
use mathlib.Core.Path.{◌≡◌, refl, sym, ◌∙◌, ap}
use mathlib.Core.Bool.{Bool, ◌||◌, or-false, or_assoc}
use mathlib.Core.List.{List, [], ◌∷◌, ◌++◌, append_assoc}
use lib.ListN.{length, get_or, take, drop, length-append}
use Rattle.base_words.specs.Word.{word, u32s}
use Rattle.base_lists.specs.Loops.{build}
use Rattle.base_lists.proofs.Build.{past, build_same, build_back}
use Rattle.read_plant.specs.Plant.{allocation_count, allocation_start, bad_allocation, some_bad_allocation, bad_action}
use Rattle.write_plant.specs.Written.{AllocationFields, ActionFields, allocation_numbers, record_of, joined, starts_from, allocation_at, action_at}
use Rattle.write_plant.specs.Written.{out_of, some_out_of_range, bad_fields}
use Rattle.write_plant.specs.Canonical.{six_of, FittingAction}
use Rattle.write_plant.proofs.Words.{u32s_length, words_in, bytes_in}

-- ---- records one after the other

abbrev pub start : List (List ℕ) → ℕ → ℕ
start rs a = length (joined (take a rs))

pub joined_append : (rs qs : List (List ℕ)) → joined (rs ++ qs) ≡ joined rs ++ joined qs
joined_append [] qs = refl
joined_append (r ∷ rs) qs = ap (λ (l : List ℕ). r ++ l) (joined_append rs qs) ∙ sym (append_assoc r (joined rs) (joined qs))

pub joined_at : (rs : List (List ℕ)) (d : List ℕ) (a : ℕ) → a < length rs → joined rs ≡ joined (take a rs) ++ (get_or rs a d ++ joined (drop (suc a) rs))
joined_at [] d a h = absurd (omega arith)
joined_at (r ∷ rs) d zero h = refl
joined_at (r ∷ rs) d (suc a) h =
    ap (λ (l : List ℕ). r ++ l) (joined_at rs d a (omega arith))
    ∙ sym (append_assoc r (joined (take a rs)) (get_or rs a d ++ joined (drop (suc a) rs)))

pub start_next : (rs : List (List ℕ)) (d : List ℕ) (a : ℕ) → a < length rs → start rs (suc a) ≡ start rs a + length (get_or rs a d)
start_next [] d a h = absurd (omega arith)
start_next (r ∷ rs) d zero h = omega (arith, length-append r [])
start_next (r ∷ rs) d (suc a) h =
    length-append r (joined (take (suc a) rs)) ∙ omega (arith, start_next rs d a (omega arith), length-append r (joined (take a rs)))

pub start_all : (rs : List (List ℕ)) (a : ℕ) → length rs ≤ a → start rs a ≡ length (joined rs)
start_all [] zero h = refl
start_all [] (suc a) h = refl
start_all (r ∷ rs) zero h = absurd (omega arith)
start_all (r ∷ rs) (suc a) h =
    omega (arith, length-append r (joined (take a rs)), length-append r (joined rs), start_all rs a (omega arith))

pub start_most : (rs : List (List ℕ)) (a : ℕ) → start rs a ≤ length (joined rs)
start_most [] zero = omega arith
start_most [] (suc a) = omega arith
start_most (r ∷ rs) zero = omega arith
start_most (r ∷ rs) (suc a) = omega (arith, length-append r (joined (take a rs)), length-append r (joined rs), start_most rs a)

pub starts_length : (rs : List (List ℕ)) (at : ℕ) → length (starts_from at rs) ≡ length rs
starts_length [] at = refl
starts_length (r ∷ rs) at = ap suc (starts_length rs (at + length r))

pub starts_at : (rs : List (List ℕ)) (at a : ℕ) → a < length rs → get_or (starts_from at rs) a 0 ≡ at + start rs a
starts_at [] at a h = absurd (omega arith)
starts_at (r ∷ rs) at zero h = omega arith
starts_at (r ∷ rs) at (suc a) h = omega (arith, starts_at rs (at + length r) a (omega arith), length-append r (joined (take a rs)))

-- ---- one record

pub numbers_length : (xs : List AllocationFields) → length (allocation_numbers xs) ≡ 3 * length xs
numbers_length [] = refl
numbers_length (x ∷ xs) = omega (arith, numbers_length xs)

pub numbers_append : (xs ys : List AllocationFields) → allocation_numbers (xs ++ ys) ≡ allocation_numbers xs ++ allocation_numbers ys
numbers_append [] ys = refl
numbers_append (x ∷ xs) ys = ap (λ (l : List ℕ). x.resource ∷ x.offset ∷ x.length ∷ l) (numbers_append xs ys)

pub record_length : (x : ActionFields) → length (record_of x) ≡ 28 + 12 * length x.allocations
record_length x = omega (arith, u32s_length (allocation_numbers x.allocations), numbers_length x.allocations)

pub no_allocation : AllocationFields
no_allocation = record { resource = 0; offset = 0; length = 0 }

-- the three numbers of allocation k
pub numbers_at :
    (xs : List AllocationFields) (k : ℕ) → k < length xs
    → let x = get_or xs k no_allocation in
    (get_or (allocation_numbers xs) (3 * k) 0 ≡ x.resource) × (get_or (allocation_numbers xs) (3 * k + 1) 0 ≡ x.offset)
    × (get_or (allocation_numbers xs) (3 * k + 2) 0 ≡ x.length)
numbers_at [] k h = absurd (omega arith)
numbers_at (x ∷ xs) zero h = (refl, refl, refl)
numbers_at (x ∷ xs) (suc k) h =
    let this : List ℕ = x.resource ∷ x.offset ∷ x.length ∷ [] in
    let rest = numbers_at xs k (omega arith) in (
      past this (allocation_numbers xs) (3 * suc k) (3 * k) 0 (omega arith) ∙ rest.0,
      past this (allocation_numbers xs) (3 * suc k + 1) (3 * k + 1) 0 (omega arith) ∙ rest.1,
      past this (allocation_numbers xs) (3 * suc k + 2) (3 * k + 2) 0 (omega arith) ∙ rest.2,
    )

-- a record that stands behind `front`
module _ (s front back : List ℕ) (x : ActionFields) (e : s ≡ front ++ (record_of x ++ back)) where
  head : List ℕ
  head = length x.allocations ∷ 0 ∷ 0 ∷ 0 ∷ []

  -- behind the six numbers, and behind the head
  cut_head : s ≡ (front ++ u32s (six_of x)) ++ (head ++ (u32s (allocation_numbers x.allocations) ++ back))
  unfolding head
  cut_head = e ∙ sym (append_assoc front (u32s (six_of x)) (head ++ (u32s (allocation_numbers x.allocations) ++ back)))

  cut_numbers : s ≡ (front ++ (u32s (six_of x) ++ head)) ++ (u32s (allocation_numbers x.allocations) ++ back)
  unfolding head
  cut_numbers = e ∙ sym (append_assoc front (u32s (six_of x) ++ head) (u32s (allocation_numbers x.allocations) ++ back))

  in_head : (at k : ℕ) → at ≡ length front + 24 + k → k < 4 → get_or s at 0 ≡ get_or head k 0
  unfolding head
  in_head at k p h =
      bytes_in s (front ++ u32s (six_of x)) head (u32s (allocation_numbers x.allocations) ++ back) cut_head at k
      (omega (arith, length-append front (u32s (six_of x)))) h

  pub count_here : allocation_count s (length front) ≡ length x.allocations
  unfolding head
  count_here = in_head (length front + 24) 0 (omega arith) (omega arith)

  pub spare_here :
      (get_or s (length front + 25) 0 ≡ 0) × (get_or s (length front + 26) 0 ≡ 0) × (get_or s (length front + 27) 0 ≡ 0)
  unfolding head
  spare_here = (
    in_head (length front + 25) 1 (omega arith) (omega arith),
    in_head (length front + 26) 2 (omega arith) (omega arith),
    in_head (length front + 27) 3 (omega arith) (omega arith),
  )

  module _ (small : FittingAction x) where
    six_here : (at k : ℕ) → at ≡ length front + 4 * k → k < 6 → word s at ≡ get_or (six_of x) k 0
    unfolding head
    six_here at k p h = words_in s front (six_of x) (head ++ (u32s (allocation_numbers x.allocations) ++ back)) e small.six at k p h

    number_here : (at k : ℕ) → at ≡ length front + 28 + 4 * k → k < 3 * length x.allocations → word s at ≡ get_or (allocation_numbers x.allocations) k 0
    unfolding head
    number_here at k p h =
        words_in s (front ++ (u32s (six_of x) ++ head)) (allocation_numbers x.allocations) back cut_numbers small.numbers at k
        (omega (arith, length-append front (u32s (six_of x) ++ head))) (omega (arith, numbers_length x.allocations))

    allocation_here :
        (k : ℕ) → k < length x.allocations → allocation_at s (allocation_start (length front) k) ≡ get_or x.allocations k no_allocation
    allocation_here k h =
        let at : ℕ = allocation_start (length front) k in
        let are = numbers_at x.allocations k h in
        let r : word s at ≡ (get_or x.allocations k no_allocation).resource = number_here at (3 * k) (omega arith) (omega arith) ∙ are.0 in
        let o : word s (at + 4) ≡ (get_or x.allocations k no_allocation).offset = number_here (at + 4) (3 * k + 1) (omega arith) (omega arith) ∙ are.1 in
        let n : word s (at + 8) ≡ (get_or x.allocations k no_allocation).length = number_here (at + 8) (3 * k + 2) (omega arith) (omega arith) ∙ are.2 in
        rw (r, o, n) refl

    pub action_here : action_at s (length front) ≡ x
    action_here =
        let at : ℕ = length front in
        let n : ℕ = length x.allocations in
        let a : word s at ≡ x.needs_true = six_here at 0 (omega arith) (omega arith) in
        let b : word s (at + 4) ≡ x.needs_false = six_here (at + 4) 1 (omega arith) (omega arith) in
        let c : word s (at + 8) ≡ x.makes_true = six_here (at + 8) 2 (omega arith) (omega arith) in
        let d : word s (at + 12) ≡ x.makes_false = six_here (at + 12) 3 (omega arith) (omega arith) in
        let f : word s (at + 16) ≡ x.shortest = six_here (at + 16) 4 (omega arith) (omega arith) in
        let g : word s (at + 20) ≡ x.longest = six_here (at + 20) 5 (omega arith) (omega arith) in
        let held : build (λ k. allocation_at s (allocation_start at k)) (allocation_count s at) ≡ x.allocations =
        ap (build (λ k. allocation_at s (allocation_start at k))) count_here
        ∙ build_same (λ k. allocation_at s (allocation_start at k)) (λ k. get_or x.allocations k no_allocation) n allocation_here
        ∙ build_back x.allocations n no_allocation refl in
        rw (a, b, c, d, f, g, held) refl

-- ---- refusal 4

pub some_append :
    (xs : List AllocationFields) (x : AllocationFields)
    → some_out_of_range (xs ++ (x ∷ [])) ≡ (some_out_of_range xs || out_of x)
some_append [] x = or-false (out_of x)
some_append (y ∷ xs) x =
    ap (λ (b : Bool). out_of y || b) (some_append xs x)
    ∙ sym (or_assoc (out_of y) (some_out_of_range xs) (out_of x))

some_is : (s : List ℕ) (at n : ℕ) → some_bad_allocation s at n ≡ some_out_of_range (build (λ k. allocation_at s (allocation_start at k)) n)
unfolding some_bad_allocation bad_allocation build
some_is s at zero = refl
some_is s at (suc n) =
    ap (λ (b : Bool). b || bad_allocation s (allocation_start at n)) (some_is s at n)
    ∙ sym (some_append (build (λ k. allocation_at s (allocation_start at k)) n) (allocation_at s (allocation_start at n)))

pub range_is : (s : List ℕ) (at : ℕ) → bad_action s at ≡ bad_fields (action_at s at)
unfolding bad_action
range_is s at = rw (some_is s at (allocation_count s at)) refl
