-- A good file is the file of its actions. Assumes nothing.
--   record_piece     a record is the record of its action
--   start_same       records written one after the other start where the records of the file do
--   writes_back      the file written of the actions of a good file is that file
use Prim.Native.Nat.{ℕ, zero, suc, ◌+◌, ◌-◌, ◌*◌, ◌≤◌, ◌<◌}
use native.Mathlib.Omega.{arith}
use mathlib.Core.Path.{◌≡◌, refl, sym, ◌∙◌, ap, ap₂}
use mathlib.Core.List.{List, [], ◌∷◌, ◌++◌, map, append-nil, map-append}
use lib.Dec.{eqb}
use lib.ListN.{length, get_or, take, length-map, get_or-map}
use lib.Seq.{length-take-le, take-add, take-length, ext_get_or}
use borrow.Author.Tests.{eqb-true}
use Rattle.base_words.specs.Word.{word, u32s, Bytes}
use Rattle.base_lists.specs.Loops.{build}
use Rattle.base_lists.proofs.AllBelow.{both_true}
use Rattle.base_lists.proofs.Build.{build_length, build_at, build_add}
use Rattle.read_plant.specs.Plant.{is_mark, trailer_of, allocation_count, allocation_start, record_start, record_end}
use Rattle.read_plant.proofs.Good.{Good}
use Rattle.write_plant.specs.Written.{AllocationFields, ActionFields, no_action, allocation_numbers, record_of, joined, starts_from, mark, written}
use Rattle.write_plant.specs.Written.{allocation_at, action_at, actions_in}
use Rattle.write_plant.proofs.Words.{piece, piece_add, piece_next, pieces}
use Rattle.write_plant.proofs.Records.{joined_append, start, start_next, starts_length, starts_at, numbers_append, record_length}

-- ---- one record

module _ (s : List ℕ) (all : Bytes s) where
  -- the numbers of n allocations are 3 * n words
  pub numbers_are :
      (at n : ℕ) → allocation_numbers (build (λ k. allocation_at s (allocation_start at k)) n) ≡ build (λ j. word s (at + 28 + 4 * j)) (3 * n)
  unfolding build
  numbers_are at zero = refl
  numbers_are at (suc n) =
      let g : ℕ → ℕ = λ j. word s (at + 28 + 4 * j) in
      let here : ℕ = allocation_start at n in
      let one : word s here ≡ g (3 * n + 0) = ap (word s) (omega arith) in
      let two : word s (here + 4) ≡ g (3 * n + 1) = ap (word s) (omega arith) in
      let three : word s (here + 8) ≡ g (3 * n + 2) = ap (word s) (omega arith) in
      numbers_append (build (λ k. allocation_at s (allocation_start at k)) n) (allocation_at s here ∷ [])
      ∙ ap₂ ◌++◌ (numbers_are at n) (ap₂ ◌∷◌ one (ap₂ ◌∷◌ two (ap₂ ◌∷◌ three refl)))
      ∙ sym (build_add g (3 * n) 3)
      ∙ ap (build g) {x = 3 * n + 3} {y = 3 * suc n} (omega arith)

  six_piece :
      (at : ℕ) → at + 24 ≤ length s
      → piece s at 24
      ≡ u32s (word s at ∷ word s (at + 4) ∷ word s (at + 8) ∷ word s (at + 12) ∷ word s (at + 16) ∷ word s (at + 20) ∷ [])
  unfolding build
  six_piece at h =
      pieces s at 6 all h
      ∙ ap (λ (k : ℕ). u32s (word s k ∷ word s (at + 4) ∷ word s (at + 8) ∷ word s (at + 12) ∷ word s (at + 16) ∷ word s (at + 20) ∷ []))
      {x = at + 0} {y = at} (omega arith)

  four_piece :
      (at a b c d : ℕ) → at + 4 ≤ length s → get_or s at 0 ≡ a → get_or s (at + 1) 0 ≡ b → get_or s (at + 2) 0 ≡ c → get_or s (at + 3) 0 ≡ d
      → piece s at 4 ≡ a ∷ b ∷ c ∷ d ∷ []
  four_piece at a b c d h ea eb ec ed =
      piece_next s at (at + 1) 3 (omega arith) (omega arith)
      ∙ ap₂ ◌∷◌ ea
      (piece_next s (at + 1) (at + 2) 2 (omega arith) (omega arith)
      ∙ ap₂ ◌∷◌ eb
      (piece_next s (at + 2) (at + 3) 1 (omega arith) (omega arith)
      ∙ ap₂ ◌∷◌ ec (piece_next s (at + 3) (at + 4) 0 (omega arith) (omega arith) ∙ ap₂ ◌∷◌ ed refl)))

  -- the part that holds the allocations
  pub allocations_piece :
      (at : ℕ) → at + 28 + 12 * allocation_count s at ≤ length s
      → piece s (at + 28) (12 * allocation_count s at) ≡ u32s (allocation_numbers (action_at s at).allocations)
  allocations_piece at h =
      let n : ℕ = allocation_count s at in
      ap (piece s (at + 28)) {x = 12 * n} {y = 4 * (3 * n)} (omega arith) ∙ pieces s (at + 28) (3 * n) all (omega arith)
      ∙ ap u32s (sym (numbers_are at n))

  record_piece :
      (at : ℕ) → at + 28 + 12 * allocation_count s at ≤ length s → (get_or s (at + 25) 0 ≡ 0) × (get_or s (at + 26) 0 ≡ 0) × (get_or s (at + 27) 0 ≡ 0)
      → piece s at (28 + 12 * allocation_count s at) ≡ record_of (action_at s at)
  record_piece at h spare =
      let n : ℕ = allocation_count s at in
      let held : List AllocationFields = build (λ k. allocation_at s (allocation_start at k)) n in
      let head : piece s (at + 24) 4 ≡ length held ∷ 0 ∷ 0 ∷ 0 ∷ [] =
      four_piece (at + 24) (length held) 0 0 0 (omega arith) (sym (build_length (λ k. allocation_at s (allocation_start at k)) n))
      (ap (λ (k : ℕ). get_or s k 0) {x = at + 24 + 1} {y = at + 25} (omega arith) ∙ spare.0)
      (ap (λ (k : ℕ). get_or s k 0) {x = at + 24 + 2} {y = at + 26} (omega arith) ∙ spare.1)
      (ap (λ (k : ℕ). get_or s k 0) {x = at + 24 + 3} {y = at + 27} (omega arith) ∙ spare.2) in
      piece_add s at 28 (12 * n) ∙ ap₂ ◌++◌ (piece_add s at 24 4 ∙ ap₂ ◌++◌ (six_piece at (omega arith)) head) (allocations_piece at h)

  -- ---- the records one after the other

  module _ (g : Good s) where
    abbrev n : ℕ
    n = (trailer_of s).count

    abbrev at_index : ℕ
    at_index = (trailer_of s).index

    abbrev action : ℕ → ActionFields
    action a = action_at s (record_start s a)

    abbrev rs : List (List ℕ)
    rs = map record_of (actions_in s)

    many : length rs ≡ n
    many = length-map (actions_in s) record_of ∙ build_length action n

    record_is : (a : ℕ) → a < n → get_or rs a (record_of no_action) ≡ record_of (action a)
    record_is a h = get_or-map record_of (actions_in s) a no_action ∙ ap record_of (build_at action n a no_action h)

    record_long : (a : ℕ) → a < n → length (record_of (action a)) ≡ 28 + 12 * allocation_count s (record_start s a)
    record_long a h =
        record_length (action a)
        ∙ ap (λ (k : ℕ). 28 + 12 * k) (build_length (λ k. allocation_at s (allocation_start (record_start s a) k)) (allocation_count s (record_start s a)))

    start_same : (a : ℕ) → a ≤ n → start rs a ≡ record_start s a
    unfolding record_start
    start_same zero h = refl
    start_same (suc a) h =
        start_next rs (record_of no_action) a (omega (arith, many))
        ∙ ap (λ (l : List ℕ). start rs a + length l) (record_is a (omega arith))
        ∙ omega (arith, start_same a (omega arith), record_long a (omega arith))

    -- the file up to record a
    joined_piece : (a : ℕ) → a ≤ n → joined (map record_of (build action a)) ≡ take (record_start s a) s
    unfolding build record_start
    joined_piece zero h = refl
    joined_piece (suc a) h =
        let at : ℕ = record_start s a in
        let place = g.in_place a (omega arith) in
        let inside = place.within in
        let whole = g.layout in
        let size : ℕ = 28 + 12 * allocation_count s at in
        ap joined (map-append record_of (build action a) (action a ∷ []))
        ∙ joined_append (map record_of (build action a)) (record_of (action a) ∷ [])
        ∙ ap₂ ◌++◌ (joined_piece a (omega arith))
        (append-nil (record_of (action a)) ∙ sym (record_piece at (omega (arith, inside, whole)) place.spare))
        ∙ sym (take-add at size s)
        ∙ ap (λ (k : ℕ). take k s) {x = at + size} {y = record_end s at} (omega arith)

    -- the last record ends where the index starts
    ends_is : record_start s n ≡ at_index
    unfolding record_start
    ends_is = go n refl
      where
        go : (k : ℕ) → n ≡ k → record_start s n ≡ at_index
        go zero e = absurd (omega (arith, g.some))
        go (suc k) e =
            let place = g.in_place k (omega arith) in
            let most = place.within in
            let least = place.ends (omega arith) in
            ap (record_start s) e ∙ omega (arith, most, least)

    -- ---- index and trailer

    index_piece : piece s at_index (4 * n) ≡ u32s (starts_from 0 rs)
    index_piece =
        pieces s at_index n all (omega (arith, g.layout))
        ∙ ap u32s
        (ext_get_or 0 (build (λ k. word s (at_index + 4 * k)) n) (starts_from 0 rs)
        (build_length (λ k. word s (at_index + 4 * k)) n ∙ sym (starts_length rs 0 ∙ many))
        λ a h. entry a (omega (arith, build_length (λ k. word s (at_index + 4 * k)) n)))
      where
        entry : (a : ℕ) → a < n → get_or (build (λ k. word s (at_index + 4 * k)) n) a 0 ≡ get_or (starts_from 0 rs) a 0
        entry a h =
            build_at (λ k. word s (at_index + 4 * k)) n a 0 h ∙ (g.in_place a h).entry
            ∙ omega (arith, start_same a (omega arith), starts_at rs 0 a (omega (arith, many)))

    mark_piece : piece s (length s - 4) 4 ≡ mark
    unfolding is_mark
    mark_piece =
        let at : ℕ = length s - 4 in
        let one = both_true (eqb (get_or s at 0) 0x50) _ g.mark in
        let two = both_true (eqb (get_or s (at + 1) 0) 0x4C) _ one.1 in
        let three = both_true (eqb (get_or s (at + 2) 0) 0x4E) (eqb (get_or s (at + 3) 0) 0x54) two.1 in
        four_piece at 0x50 0x4C 0x4E 0x54 (omega (arith, g.long)) (eqb-true _ _ one.0) (eqb-true _ _ two.0) (eqb-true _ _ three.0)
        (eqb-true _ _ three.1)

    trailer_piece : piece s (at_index + 4 * n) 8 ≡ u32s (length (joined rs) ∷ length rs ∷ [])
    unfolding build trailer_of
    trailer_piece =
        let at : ℕ = at_index + 4 * n in
        let first : word s (at + 0) ≡ length (joined rs) =
        ap (word s) {x = at + 0} {y = length s - 12} (omega (arith, g.layout))
        ∙ sym (ap length (joined_piece n (omega arith)) ∙ length-take-le (record_start s n) s (omega (arith, ends_is, g.layout)) ∙ ends_is) in
        let second : word s (at + 4) ≡ length rs = ap (word s) {x = at + 4} {y = length s - 8} (omega (arith, g.layout)) ∙ sym many in
        pieces s at 2 all (omega (arith, g.layout)) ∙ ap₂ (λ (i k : ℕ). u32s (i ∷ k ∷ [])) first second

    pub writes_back : written (actions_in s) ≡ s
    writes_back =
        let whole = g.layout in
        let records : joined rs ≡ take at_index s = joined_piece n (omega arith) ∙ ap (λ (k : ℕ). take k s) ends_is in
        sym (
        sym (take-length s)
        ∙ ap (λ (k : ℕ). take k s) {x = length s} {y = at_index + 4 * n + 8 + 4} (omega (arith, whole))
        ∙ take-add (at_index + 4 * n + 8) 4 s
        ∙ ap₂ ◌++◌
        (take-add (at_index + 4 * n) 8 s ∙ ap₂ ◌++◌ (take-add at_index (4 * n) s ∙ ap₂ ◌++◌ (sym records) index_piece) trailer_piece)
        (ap (λ (k : ℕ). piece s k 4) {x = at_index + 4 * n + 8} {y = length s - 4} (omega (arith, whole)) ∙ mark_piece)
        )
