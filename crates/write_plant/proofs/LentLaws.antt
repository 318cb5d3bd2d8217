-- Actions lent as words, their records and their file, part by part. Assumes nothing.
--   lent_numbers     the numbers of n allocations are 3 * n words
--   record_stored    a record stored in three parts
--   lent_none, lent_next   the records of no action, of one action more;  lent_longer: how long they are;  lent_most, lent_few: and at most
--   records_turn     a loop's turn: one record more, and its start in the index
--   starts_lent      the index
--   file_stored      a file stored in three parts
use Prim.Native.Nat.{ℕ, zero, suc, ◌+◌, ◌-◌, ◌*◌, ◌≤◌}
use native.Mathlib.Omega.{arith}
use mathlib.Core.Path.{◌≡◌, refl, sym, ◌∙◌, ap, ap₂}
use mathlib.Core.List.{List, [], ◌∷◌, ◌++◌, map, append-nil, append_assoc, map-append}
use lib.ListN.{length, get_or, length-append, length-map}
use lib.Seq.{sets}
use Rattle.base_words.specs.Word.{u32, u32s}
use Rattle.base_lists.specs.Loops.{build}
use Rattle.base_lists.proofs.Build.{build_length, build_add, build_more}
use Rattle.write_plant.specs.Written.{AllocationFields, ActionFields, allocation_numbers, record_of, joined, starts_from, mark, file_of}
use Rattle.write_plant.specs.Lent.{allocation_in, action_from, action_in}
use Rattle.write_plant.specs.Parts.{lent_records, FewEach}
use Rattle.write_plant.proofs.Words.{u32s_length}
use Rattle.write_plant.proofs.Records.{record_length, numbers_append, joined_append}
use Rattle.write_plant.proofs.Stored.{sets_append, sets_comm, words_turn}

-- ---- one record

pub lent_numbers :
    (w : List ℕ) (at n : ℕ) → allocation_numbers (build (λ k. allocation_in w (at + 3 * k)) n) ≡ build (λ j. get_or w (at + j) 0) (3 * n)
unfolding build
lent_numbers w at zero = refl
lent_numbers w at (suc n) =
    let g : ℕ → ℕ = λ j. get_or w (at + j) 0 in
    let here : ℕ = at + 3 * n in
    let word : ℕ → ℕ = λ i. get_or w i 0 in
    let one : get_or w here 0 ≡ g (3 * n + 0) = ap word {x = here} {y = at + (3 * n + 0)} (omega arith) in
    let two : get_or w (here + 1) 0 ≡ g (3 * n + 1) = ap word {x = here + 1} {y = at + (3 * n + 1)} (omega arith) in
    let three : get_or w (here + 2) 0 ≡ g (3 * n + 2) = ap word {x = here + 2} {y = at + (3 * n + 2)} (omega arith) in
    numbers_append (build (λ k. allocation_in w (at + 3 * k)) n) (allocation_in w here ∷ [])
    ∙ ap₂ ◌++◌ (lent_numbers w at n) (ap₂ ◌∷◌ one (ap₂ ◌∷◌ two (ap₂ ◌∷◌ three refl)))
    ∙ sym (build_add g (3 * n) 3)
    ∙ ap (build g) {x = 3 * n + 3} {y = 3 * suc n} (omega arith)

-- the record, in the three parts that are stored
lent_record :
    (w : List ℕ) (from n : ℕ) → n ≡ get_or w (from + 6) 0
    → record_of (action_from w from)
    ≡ u32s (build (λ k. get_or w (from + k) 0) 6) ++ (n ∷ 0 ∷ 0 ∷ 0 ∷ []) ++ u32s (build (λ k. get_or w (from + 7 + k) 0) (3 * n))
unfolding build
lent_record w from n e =
    let f : ℕ → AllocationFields = λ k. allocation_in w (from + 7 + 3 * k) in
    let first : get_or w from 0 ≡ get_or w (from + 0) 0 = ap (λ (i : ℕ). get_or w i 0) {x = from} {y = from + 0} (omega arith) in
    rw (← e, build_length f n, lent_numbers w (from + 7) n, first) refl

pub record_stored :
    (w s : List ℕ) (at from n : ℕ) (x y z : List ℕ) → n ≡ get_or w (from + 6) 0
    → x ≡ sets s at (u32s (build (λ k. get_or w (from + k) 0) 6)) → y ≡ sets x (at + 24) (n ∷ 0 ∷ 0 ∷ 0 ∷ [])
    → z ≡ sets y (at + 28) (u32s (build (λ k. get_or w (from + 7 + k) 0) (3 * n))) → z ≡ sets s at (record_of (action_from w from))
record_stored w s at from n x y z e ex ey ez =
    let six : List ℕ = u32s (build (λ k. get_or w (from + k) 0) 6) in
    let head : List ℕ = n ∷ 0 ∷ 0 ∷ 0 ∷ [] in
    let rest : List ℕ = u32s (build (λ k. get_or w (from + 7 + k) 0) (3 * n)) in
    let long : length six ≡ 24 = u32s_length (build (λ k. get_or w (from + k) 0) 6) ∙ ap (λ (k : ℕ). 4 * k) (build_length (λ k. get_or w (from + k) 0) 6) in
    ez
    ∙ ap (λ (l : List ℕ). sets l (at + 28) rest)
    (ey ∙ ap (λ (l : List ℕ). sets l (at + 24) head) ex ∙ sym (sets_append s at six head (at + 24) (omega (arith, long))))
    ∙ sym (sets_append s at (six ++ head) rest (at + 28) (omega (arith, length-append six head, long)))
    ∙ ap (sets s at) (sym (lent_record w from n e))

-- ---- the records one after the other

pub lent_none : (w : List ℕ) → lent_records w 0 ≡ []
unfolding build
lent_none w = refl

module _ (w : List ℕ) where
  pub lent_next : (k : ℕ) → lent_records w (k + 1) ≡ lent_records w k ++ record_of (action_in w k)
  lent_next k =
      ap (λ (l : List ActionFields). joined (map record_of l)) (build_more (action_in w) k)
      ∙ ap joined (map-append record_of (build (action_in w) k) (action_in w k ∷ []))
      ∙ joined_append (map record_of (build (action_in w) k)) (record_of (action_in w k) ∷ [])
      ∙ ap (λ (l : List ℕ). lent_records w k ++ l) (append-nil (record_of (action_in w k)))

  pub lent_longer : (k : ℕ) → length (lent_records w (k + 1)) ≡ length (lent_records w k) + 28 + 12 * get_or w (19 * k + 6) 0
  lent_longer k =
      let f : ℕ → AllocationFields = λ i. allocation_in w (19 * k + 7 + 3 * i) in
      ap length (lent_next k) ∙ length-append (lent_records w k) (record_of (action_in w k))
      ∙ omega (arith, record_length (action_in w k), build_length f (get_or w (19 * k + 6) 0))

  -- the length of the records of k actions
  abbrev long : ℕ → ℕ
  long k = length (lent_records w k)

  long_by : (a d k : ℕ) → k ≡ a + d → long a ≤ long k
  long_by a zero k e = let same : long a ≡ long k = ap long {x = a} {y = k} (omega arith) in omega (arith, same)
  long_by a (suc d) k e =
      let next : long k ≡ long (a + d + 1) = ap long {x = k} {y = a + d + 1} (omega arith) in
      omega (arith, next, long_by a d (a + d) refl, lent_longer (a + d))

  pub lent_most : (a k : ℕ) → a ≤ k → length (lent_records w a) ≤ length (lent_records w k)
  lent_most a k h = long_by a (k - a) k (omega arith)

  pub lent_few : (n : ℕ) → FewEach w n → length (lent_records w n) ≤ 76 * n
  lent_few zero few = let none : long 0 ≡ 0 = ap length (lent_none w) in omega (arith, none)
  lent_few (suc n) few =
      let next : long (suc n) ≡ long (n + 1) = ap long {x = suc n} {y = n + 1} (omega arith) in
      omega (arith, next, lent_longer n, few n (omega arith), lent_few n (λ a h. few a (omega arith)))

  -- a turn: one record more in front, and one start more in the index behind
  pub records_turn :
      (s : List ℕ) (index k at from : ℕ) (m x y : List ℕ)
      → m ≡ sets (sets s 0 (lent_records w k)) index (u32s (build (λ a. length (lent_records w a)) k)) → at ≡ length (lent_records w k) → from ≡ 19 * k
      → length (lent_records w (k + 1)) ≤ index → x ≡ sets m at (record_of (action_from w from)) → y ≡ sets x (index + 4 * k) (u32 at)
      → y ≡ sets (sets s 0 (lent_records w (k + 1))) index (u32s (build (λ a. length (lent_records w a)) (k + 1)))
  records_turn s index k at from m x y em ea ef room ex ey =
      let r : List ℕ = record_of (action_in w k) in
      let starts : List ℕ = u32s (build long k) in
      let fits : at + length r ≤ index = omega (arith, ap length (lent_next k), length-append (lent_records w k) r) in
      let front : x ≡ sets (sets s 0 (lent_records w (k + 1))) index starts =
      ex
      ∙ ap₂ (λ (l : List ℕ) (i : ℕ). sets l at (record_of (action_from w i))) em ef
      ∙ sets_comm (sets s 0 (lent_records w k)) at r index starts fits
      ∙ ap (λ (l : List ℕ). sets l index starts)
      (sym (sets_append s 0 (lent_records w k) r at (omega arith)) ∙ ap (sets s 0) (sym (lent_next k))) in
      words_turn (sets s 0 (lent_records w (k + 1))) index long k (index + 4 * k) x y front refl
      (ey ∙ ap (λ (v : ℕ). sets x (index + 4 * k) (u32 v)) ea)

  -- ---- the whole file

  starts_append : (at : ℕ) (rs : List (List ℕ)) (r : List ℕ) → starts_from at (rs ++ (r ∷ [])) ≡ starts_from at rs ++ ((at + length (joined rs)) ∷ [])
  starts_append at [] r = ap (λ (k : ℕ). k ∷ []) {x = at} {y = at + 0} (omega arith)
  starts_append at (q ∷ rs) r =
      ap (◌∷◌ at)
      (starts_append (at + length q) rs r
      ∙ ap (λ (k : ℕ). starts_from (at + length q) rs ++ (k ∷ [])) {x = at + length q + length (joined rs)} {y = at + length (q ++ joined rs)}
      (omega (arith, length-append q (joined rs))))

  pub starts_lent : (n : ℕ) → starts_from 0 (map record_of (build (action_in w) n)) ≡ build (λ a. length (lent_records w a)) n
  unfolding build
  starts_lent zero = refl
  starts_lent (suc n) =
      ap (starts_from 0) (map-append record_of (build (action_in w) n) (action_in w n ∷ []))
      ∙ starts_append 0 (map record_of (build (action_in w) n)) (record_of (action_in w n))
      ∙ ap (λ (k : ℕ). starts_from 0 (map record_of (build (action_in w) n)) ++ (k ∷ [])) {x = 0 + long n} {y = long n} (omega arith)
      ∙ ap (λ (l : List ℕ). l ++ (long n ∷ [])) (starts_lent n)

  pub file_stored :
      (s : List ℕ) (n index : ℕ) (y z : List ℕ) → index ≡ length (lent_records w n)
      → y ≡ sets (sets s 0 (lent_records w n)) index (u32s (build (λ a. length (lent_records w a)) n))
      → z ≡ sets y (index + 4 * n) (u32s (index ∷ n ∷ []) ++ mark)
      → z ≡ sets s 0 (file_of (map record_of (build (action_in w) n)))
  file_stored s n index y z e ey ez =
      let rs : List (List ℕ) = map record_of (build (action_in w) n) in
      let starts : List ℕ = build (λ a. length (lent_records w a)) n in
      let trailer : List ℕ = u32s (index ∷ n ∷ []) in
      let many : length rs ≡ n = length-map (build (action_in w) n) record_of ∙ build_length (action_in w) n in
      let size : length (u32s starts) ≡ 4 * n = u32s_length starts ∙ ap (λ (k : ℕ). 4 * k) (build_length (λ a. length (lent_records w a)) n) in
      ez
      ∙ ap (λ (l : List ℕ). sets l (index + 4 * n) (trailer ++ mark))
      (ey ∙ sym (sets_append s 0 (lent_records w n) (u32s starts) index (omega arith)))
      ∙ sym (sets_append s 0 (lent_records w n ++ u32s starts) (trailer ++ mark) (index + 4 * n)
      (omega (arith, length-append (lent_records w n) (u32s starts), size)))
      ∙ ap (sets s 0) (sym (append_assoc (lent_records w n ++ u32s starts) trailer mark))
      ∙ ap (λ (l : List ℕ). sets s 0 (lent_records w n ++ u32s l ++ trailer ++ mark)) (sym (starts_lent n))
      ∙ ap₂ (λ (i k : ℕ). sets s 0 (lent_records w n ++ u32s (starts_from 0 rs) ++ u32s (i ∷ k ∷ []) ++ mark)) e (sym many)
