-- What the reader finds in the file of a list of actions. Assumes nothing.
--   file_length         how long the file is
--   file_rules        the reader rules on the file as the writer rules on the actions
--   reads_back          the actions of the file are the actions
use Prim.Native.Nat.{ℕ, zero, suc, ◌+◌, ◌-◌, ◌*◌, ◌≤◌, ◌<◌}
use native.Mathlib.Decide.{dec_le}
use native.Mathlib.Omega.{arith}
use mathlib.Core.Path.{◌≡◌, refl, sym, ◌∙◌, ap}
use mathlib.Core.Bool.{Bool, true, false, cond, not, ◌&&◌, ◌||◌, or-false, and-false}
use mathlib.Core.List.{List, [], ◌∷◌, ◌++◌, map, append_assoc}
use lib.Dec.{ltb, eqb}
use lib.ListN.{length, get_or, take, drop, length-append, length-map, get_or-map}
use borrow.Author.Tests.{lt-ltb, le-ltb, ltb-false, eq-eqb, ne_eqb}
use Rattle.base_words.specs.Word.{word, u32s}
use Rattle.base_lists.specs.All.{All}
use Rattle.base_lists.specs.Loops.{build}
use Rattle.base_lists.proofs.All.{all_at, all_from}
use Rattle.base_lists.proofs.Build.{build_same, build_back}
use Rattle.base_rulings.proofs.RulingLaws.{first_same}
use Rattle.base_rulings.specs.Order.{first_refusal, refusal_of}
use Rattle.base_rulings.specs.Answer.{cause, refuse, refused}
use Rattle.base_rulings.specs.declared.Ruling.TheVariants.{Accepted}
use Rattle.std.specs.Prelude.{Ok, Err}
use Rattle.read_plant.specs.Plant.{is_mark, trailer_of, bad_layout, record_end, record_start, bad_head, bad_record, bad_action, record_at}
use Rattle.read_plant.specs.Plant.{record_ruling, plant_ruling}
use Rattle.write_plant.specs.Written.{ActionFields, no_action, record_of, joined, starts_from, mark, written, action_at, actions_in, bad_fields, action_ruling}
use Rattle.write_plant.specs.Written.{actions_ruling}
use Rattle.write_plant.specs.Canonical.{Small, FittingAction, Fitting}
use Rattle.write_plant.proofs.Words.{AllSmall, u32s_length, words_in, bytes_in}
use Rattle.write_plant.proofs.Records.{start, joined_at, start_next, start_all, start_most, starts_length, starts_at, record_length}
use Rattle.write_plant.proofs.Records.{count_here, spare_here, action_here, range_is}

-- no record is longer than 28 + 12 * 255 bytes
few_bytes : (acts : List ActionFields) → All FittingAction acts → length (joined (map record_of acts)) ≤ 3088 * length acts
few_bytes [] small = omega arith
few_bytes (x ∷ acts) small =
    let few = small.0.few in
    omega (arith, length-append (record_of x) (joined (map record_of acts)), record_length x, few, few_bytes acts small.1)

-- ---- the parts of a file

module _ (acts : List ActionFields) where
  abbrev rs : List (List ℕ)
  rs = map record_of acts

  -- where the index starts
  abbrev ends : ℕ
  ends = length (joined rs)

  abbrev index : List ℕ
  index = u32s (starts_from 0 rs)

  abbrev trailer : List ℕ
  trailer = u32s (ends ∷ length rs ∷ [])

  abbrev front : ℕ → List ℕ
  front a = joined (take a rs)

  abbrev back : ℕ → List ℕ
  back a = joined (drop (suc a) rs) ++ (index ++ (trailer ++ mark))

  cut_index : written acts ≡ joined rs ++ (index ++ (trailer ++ mark))
  cut_index = append_assoc (joined rs ++ index) trailer mark ∙ append_assoc (joined rs) index (trailer ++ mark)

  cut_record : (a : ℕ) → a < length acts → written acts ≡ front a ++ (record_of (get_or acts a no_action) ++ back a)
  cut_record a h =
      let r : List ℕ = get_or rs a (record_of no_action) in
      let rest : List ℕ = joined (drop (suc a) rs) in
      let behind : List ℕ = index ++ (trailer ++ mark) in
      cut_index
      ∙ ap (λ (l : List ℕ). l ++ behind) (joined_at rs (record_of no_action) a (omega (arith, length-map acts record_of)))
      ∙ append_assoc (front a) (r ++ rest) behind
      ∙ ap (λ (l : List ℕ). front a ++ l) (append_assoc r rest behind)
      ∙ ap (λ (l : List ℕ). front a ++ (l ++ back a)) (get_or-map record_of acts a no_action)

  cut_trailer : written acts ≡ (joined rs ++ index) ++ (u32s (ends ∷ []) ++ (u32s (length rs ∷ []) ++ mark))
  cut_trailer = append_assoc (joined rs ++ index) trailer mark

  cut_count : written acts ≡ ((joined rs ++ index) ++ u32s (ends ∷ [])) ++ (u32s (length rs ∷ []) ++ mark)
  cut_count = cut_trailer ∙ sym (append_assoc (joined rs ++ index) (u32s (ends ∷ [])) (u32s (length rs ∷ []) ++ mark))

  index_length : length (joined rs ++ index) ≡ ends + 4 * length acts
  index_length =
      length-append (joined rs) index ∙ omega (arith, u32s_length (starts_from 0 rs), starts_length rs 0, length-map acts record_of)

  pub file_length : length (written acts) ≡ ends + 4 * length acts + 12
  file_length =
      length-append (joined rs ++ index ++ trailer) mark
      ∙ omega (arith, length-append (joined rs ++ index) trailer, index_length)

  -- ---- the trailer

  marked : is_mark (written acts) (length (written acts) - 4) ≡ true
  unfolding is_mark
  marked =
      let at : ℕ = length (written acts) - 4 in
      rw (byte at 0 (omega arith) (omega arith), byte (at + 1) 1 refl (omega arith), byte (at + 2) 2 refl (omega arith), byte (at + 3) 3 refl (omega arith))
      refl
    where
      byte : (at k : ℕ) → at ≡ length (written acts) - 4 + k → k < 4 → get_or (written acts) at 0 ≡ get_or mark k 0
      byte at k e h =
          bytes_in (written acts) (joined rs ++ index ++ trailer) mark [] refl at k
          (omega (arith, file_length, length-append (joined rs ++ index) trailer, index_length)) h

  count_is : Small (length acts) → (trailer_of (written acts)).count ≡ length acts
  unfolding trailer_of
  count_is h =
      words_in (written acts) ((joined rs ++ index) ++ u32s (ends ∷ [])) (length rs ∷ []) mark cut_count
      (omega (arith, length-map acts record_of), tt) (length (written acts) - 8) 0
      (omega (arith, file_length, length-append (joined rs ++ index) (u32s (ends ∷ [])), index_length)) (omega arith)
      ∙ length-map acts record_of

  index_is : Small ends → (trailer_of (written acts)).index ≡ ends
  unfolding trailer_of
  index_is h =
      words_in (written acts) (joined rs ++ index) (ends ∷ []) (u32s (length rs ∷ []) ++ mark) cut_trailer (h, tt)
      (length (written acts) - 12) 0 (omega (arith, file_length, index_length)) (omega arith)

  -- ---- the records

  module _ (small : Fitting acts) where
    small_at : (a : ℕ) → a < length acts → FittingAction (get_or acts a no_action)
    small_at a h = all_at FittingAction acts no_action small.each a h

    start_after : (a : ℕ) → a < length acts → start rs (suc a) ≡ start rs a + 28 + 12 * length (get_or acts a no_action).allocations
    start_after a h =
        start_next rs (record_of no_action) a (omega (arith, length-map acts record_of))
        ∙ ap (λ (l : List ℕ). start rs a + length l) (get_or-map record_of acts a no_action)
        ∙ omega (arith, record_length (get_or acts a no_action))

    -- where the reader looks for record a
    start_is : (a : ℕ) → a ≤ length acts → record_start (written acts) a ≡ start rs a
    unfolding record_start
    start_is zero h = refl
    start_is (suc a) h =
        ap (record_end (written acts)) (start_is a (omega arith))
        ∙ omega (arith, count_here (written acts) (front a) (back a) (get_or acts a no_action) (cut_record a (omega arith)), start_after a (omega arith))

    pub action_is : (a : ℕ) → a < length acts → action_at (written acts) (record_start (written acts) a) ≡ get_or acts a no_action
    action_is a h =
        ap (action_at (written acts)) (start_is a (omega arith))
        ∙ action_here (written acts) (front a) (back a) (get_or acts a no_action) (cut_record a h) (small_at a h)

    pub reads_back : actions_in (written acts) ≡ acts
    reads_back =
        let f : ℕ → ActionFields = λ a. action_at (written acts) (record_start (written acts) a) in
        ap (build f) (count_is small.few)
        ∙ build_same f (λ a. get_or acts a no_action) (length acts) action_is
        ∙ build_back acts (length acts) no_action refl

    -- ---- the ruling

    -- of a file whose index starts where its trailer can say
    module _ (right : Small ends) (a : ℕ) (h : a < length acts) where
      abbrev x : ActionFields
      x = get_or acts a no_action

      entry_is : eqb (word (written acts) ((trailer_of (written acts)).index + 4 * a)) (start rs a) ≡ true
      entry_is =
          let entry : ℕ = (trailer_of (written acts)).index + 4 * a in
          let many = length-map acts record_of in
          let held = words_in (written acts) (joined rs) (starts_from 0 rs) (trailer ++ mark) cut_index starts_small entry a
          (omega (arith, index_is right)) (omega (arith, starts_length rs 0, many)) in
          eq-eqb (word (written acts) entry) (start rs a) (omega (arith, held, starts_at rs 0 a (omega (arith, many))))
        where
          starts_small : AllSmall (starts_from 0 rs)
          starts_small =
              all_from Small (starts_from 0 rs) 0 λ k h. omega (arith, starts_at rs 0 k (omega (arith, starts_length rs 0)), start_most rs k, right)

      head_is : bad_head (written acts) (start rs a) ≡ ltb 4 (length x.allocations)
      unfolding bad_head
      head_is =
          let spare = spare_here (written acts) (front a) (back a) x (cut_record a h) in
          rw (count_here (written acts) (front a) (back a) x (cut_record a h), spare.0, spare.1, spare.2) (or-false _)

      end_is : record_end (written acts) (start rs a) ≡ start rs (suc a)
      end_is = omega (arith, count_here (written acts) (front a) (back a) x (cut_record a h), start_after a h)

      -- only the last record must end where the index starts, and it does
      last_is :
          (eqb (a + 1) (trailer_of (written acts)).count && ltb (record_end (written acts) (start rs a)) (trailer_of (written acts)).index) ≡ false
      last_is = go (dec_le (length acts) (a + 1))
        where
          go : Dec (length acts ≤ a + 1)
              → (eqb (a + 1) (trailer_of (written acts)).count && ltb (record_end (written acts) (start rs a)) (trailer_of (written acts)).index) ≡ false
          go (yes l) =
              let all : start rs (suc a) ≡ ends = start_all rs (suc a) (omega (arith, length-map acts record_of)) in
              rw (le-ltb (record_end (written acts) (start rs a)) (trailer_of (written acts)).index (omega (arith, end_is, all, index_is right)))
              (and-false (eqb (a + 1) (trailer_of (written acts)).count))
          go (no l) =
              rw (ne_eqb (a + 1) (trailer_of (written acts)).count (λ q. l (omega (arith, q, count_is small.few)))) refl

      place_is : bad_record (written acts) (trailer_of (written acts)) a (start rs a) ≡ ltb 4 (length x.allocations)
      unfolding bad_record
      place_is =
          let within : ltb (trailer_of (written acts)).index (record_end (written acts) (start rs a)) ≡ false =
          le-ltb (trailer_of (written acts)).index (record_end (written acts) (start rs a)) (omega (arith, end_is, index_is right, start_most rs (suc a))) in
          rw (entry_is, within, last_is, head_is) (or-false (ltb 4 (length x.allocations)))

      ruling_is : record_ruling (written acts) a ≡ action_ruling acts a
      unfolding record_ruling record_at action_ruling
      ruling_is =
          let at = start_is a (omega arith) in
          let range : bad_action (written acts) (start rs a) ≡ bad_fields x =
          range_is (written acts) (start rs a) ∙ ap bad_fields (ap (action_at (written acts)) (sym at) ∙ action_is a h) in
          rw (at, place_is, range) (go (ltb 4 (length x.allocations)) (bad_fields x) (record_end (written acts) (start rs a)))
        where
          go : (p q : Bool) (end : ℕ)
              → refusal_of (cond p (Err (cause 3 a)) (cond q (Err (cause 4 a)) (Ok end))) ≡ cond p (refused 3 a) (cond q (refused 4 a) Accepted)
          go true q end = refl
          go false true end = refl
          go false false end = refl

    few_ends : length acts ≤ 128 → Small ends
    few_ends h = omega (arith, few_bytes acts small.each)

    layout_is : bad_layout (trailer_of (written acts)) (length (written acts)) ≡ (ltb (length acts) 1 || ltb 128 (length acts))
    unfolding bad_layout
    layout_is = rw (count_is small.few) (go (dec_le (length acts) 128))
      where
        go : Dec (length acts ≤ 128)
            → (ltb (length acts) 1 || (ltb 128 (length acts) || not (eqb ((trailer_of (written acts)).index + 4 * length acts + 12) (length (written acts)))))
            ≡ (ltb (length acts) 1 || ltb 128 (length acts))
        go (yes h) =
            rw (eq-eqb ((trailer_of (written acts)).index + 4 * length acts + 12) (length (written acts)) (omega (arith, index_is (few_ends h), file_length)))
            (ap (λ (b : Bool). ltb (length acts) 1 || b) (or-false (ltb 128 (length acts))))
        go (no h) = rw (lt-ltb 128 (length acts) (omega arith)) refl

    pub file_rules : plant_ruling (written acts) ≡ actions_ruling acts
    unfolding plant_ruling actions_ruling
    file_rules =
        let long : ltb (length (written acts)) 12 ≡ false = le-ltb (length (written acts)) 12 (omega (arith, file_length)) in
        rw (long, marked, layout_is, count_is small.few) (go (ltb (length acts) 1) refl (ltb 128 (length acts)) refl)
      where
        go : (p : Bool) → ltb (length acts) 1 ≡ p → (q : Bool) → ltb 128 (length acts) ≡ q
            → cond (p || q) (refuse 2) (first_refusal (record_ruling (written acts)) (length acts))
            ≡ cond (p || q) (refuse 2) (first_refusal (action_ruling acts) (length acts))
        go true e q f = refl
        go false e true f = refl
        go false e false f =
            first_same (record_ruling (written acts)) (action_ruling acts) (length acts)
            λ a h. ruling_is (few_ends (ltb-false 128 (length acts) f)) a h
