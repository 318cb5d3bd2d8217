-- Note 1's sentence: "The reader accepts exactly the files the writer can produce, and reading one gives the same actions." Assumes nothing.
--   small_in       the actions of a file of bytes fit their fields;  small_lent: so do the actions of words
--   written_is     what the writer produces is the file of the actions
--   exactly_those, same_actions   the sentence;  same_file, same_parts: writing what was read gives the same file; the parts handed out are the actions'
--   reader_rules   the reader rules on the file of any actions as the writer does on them
use Prim.Native.Nat.{ℕ, ◌+◌, ◌-◌, ◌*◌, ◌/◌, ◌%◌, ◌<◌}
use native.Mathlib.Decide.{dec_lt}
use native.Mathlib.Omega.{arith}
use mathlib.Core.Path.{◌≡◌, refl, sym, ◌∙◌, ap, subst}
use mathlib.Core.List.{List, [], ◌++◌}
use lib.ListN.{length, get_or, take, drop}
use lib.Seq.{take-append_seam}
use borrow.Author.Tests.{lt-ltb, le-ltb, eq-eqb}
use Rattle.base_words.specs.Word.{word, u32s, Bytes}
use Rattle.base_words.proofs.WordRange.{word_lt}
use Rattle.base_lists.specs.All.{All}
use Rattle.base_lists.specs.Loops.{build}
use Rattle.base_lists.proofs.All.{all_from, all_get}
use Rattle.base_lists.proofs.Build.{build_length, build_at, build_past}
use Rattle.base_rulings.specs.declared.Ruling.TheVariants.{Accepted}
use Rattle.read_plant.specs.Plant.{trailer_of, allocation_count, allocation_start, record_start, plant_ruling, allocations_of}
use Rattle.read_plant.proofs.Good.{good}
use Rattle.write_plant.specs.Written.{AllocationFields, ActionFields, no_action, allocation_numbers, written, allocation_at, action_at, actions_in, actions_ruling}
use Rattle.write_plant.specs.Lent.{allocation_in, action_in, actions_lent, write_ruling, written_length, written_into}
use Rattle.write_plant.specs.Canonical.{Small, FittingAction, Fitting, Writes, ExactlyThose, SameActions, SameFile, SameParts, ReaderRules}
use Rattle.write_plant.proofs.File.{reads_back, file_rules}
use Rattle.write_plant.proofs.Canonical.{numbers_are, allocations_piece, writes_back}
use Rattle.write_plant.proofs.LentLaws.{lent_numbers}
use Rattle.write_plant.proofs.Answers.{few_each, few_actions, accepted_parts}
use Rattle.write_plant.proofs.Wording.{FewAllocations, words_of, words_length, words_back, words_small}

-- ---- numbers that fit their fields

build_small : (f : ℕ → ℕ) (n : ℕ) → ((k : ℕ) → Small (f k)) → All Small (build f n)
build_small f n h =
    all_from Small (build f n) 0 λ k lt. let is = build_at f n k 0 (omega (arith, build_length f n)) in let small = h k in omega (arith, is, small)

small_at : (s : List ℕ) → Bytes s → (at : ℕ) → FittingAction (action_at s at)
small_at s all at =
    let w : (i : ℕ) → Small (word s i) = λ i. word_lt s i all in
    let n : ℕ = allocation_count s at in
    let f : ℕ → ℕ = λ j. word s (at + 28 + 4 * j) in
    record {
      six = (w at, (w (at + 4), (w (at + 8), (w (at + 12), (w (at + 16), (w (at + 20), tt))))));
      numbers = subst (All Small) (sym (numbers_are s all at n)) (build_small f (3 * n) (λ j. w (at + 28 + 4 * j)));
      few = omega (arith, build_length (λ k. allocation_at s (allocation_start at k)) n, all (at + 24));
    }

small_in : (s : List ℕ) → Bytes s → Fitting (actions_in s)
unfolding trailer_of
small_in s all =
    let f : ℕ → ActionFields = λ a. action_at s (record_start s a) in
    let n : ℕ = (trailer_of s).count in
    record {
      each = all_from FittingAction (actions_in s) no_action
          (λ a h. subst FittingAction (sym (build_at f n a no_action (omega (arith, build_length f n)))) (small_at s all (record_start s a)));
      few = omega (arith, build_length f n, word_lt s (length s - 8) all);
    }

-- the words of an action that is accepted
small_lent : (w : List ℕ) → All Small w → actions_ruling (actions_lent w) ≡ Accepted → Fitting (actions_lent w)
small_lent w small e =
    let n : ℕ = length w / 19 in
    record {
      each = all_from FittingAction (actions_lent w) no_action
          (λ a h. subst FittingAction (sym (build_at (action_in w) n a no_action (omega (arith, build_length (action_in w) n))))
          (one a (omega (arith, build_length (action_in w) n))));
      few = omega (arith, build_length (action_in w) n, few_actions w e);
    }
  where
    word_small : (i : ℕ) → Small (get_or w i 0)
    word_small i = all_get Small w i 0 small (omega arith)

    one : (a : ℕ) → a < length w / 19 → FittingAction (action_in w a)
    one a h =
        let at : ℕ = 19 * a in
        let m : ℕ = get_or w (at + 6) 0 in
        let f : ℕ → ℕ = λ j. get_or w (at + 7 + j) 0 in
        let g : ℕ → AllocationFields = λ k. allocation_in w (at + 7 + 3 * k) in
        record {
          six = (word_small at, (word_small (at + 1), (word_small (at + 2), (word_small (at + 3), (word_small (at + 4), (word_small (at + 5), tt))))));
          numbers = subst (All Small) (sym (lent_numbers w (at + 7) m)) (build_small f (3 * m) (λ j. word_small (at + 7 + j)));
          few = omega (arith, build_length g m, few_each w e a h);
        }

-- ---- what the writer produces

written_is : (w s : List ℕ) → Writes w s → s ≡ written (actions_lent w)
unfolding written_length written_into
written_is w s p =
    let file : List ℕ = written (actions_lent w) in
    let held : take (length file) (file ++ drop (length file) p.buffer) ≡ s = rw p.accepted at p.file in
    sym held ∙ take-append_seam file (drop (length file) p.buffer)

-- the words of a good file's actions produce it
produced : (s : List ℕ) → Bytes s → plant_ruling s ≡ Accepted → Writes (words_of (actions_in s)) s
unfolding write_ruling written_length written_into
produced s all e =
    record {
      words = words_small acts small.each;
      buffer = s;
      accepted = accepted;
      file = rw accepted (take-append_seam (written (actions_lent w)) (drop (length (written (actions_lent w))) s) ∙ file);
    }
  where
    acts : List ActionFields
    acts = actions_in s

    w : List ℕ
    w = words_of acts

    small : Fitting acts
    small = small_in s all

    n : ℕ
    n = (trailer_of s).count

    f : ℕ → ActionFields
    f a = action_at s (record_start s a)

    few : All FewAllocations acts
    few = all_from FewAllocations acts no_action λ a h.
        let lt : a < n = omega (arith, build_length f n) in
        let most = ((good s e).in_place a lt).few in
        let held : length (f a).allocations ≡ allocation_count s (record_start s a) =
        build_length (λ k. allocation_at s (allocation_start (record_start s a) k)) (allocation_count s (record_start s a)) in
        subst FewAllocations (sym (build_at f n a no_action lt)) (omega (arith, most, held))

    back : written acts ≡ s
    back = writes_back s all (good s e)

    file : written (actions_lent w) ≡ s
    file = ap written (words_back acts few) ∙ back

    ruled : actions_ruling (actions_lent w) ≡ Accepted
    ruled = ap actions_ruling (words_back acts few) ∙ sym (file_rules acts small) ∙ ap plant_ruling back ∙ e

    accepted : write_ruling w (length s) ≡ Accepted
    accepted =
        let whole = eq-eqb (length w % 19) 0 (omega (arith, words_length acts few)) in
        rw (whole, ruled, le-ltb (length s) (length (written (actions_lent w))) (omega (arith, ap length file))) refl

-- ---- the sentence

pub exactly_those : ExactlyThose
exactly_those s all = (
  λ e. (words_of (actions_in s), produced s all e),
  λ p.
      let w = p.0 in
      let ruled = accepted_parts w (length p.1.buffer) p.1.accepted in
      ap plant_ruling (written_is w s p.1) ∙ file_rules (actions_lent w) (small_lent w p.1.words ruled) ∙ ruled,
)

pub same_actions : SameActions
same_actions w s p =
    ap actions_in (written_is w s p) ∙ reads_back (actions_lent w) (small_lent w p.words (accepted_parts w (length p.buffer) p.accepted))

pub same_file : SameFile
same_file s all e = writes_back s all (good s e)

pub same_parts : SameParts
unfolding allocations_of
same_parts s all e a = go (dec_lt a n)
  where
    n : ℕ
    n = (trailer_of s).count

    f : ℕ → ActionFields
    f k = action_at s (record_start s k)

    go : Dec (a < n) → allocations_of s a ≡ u32s (allocation_numbers (get_or (actions_in s) a no_action).allocations)
    go (yes h) =
        let place = (good s e).in_place a h in
        let inside = place.within in
        let whole = (good s e).layout in
        let held : allocations_of s a ≡ u32s (allocation_numbers (f a).allocations) =
        rw (e, lt-ltb a n h) (allocations_piece s all (record_start s a) (omega (arith, inside, whole))) in
        held ∙ ap (λ (x : ActionFields). u32s (allocation_numbers x.allocations)) (sym (build_at f n a no_action h))
    go (no h) =
        let held : allocations_of s a ≡ [] = rw (e, le-ltb a n (omega arith)) refl in
        held ∙ ap (λ (x : ActionFields). u32s (allocation_numbers x.allocations)) (sym (build_past f n a no_action (omega arith)))

pub reader_rules : ReaderRules
reader_rules acts small = file_rules acts small
