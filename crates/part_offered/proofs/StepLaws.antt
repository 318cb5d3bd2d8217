-- Laws of an offer's steps and allocations, read one after the other. Assumes nothing.
--   action_within, action_known, offered   the step that the reader stands at: its action is the plant's, and what is known of the step
--   next_at             where the next step starts
--   length_steps, steps_next, steps_done   the steps: how many, one more, all of them
--   allocation_is       an allocation, word by word;  length_step_allocations: of a step there are as many as were asked for
--   step_more, step_done   the allocations of a step: one more; all of them, put behind others
--   puts_next, puts_done   the allocations of the steps: of one more, of all, which are the offer's
use Prim.Native.Nat.{ℕ, zero, suc, ◌+◌, ◌*◌, ◌≤◌, ◌<◌}
use native.Mathlib.Omega.{arith}
use native.Mathlib.Numerals.{add-one}
use mathlib.Core.Path.{◌≡◌, refl, sym, ap, ap₂, subst, ◌∙◌}
use mathlib.Core.List.{List, [], ◌∷◌, ◌++◌, append-nil, append_assoc}
use lib.ListN.{length, set, take}
use lib.Seq.{length-take-le, take-append-add}
use Rattle.std.proofs.lemmas.List.{take_more_set, take-append-le}
use Rattle.base_words.specs.Word.{word}
use Rattle.base_rulings.specs.declared.Ruling.TheVariants.{Accepted}
use Rattle.read_plant.specs.declared.Trailer.{Trailer}
use Rattle.read_plant.specs.Plant.{plant_ruling, trailer_of, record_start, allocation_count}
use Rattle.read_plant.proofs.Good.{good}
use Rattle.read_offer.specs.Offer.{step_count, step_start, offer_ruling}
use Rattle.read_offer.proofs.Steps.{Step, read_of}
use Rattle.spec_plain.specs.declared.Step as Declared
use Rattle.spec_plain.specs.declared.Allocation.{Allocation}
use Rattle.spec_rulebook.specs.Reading.{record_of, step_of, steps_from, allocation_of, allocations_of_step, allocations_from, offer_of}
use Rattle.part_offered.specs.Offered.{Offered}

-- ---- the step that the reader stands at

module _ (p o : List ℕ) (ok : plant_ruling p ≡ Accepted) (r : offer_ruling p o ≡ Accepted) (k at : ℕ) (below : k < step_count o) (ea : at ≡ step_start p o k)
  where
    here : Step p o at
    here = subst (Step p o) (sym ea) ((read_of p o r).steps k below)

    pub action_within : at + 4 ≤ length o
    action_within = let w = here.whole in omega (arith, w)

    pub action_known : (t : Trailer) (x : ℕ) → t ≡ trailer_of p → x ≡ word o at → x < t.count
    action_known t x et ex = rw (ex, et) here.known

    pub offered :
        (x start : ℕ) → x ≡ word o at → start ≡ record_start p x → start + 28 + 12 * allocation_count p start ≤ length p → Offered p o k at start
    unfolding record_of
    offered x start ex es within =
        let is : start ≡ record_start p (word o at) = es ∙ ap (record_start p) ex in
        let count = ap (allocation_count p) is in
        record {
          there = ea;
          its = is ∙ ap (λ (i : ℕ). record_start p (word o i)) ea;
          record_within = within;
          bytes_within = let w = here.whole in omega (arith, w, count);
          few = let f = ((good p ok).in_place (word o at) here.known).few in omega (arith, f, count);
        }

pub next_at : (p o : List ℕ) (k at start : ℕ) → Offered p o k at start → at + 4 + 4 * allocation_count p start ≡ step_start p o (k + 1)
unfolding step_start record_of
next_at p o k at start f = ap₂ (λ (i n : ℕ). i + 4 + 4 * n) f.there (ap (allocation_count p) f.its) ∙ rw (add-one k)

-- ---- the steps

pub length_steps : (p o : List ℕ) (k n : ℕ) → length (steps_from p o k n) ≡ n
unfolding steps_from
length_steps p o k zero = refl
length_steps p o k (suc n) = ap suc (length_steps p o (k + 1) n)

steps_end : (p o : List ℕ) (k n : ℕ) → steps_from p o k (n + 1) ≡ steps_from p o k n ++ (step_of p o (k + n) ∷ [])
unfolding steps_from
steps_end p o k zero = ap (λ (j : ℕ). step_of p o j ∷ []) (omega arith)
steps_end p o k (suc n) =
    rw (add-one (suc n))
    (ap (λ (l : List Declared.Step). step_of p o k ∷ l)
    (sym (ap (steps_from p o (k + 1)) (add-one n)) ∙ steps_end p o (k + 1) n
    ∙ ap (λ (j : ℕ). steps_from p o (k + 1) n ++ (step_of p o j ∷ [])) (omega arith)))

pub steps_next :
    (p o : List ℕ) (l : List Declared.Step) (k : ℕ) (s : Declared.Step) → take k l ≡ steps_from p o 0 k → k < length l → s ≡ step_of p o k
    → take (k + 1) (set l k s) ≡ steps_from p o 0 (k + 1)
steps_next p o l k s e h es =
    take_more_set l k s h
    ∙ ap₂ (λ (m : List Declared.Step) (x : Declared.Step). m ++ (x ∷ [])) e (es ∙ ap (step_of p o) {x = k} {y = 0 + k} (omega arith))
    ∙ sym (steps_end p o 0 k)

pub steps_done :
    (p o : List ℕ) (k n : ℕ) (l : List Declared.Step) → take k l ≡ steps_from p o 0 k → k ≡ n → n ≡ step_count o → take n l ≡ (offer_of p o).steps
unfolding offer_of
steps_done p o k n l e q c = ap (λ (i : ℕ). take i l) (sym q) ∙ e ∙ ap (steps_from p o 0) (q ∙ c)

-- ---- the allocations

pub allocation_is :
    (p o : List ℕ) (k start at j : ℕ) (a b c d : ℕ) → Offered p o k at start
    → a ≡ word p (start + 28 + 12 * j) → b ≡ word o (at + 4 + 4 * j) → c ≡ word p (start + 28 + 12 * j + 4) → d ≡ word p (start + 28 + 12 * j + 8)
    → record { resource = a; place = b; step = k; offset = c; length = d } ≡ allocation_of p o k j
unfolding allocation_of
allocation_is p o k start at j a b c d f ra rb rc rd = rw (ra, rb, rc, rd, f.its, f.there)

pub length_step_allocations : (p o : List ℕ) (k j n : ℕ) → length (allocations_of_step p o k j n) ≡ n
unfolding allocations_of_step
length_step_allocations p o k j zero = refl
length_step_allocations p o k j (suc n) = ap suc (length_step_allocations p o k (j + 1) n)

step_allocations_end : (p o : List ℕ) (k j n : ℕ) → allocations_of_step p o k j (n + 1) ≡ allocations_of_step p o k j n ++ (allocation_of p o k (j + n) ∷ [])
unfolding allocations_of_step
step_allocations_end p o k j zero = ap (λ (i : ℕ). allocation_of p o k i ∷ []) (omega arith)
step_allocations_end p o k j (suc n) =
    rw (add-one (suc n))
    (ap (λ (l : List Allocation). allocation_of p o k j ∷ l)
    (sym (ap (allocations_of_step p o k (j + 1)) (add-one n)) ∙ step_allocations_end p o k (j + 1) n
    ∙ ap (λ (i : ℕ). allocations_of_step p o k (j + 1) n ++ (allocation_of p o k i ∷ [])) (omega arith)))

-- one allocation more of step k
pub step_more :
    (p o : List ℕ) (k : ℕ) (l : List Allocation) (j : ℕ) (a : Allocation) → take j l ≡ allocations_of_step p o k 0 j → j < length l
    → a ≡ allocation_of p o k j → take (j + 1) (set l j a) ≡ allocations_of_step p o k 0 (j + 1)
step_more p o k l j a e h ea =
    take_more_set l j a h
    ∙ ap₂ (λ (x : List Allocation) (b : Allocation). x ++ (b ∷ [])) e (ea ∙ ap (allocation_of p o k) {x = j} {y = 0 + j} (omega arith))
    ∙ sym (step_allocations_end p o k 0 j)

-- all of them, put behind the first `many` of the list m; `after` is what they are followed by
pub step_done :
    (p o : List ℕ) (k many : ℕ) (m l after : List Allocation) (j n : ℕ) → take j l ≡ allocations_of_step p o k 0 j → j ≡ n → length l ≡ n
    → many ≤ length m → take (many + n) (take many m ++ (l ++ after)) ≡ take many m ++ allocations_of_step p o k 0 n
step_done p o k many m l after j n e q long room =
    ap (λ (i : ℕ). take (i + n) (take many m ++ (l ++ after))) (sym (length-take-le many m room))
    ∙ take-append-add (take many m) (l ++ after) n
    ∙ ap (λ (x : List Allocation). take many m ++ x)
    (take-append-le n l after (omega (arith, long)) ∙ ap (λ (i : ℕ). take i l) (sym q) ∙ e ∙ ap (allocations_of_step p o k 0) q)

-- ---- step after step

puts_end :
    (p o : List ℕ) (k n : ℕ)
    → allocations_from p o k (n + 1) ≡ allocations_from p o k n ++ allocations_of_step p o (k + n) 0 (allocation_count p (record_of p o (k + n)))
unfolding allocations_from
puts_end p o k zero =
    append-nil (allocations_of_step p o k 0 (allocation_count p (record_of p o k)))
    ∙ ap (λ (i : ℕ). allocations_of_step p o i 0 (allocation_count p (record_of p o i))) (omega arith)
puts_end p o k (suc n) =
    rw (add-one (suc n))
    (ap (λ (l : List Allocation). allocations_of_step p o k 0 (allocation_count p (record_of p o k)) ++ l)
    (sym (ap (allocations_from p o (k + 1)) (add-one n)) ∙ puts_end p o (k + 1) n
    ∙ ap (λ (i : ℕ). allocations_from p o (k + 1) n ++ allocations_of_step p o i 0 (allocation_count p (record_of p o i))) (omega arith))
    ∙ sym (append_assoc (allocations_of_step p o k 0 (allocation_count p (record_of p o k))) (allocations_from p o (k + 1) n) _))

pub puts_next :
    (p o : List ℕ) (k n : ℕ) (x y : List Allocation) → x ≡ allocations_from p o 0 k → y ≡ x ++ allocations_of_step p o k 0 n
    → n ≡ allocation_count p (record_of p o k) → y ≡ allocations_from p o 0 (k + 1)
puts_next p o k n x y e ey en =
    ey
    ∙ ap₂ (λ (l : List Allocation) (i : ℕ). l ++ allocations_of_step p o k 0 i) e en
    ∙ ap (λ (i : ℕ). allocations_from p o 0 k ++ allocations_of_step p o i 0 (allocation_count p (record_of p o i))) {x = k} {y = 0 + k} (omega arith)
    ∙ sym (puts_end p o 0 k)

pub puts_done : (p o : List ℕ) (k : ℕ) (x : List Allocation) → x ≡ allocations_from p o 0 k → k ≡ step_count o → x ≡ (offer_of p o).allocations
unfolding offer_of
puts_done p o k x e q = e ∙ ap (allocations_from p o 0) q
