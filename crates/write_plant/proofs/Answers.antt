-- What `write_plant` answers, from what `measure` finds. Assumes nothing.
--   Passed, passed_of    what holds of actions that pass 2, 3 and 4: where their records end
--   fails_is             actions that do not: the ruling
--   too_short, fits_in   the buffer's length decides where all else is right
--   length_few           the length returned is small
--   none_written         a refusal returns no length and writes no byte;  file_written: else the file stands in front
use Prim.Native.Nat.{ℕ, ◌+◌, ◌*◌, ◌/◌, ◌%◌, ◌≤◌, ◌<◌}
use native.Mathlib.Omega.{arith}
use mathlib.Core.Path.{◌≡◌, refl, sym, ◌∙◌, ap}
use mathlib.Core.Bool.{Bool, true, false, cond, not, ◌||◌}
use mathlib.Core.List.{List}
use lib.Dec.{ltb, eqb}
use lib.ListN.{length, get_or}
use lib.Seq.{sets}
use borrow.Author.Tests.{lt-ltb, le-ltb, ltb-false, eq-eqb, eqb-true}
use Rattle.base_lists.proofs.Build.{build_length, build_at}
use Rattle.base_rulings.specs.declared.Cause.{Cause}
use Rattle.base_rulings.specs.declared.Ruling.{Ruling}
use Rattle.base_rulings.specs.declared.Ruling.TheVariants.{Accepted, Refused}
use Rattle.std.specs.Prelude.{Ok, Err}
use Rattle.base_rulings.specs.Answer.{plain, refuse, refused}
use Rattle.base_rulings.specs.Order.{first_refusal, and_then, refusal_of, if_accepted}
use Rattle.base_rulings.proofs.RulingLaws.{fails_no, neither, passed, both_passed, first_all}
use Rattle.write_plant.specs.Written.{AllocationFields, ActionFields, no_action, written, action_ruling, actions_ruling, bad_fields}
use Rattle.write_plant.specs.Lent.{allocation_in, action_in, actions_lent, write_ruling, written_length, written_into}
use Rattle.write_plant.specs.Parts.{lent_records, FewEach, ends_if, lent_end}
use Rattle.write_plant.proofs.File.{file_length}
use Rattle.write_plant.proofs.LentLaws.{lent_few}
use Rattle.write_plant.proofs.Stored.{sets_front}

-- what an accepted ruling says of its parts
pub accepted_parts :
    (w : List ℕ) (room : ℕ) → write_ruling w room ≡ Accepted → actions_ruling (actions_lent w) ≡ Accepted
unfolding write_ruling
accepted_parts w room e =
    let part = passed (not (eqb (length w % 19) 0)) _
    (and_then (actions_ruling (actions_lent w)) (cond (ltb room (length (written (actions_lent w)))) (refuse 22) Accepted)) e in
    (both_passed (actions_ruling (actions_lent w)) (cond (ltb room (length (written (actions_lent w)))) (refuse 22) Accepted) part.1).0

module _ (w : List ℕ) where
  abbrev count : ℕ
  count = length w / 19

  abbrev file : List ℕ
  file = written (actions_lent w)

  pub record Passed (index : ℕ) : Type 0 where
    pub whole : length w % 19 ≡ 0
    pub ruling : actions_ruling (actions_lent w) ≡ Accepted
    pub ends : index ≡ length (lent_records w count)
    pub most : count ≤ 128
    pub few : FewEach w count
    pub size : index + 4 * count + 12 ≡ length file

  -- an accepted action has at most four allocations
  pub few_each : actions_ruling (actions_lent w) ≡ Accepted → FewEach w count
  unfolding actions_ruling action_ruling
  few_each e a h =
      let n : ℕ = length (actions_lent w) in
      let is : n ≡ count = build_length (action_in w) count in
      let tests = passed (ltb n 1 || ltb 128 n) _ (first_refusal (action_ruling (actions_lent w)) n) e in
      let here = first_all (action_ruling (actions_lent w)) n a tests.1 (omega (arith, is)) in
      let first = passed (ltb 4 (length (get_or (actions_lent w) a no_action).allocations)) _
      (cond (bad_fields (get_or (actions_lent w) a no_action)) (refused 4 a) Accepted) here in
      let f : ℕ → AllocationFields = λ k. allocation_in w (19 * a + 7 + 3 * k) in
      let most : length (get_or (actions_lent w) a no_action).allocations ≤ 4 = ltb-false _ _ first.0 in
      let same : length (get_or (actions_lent w) a no_action).allocations ≡ get_or w (19 * a + 6) 0 =
      ap (λ (x : ActionFields). length x.allocations) (build_at (action_in w) count a no_action h) ∙ build_length f (get_or w (19 * a + 6) 0) in
      omega (arith, most, same)

  pub few_actions : actions_ruling (actions_lent w) ≡ Accepted → count ≤ 128
  unfolding actions_ruling
  few_actions e =
      let n : ℕ = length (actions_lent w) in
      let tests = passed (ltb n 1 || ltb 128 n) _ (first_refusal (action_ruling (actions_lent w)) n) e in
      let most : n ≤ 128 = ltb-false _ _ (neither (ltb n 1) (ltb 128 n) tests.0).1 in
      omega (arith, most, build_length (action_in w) count)

  pub passed_of : (index : ℕ) → lent_end w ≡ Ok index → Passed index
  unfolding lent_end
  passed_of index e = go (eqb (length w % 19) 0) refl (actions_ruling (actions_lent w)) refl e
    where
      go : (p : Bool) → eqb (length w % 19) 0 ≡ p → (r : Ruling) → actions_ruling (actions_lent w) ≡ r
          → cond (not p) (Err (plain 2)) (ends_if r (length (lent_records w count))) ≡ Ok index → Passed index
      go false ep r er q = absurd (fails_no (plain 2) index q)
      go true ep (Refused c) er q = absurd (fails_no c index q)
      go true ep Accepted er q =
          let ends : index ≡ length (lent_records w count) = cc in
          record {
            whole = eqb-true _ _ ep;
            ruling = er;
            ends = ends;
            most = few_actions er;
            few = few_each er;
            size = omega (arith, ends, file_length (actions_lent w), build_length (action_in w) count);
          }

  pub fails_is : (room : ℕ) (c : Cause) → lent_end w ≡ Err c → write_ruling w room ≡ Refused c
  unfolding lent_end write_ruling
  fails_is room c e = go (eqb (length w % 19) 0) (actions_ruling (actions_lent w)) e
    where
      go : (p : Bool) (r : Ruling) → cond (not p) (Err (plain 2)) (ends_if r (length (lent_records w count))) ≡ Err c
          → cond (not p) (refuse 2) (and_then r (cond (ltb room (length file)) (refuse 22) Accepted)) ≡ Refused c
      go false r q = ap refusal_of q
      go true (Refused d) q = ap refusal_of q
      go true Accepted q = absurd (fails_no c (length (lent_records w count)) (sym q))

  module _ (index room : ℕ) (p : Passed index) where
    pub too_short : room < index + 4 * count + 12 → write_ruling w room ≡ refuse 22
    unfolding write_ruling
    too_short h = rw (eq-eqb (length w % 19) 0 p.whole, p.ruling, lt-ltb room (length file) (omega (arith, p.size))) refl

    pub fits_in : index + 4 * count + 12 ≤ room → write_ruling w room ≡ Accepted
    unfolding write_ruling
    fits_in h = rw (eq-eqb (length w % 19) 0 p.whole, p.ruling, le-ltb room (length file) (omega (arith, p.size))) refl

  pub none_written : (s : List ℕ) (c : Cause) → write_ruling w (length s) ≡ Refused c → (0 ≡ written_length w (length s)) × (s ≡ written_into w s)
  unfolding written_length written_into
  none_written s c e = (rw e refl, rw e refl)

  pub file_written :
      (s x : List ℕ) (index : ℕ) → Passed index → index + 4 * count + 12 ≤ length s → x ≡ sets s 0 file
      → (index + 4 * count + 12 ≡ written_length w (length s)) × (x ≡ written_into w s)
  unfolding written_length written_into
  file_written s x index p h e =
      let fits = fits_in index (length s) p h in
      (rw fits p.size, rw fits (e ∙ sets_front s file (omega (arith, p.size))))

  pub length_few : (room : ℕ) → written_length w room ≤ 10252
  unfolding written_length
  length_few room = go (write_ruling w room) refl
    where
      go : (r : Ruling) → write_ruling w room ≡ r → if_accepted r (length file) 0 ≤ 10252
      go (Refused c) e = omega arith
      go Accepted e =
          let ruled = accepted_parts w room e in
          let n : length (actions_lent w) ≡ count = build_length (action_in w) count in
          omega (arith, file_length (actions_lent w), n, few_actions ruled, lent_few w count (few_each ruled))
