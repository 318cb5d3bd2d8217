-- Refusal 6: no cause but an unsound board is 6.
--   Not6 r         the ruling r is not 6
--   drafted_holds  what holds of acceptance and of 14 to 17 holds of what an offer that was read comes to;  settled_holds: of settling
--   call_6         a call on a sound board is never refused with 6
use mathlib.Core.Path.{◌≡◌}
use mathlib.Core.Bool.{Bool, true, false, cond, not}
use mathlib.Core.List.{List, []}
use mathlib.Core.Option.{Option, some, none}
use Prim.Native.Nat.{ℕ}
use native.Mathlib.Omega.{arith}
use Rattle.base_rulings.specs.declared.Ruling.{Ruling}
use Rattle.base_rulings.specs.declared.Ruling.TheVariants.{Accepted, Refused}
use Rattle.base_rulings.specs.Answer.{plain, refused, refuse, number_of}
use Rattle.spec_plain.specs.Plain.{Offer, State, Placed, Draft, Leaving, live_count, full, new_points, placed, joining, drafted, unsent_at, clock_ok, leaving}
use Rattle.spec_stn.specs.Table.{entails_all}
use Rattle.part_lines.proofs.Placing.{placed_keeps}
use Rattle.part_gaps.specs.Cells.{table_of}
use Rattle.spec_rulebook.specs.Reading.{good, offer_of, past, plan_check, reading_of}
use Rattle.spec_rulebook.specs.Book.{Call, plan, send, clock, retire}
use Rattle.part_boardwords.specs.Board.{Board}
use Rattle.part_sound.specs.Sound.{Sound}
use Rattle.part_sound.proofs.Soundness.{sound_of}
use Rattle.call_board.specs.Ruled.{Ruled}
use Rattle.call_board.specs.Boards.{state_of}
use Rattle.call_board.specs.Calls.{refusal, settled, decided, heard, departed, sent, clocked}
use Rattle.theorem_agreement.specs.Abstract.{Shaped}
use Rattle.theorem_agreement.specs.Runs.{call_ruled}
use Rattle.theorem_agreement.proofs.Keeps.{planned_is}
use Rattle.theorem_agreement.proofs.Retiring.{retired_is}
use Rattle.theorem_agreement.proofs.Early.{check_early}

pub record Not6 (r : Ruling) : Type 0 where
  pub no6 : ¬ (number_of r ≡ 6)

is_not : {r : Ruling} → ¬ (number_of r ≡ 6) → Not6 r
is_not n = record { no6 = n }

-- ---- the calls

module _ (b : Board) where
  guarded_6 : (t : Bool) (n : ℕ) (a : Ruled) → Not6 (refuse n) → Not6 a.ruling → Not6 (cond t (refusal b n) a).ruling
  guarded_6 true n a x y = x
  guarded_6 false n a x y = y

  settled_holds : (P : Ruling → Type 0) (n : ℕ) (s : State) (o : Option (List ℕ)) → P Accepted → P (refuse n) → P (settled b n s o).ruling
  unfolding settled
  settled_holds P n s (some l) x y = x
  settled_holds P n s none x y = y

  module _
      (P : Ruling → Type 0) (accepts : P Accepted) (no_room : P (refuse 14)) (unplaced : (k : ℕ) → P (refused 15 k) × P (refused 16 k))
      (unkept : P (refuse 17))
    where
      unfoldable Stops : Placed → Type 0
      Stops (Placed.stop c) = P (Refused c)
      Stops (Placed.done ls rs) = Unit {0}

      joining_holds : (o : Offer) (q : Placed) → Stops q → P (decided b (joining (state_of b) o q)).ruling
      unfolding Stops decided joining
      joining_holds o (Placed.stop c) h = h
      joining_holds o (Placed.done ls rs) h = settled_holds P 17 _ _ accepts unkept

      pub drafted_holds : (o : Offer) → P (decided b (drafted (state_of b) o)).ruling
      unfolding drafted decided Stops
      drafted_holds o = go (full (state_of b) (new_points o))
        where
          q : Placed
          q = placed (state_of b).settings (live_count (state_of b)) 0 o.allocations (state_of b).lines []

          stops : Stops q
          stops =
              placed_keeps (state_of b).settings (live_count (state_of b)) (λ ps ls rs. Unit {0}) Stops unplaced (λ ls rs h. tt)
              (λ p ps ls rs fits room h. tt) 0 o.allocations (state_of b).lines [] tt

          go : (t : Bool) → P (decided b (cond t (Draft.stop (plain 14)) (joining (state_of b) o q))).ruling
          go true = no_room
          go false = joining_holds o q stops

  settled_6 : (n : ℕ) (s : State) (o : Option (List ℕ)) → Not6 (refuse n) → Not6 (settled b n s o).ruling
  settled_6 n s o x = settled_holds Not6 n s o (is_not λ e. omega arith) x

  drafted_6 : (o : Offer) → Not6 (decided b (drafted (state_of b) o)).ruling
  drafted_6 o =
      drafted_holds Not6 (is_not λ e. omega arith) (is_not λ e. omega arith) (λ k. (is_not λ e. omega arith, is_not λ e. omega arith))
      (is_not λ e. omega arith) o

  heard_6 : (p o : List ℕ) → Not6 (heard b (reading_of (state_of b) p o)).ruling
  unfolding heard reading_of past
  heard_6 p o = go (plan_check (state_of b) p o) (is_not (check_early (state_of b) p o).no6)
    where
      go : (r : Ruling) → Not6 r → Not6 (heard b (past r (good (offer_of p o)))).ruling
      go Accepted x = drafted_6 (offer_of p o)
      go (Refused c) x = x

  left_6 : (q : Leaving) → Not6 (departed b q).ruling
  unfolding departed
  left_6 Leaving.stop = is_not λ e. omega arith
  left_6 (Leaving.go m rs s) = go (entails_all (table_of b.gaps) rs) _
    where
      go : (t : Bool) (a : Board) → Not6 (cond t (record { ruling = Accepted; board = a }) (refusal b 21)).ruling
      go true a = is_not λ e. omega arith
      go false a = is_not λ e. omega arith

  pub call_6 : Shaped b → Sound b → (call : Call) → Not6 (call_ruled b call).ruling
  unfolding call_ruled sent clocked
  call_6 w s (plan p o) = rw (planned_is b w s p o) (heard_6 p o)
  call_6 w s (send place) =
      rw (sound_of b w.lines s)
      (guarded_6 (not (unsent_at place (state_of b).jobs)) 18 _ (is_not λ e. omega arith) (is_not {r = Accepted} λ e. omega arith))
  call_6 w s (clock c) =
      rw (sound_of b w.lines s)
      (guarded_6 (not (clock_ok (state_of b) c)) 19 _ (is_not λ e. omega arith) (settled_6 20 _ _ (is_not λ e. omega arith)))
  call_6 w s retire = rw (retired_is b w s) (left_6 (leaving (state_of b)))
