-- "A refused call changes nothing": on every board, sound or not, a refused call gives back the very board that came.
--   refused_same    of every call
use mathlib.Core.Path.{◌≡◌, refl, sym}
use mathlib.Core.Bool.{Bool, true, false, cond, not}
use mathlib.Core.List.{List}
use mathlib.Core.Option.{Option, some, none}
use Prim.Native.Nat.{ℕ}
use Rattle.base_rulings.specs.declared.Cause.{Cause}
use Rattle.base_rulings.specs.declared.Ruling.{Ruling}
use Rattle.base_rulings.specs.declared.Ruling.TheVariants.{Accepted, Refused}
use Rattle.base_rulings.proofs.RulingLaws.{refused_no}
use Rattle.read_plant.specs.Plant.{plant_ruling}
use Rattle.spec_plain.specs.Plain.{State, Draft, Leaving, live_count, drafted, unsent_at, sent_state, clock_ok, leaving}
use Rattle.spec_stn.specs.Table.{entails_all}
use Rattle.part_gaps.specs.Cells.{table_of, dropped}
use Rattle.spec_rulebook.specs.Reading.{Reading, bad, good, reading_of}
use Rattle.spec_rulebook.specs.Book.{Call, plan, send, clock, retire}
use Rattle.part_boardwords.specs.Board.{Board}
use Rattle.part_sound.specs.Sound.{sound}
use Rattle.part_settling.specs.Settled.{added_each}
use Rattle.call_board.specs.Ruled.{Ruled}
use Rattle.call_board.specs.Boards.{state_of}
use Rattle.call_board.specs.Calls.{refusal, accepted, settled, unless_refused, decided, heard, planned, send_rules, sent, clocked, departed, retired}
use Rattle.theorem_agreement.specs.Runs.{call_ruled}

module _ (b : Board) (c : Cause) where
  abbrev Same : Ruled → Type 0
  Same a = a.ruling ≡ Refused c → a.board ≡ b

  accepted_same : (s : State) (l : List ℕ) → Same (accepted s l)
  accepted_same s l e = absurd (refused_no c (sym e))

  guarded_same : (t : Bool) (n : ℕ) (a : Ruled) → Same a → Same (cond t (refusal b n) a)
  guarded_same true n a h = λ e. refl
  guarded_same false n a h = h

  settled_same : (n : ℕ) (s : State) (o : Option (List ℕ)) → Same (settled b n s o)
  unfolding settled
  settled_same n s (some l) = accepted_same s l
  settled_same n s none = λ e. refl

  decided_same : (q : Draft) → Same (decided b q)
  unfolding decided
  decided_same (Draft.stop x) = λ e. refl
  decided_same (Draft.go s m rs) = settled_same 17 s _

  heard_same : (r : Reading) → Same (heard b r)
  unfolding heard
  heard_same (bad x) = λ e. refl
  heard_same (good o) = decided_same (drafted (state_of b) o)

  after_same : (r : Ruling) (a : Ruled) → Same a → Same (unless_refused r b a)
  unfolding unless_refused
  after_same Accepted a h = h
  after_same (Refused x) a h = λ e. refl

  left_same : (q : Leaving) → Same (departed b q)
  unfolding departed
  left_same Leaving.stop = λ e. refl
  left_same (Leaving.go m rs s) = go (entails_all (table_of b.gaps) rs)
    where
      l : List ℕ
      l = dropped b.gaps 1 m (live_count (state_of b))

      go : (t : Bool) → Same (cond t (accepted s l) (refusal b 21))
      go true = accepted_same s l
      go false = λ e. refl

  pub refused_same : (call : Call) (a : Ruled) → a ≡ call_ruled b call → a.ruling ≡ Refused c → a.board ≡ b
  unfolding call_ruled planned sent clocked retired
  refused_same (plan p o) a e = rw e (after_same (plant_ruling p) _ (guarded_same (not (sound b)) 6 _ (heard_same (reading_of (state_of b) p o))))
  refused_same (send place) a e =
      rw e
      (guarded_same (not (sound b)) 6 _
      (guarded_same (not (unsent_at place (state_of b).jobs)) 18 _
      (accepted_same (sent_state (state_of b) place) (added_each (send_rules b place) (live_count (state_of b)) b.gaps))))
  refused_same (clock m) a e =
      rw e (guarded_same (not (sound b)) 6 _ (guarded_same (not (clock_ok (state_of b) m)) 19 _ (settled_same 20 _ _)))
  refused_same retire a e = rw e (guarded_same (not (sound b)) 6 _ (left_same (leaving (state_of b))))
