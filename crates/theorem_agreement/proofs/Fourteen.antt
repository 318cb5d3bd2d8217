-- Refusal 14, past the reading: there are 16 jobs, or the points would pass 64; and no other cause is 14.
--   full_to, full_of   the test says that there is no room
--   Other q          placing stops with 15 or more;  placed_other shows it
--   decided_14       what is decided is 14 exactly where there is no room
use mathlib.Core.Path.{◌≡◌, refl, sym, ap, ◌∙◌}
use mathlib.Core.Logic.{◌↔◌, inl, inr}
use mathlib.Core.Bool.{Bool, true, false, true≢false, false≢true, cond, ◌||◌}
use mathlib.Core.List.{List, []}
use mathlib.Core.Option.{Option, some, none}
use Prim.Native.Nat.{ℕ, ◌+◌, ◌≤◌, ◌<◌}
use native.Mathlib.Decide.{dec_le}
use native.Mathlib.Omega.{arith}
use lib.Dec.{ltb, leb}
use lib.ListN.{length}
use borrow.Author.Tests.{lt-leb, le-ltb}
use Rattle.theorem_agreement.specs.Demand2.{NoRoom}
use Rattle.base_rulings.specs.declared.Ruling.TheVariants.{Refused}
use Rattle.base_rulings.specs.Answer.{plain, refuse, number_of}
use Rattle.spec_plain.specs.Limits.{most_jobs, most_points}
use Rattle.spec_plain.specs.declared.Settings.{Settings}
use Rattle.spec_plain.specs.declared.Allocation.{Allocation}
use Rattle.spec_plain.specs.declared.Rule.{Rule}
use Rattle.spec_plain.specs.declared.Use.{Use}
use Rattle.spec_plain.specs.Plain.{
  Offer,
  State,
  Placed,
  Draft,
  total,
  live_count,
  full,
  new_points,
  placed,
  joining,
  drafted,
}
use Rattle.part_lines.proofs.Placing.{placed_keeps}
use Rattle.part_lines.proofs.DraftLaws.{within}
use Rattle.part_boardwords.specs.Board.{Board}
use Rattle.call_board.specs.Boards.{state_of}
use Rattle.call_board.specs.Calls.{settled, decided}

module _ (s : State) (n : ℕ) where
  full_to : length s.jobs ≤ most_jobs → full s n ≡ true → NoRoom s n
  unfolding full
  full_to le e = go (dec_le most_jobs (length s.jobs)) (dec_le (total s.jobs + n) most_points)
    where
      neither :
          length s.jobs < most_jobs → total s.jobs + n ≤ most_points → (leb most_jobs (length s.jobs) || ltb most_points (total s.jobs + n)) ≡ false
      neither h d = rw (lt-leb most_jobs (length s.jobs) h, le-ltb most_points (total s.jobs + n) d)

      go : Dec (most_jobs ≤ length s.jobs) → Dec (total s.jobs + n ≤ most_points) → NoRoom s n
      go (yes h) d = inl (omega arith)
      go (no h) (no d) = inr (omega arith)
      go (no h) (yes d) = absurd (true≢false (sym e ∙ neither (omega arith) d))

  full_of : NoRoom s n → full s n ≡ true
  full_of h = go (full s n) refl h
    where
      go : (t : Bool) → full s n ≡ t → NoRoom s n → t ≡ true
      go true e h = refl
      go false e (inl h) = let room = within s n e in absurd (omega (arith, room.0))
      go false e (inr h) = let room = within s n e in absurd (omega (arith, room.1))

-- ---- no other cause is 14

unfoldable pub Other : Placed → Type 0
Other (Placed.stop c) = 15 ≤ number_of (Refused c)
Other (Placed.done ls rs) = Unit {0}

pub placed_other : (s : Settings) (x i : ℕ) (ps : List Allocation) (ls : List (List Use)) (rs : List Rule) → Other (placed s x i ps ls rs)
unfolding Other
placed_other s x i ps ls rs =
    placed_keeps s x (λ ps ls rs. Unit {0}) Other (λ k. (omega arith, omega arith)) (λ ls rs h. tt) (λ p ps ls rs fits room h. tt) i ps ls rs tt

module _ (b : Board) (o : Offer) where
  settled_other : (s : State) (q : Option (List ℕ)) → (settled b 17 s q).ruling ≡ refuse 14 → ⊥
  unfolding settled
  settled_other s (some l) e = let z : ◌≡◌ {A = ℕ} 0 1 = cc in omega arith
  settled_other s none e = let z : ◌≡◌ {A = ℕ} 17 14 = cc in omega arith

  joining_other : (q : Placed) → Other q → (decided b (joining (state_of b) o q)).ruling ≡ refuse 14 → ⊥
  unfolding Other decided joining
  joining_other (Placed.stop c) other e = let is : number_of (Refused c) ≡ 14 = ap number_of e in omega (arith, other, is)
  joining_other (Placed.done ls rs) other e = settled_other _ _ e

  pub decided_14 :
      length (state_of b).jobs ≤ most_jobs → ((decided b (drafted (state_of b) o)).ruling ≡ refuse 14) ↔ NoRoom (state_of b) (new_points o)
  unfolding drafted decided
  decided_14 le =
      let p = go (full (state_of b) (new_points o)) in
      (λ e. full_to (state_of b) (new_points o) le (p.0 e), λ h. p.1 (full_of (state_of b) (new_points o) h))
    where
      q : Placed
      q = placed (state_of b).settings (live_count (state_of b)) 0 o.allocations (state_of b).lines []

      go : (t : Bool) → ((decided b (cond t (Draft.stop (plain 14)) (joining (state_of b) o q))).ruling ≡ refuse 14) ↔ (t ≡ true)
      go true = (λ e. refl, λ e. refl)
      go false = (
        λ e. absurd (joining_other q (placed_other (state_of b).settings (live_count (state_of b)) 0 o.allocations (state_of b).lines []) e),
        λ e. absurd (false≢true e),
      )
