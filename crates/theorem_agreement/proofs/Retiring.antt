-- Retire, on a sound board: its answer is the abstract board's, and the board after it is sound again.
--   staying_length, staying_sized, lines_after   lines without the uses of the points that leave are within the limits
--   LeavingSized s q   what a leaving q from the state s leaves: fewer points, and a state within the limits;  leaving_sized shows it
--   retired_is         on a sound board 6 is passed
--   retire_answered    the answer is the abstract board's
use mathlib.Core.Path.{◌≡◌, refl, sym, ◌∙◌}
use mathlib.Core.Bool.{Bool, true, false, cond}
use mathlib.Core.List.{List, [], ◌∷◌, ◌++◌, map}
use Prim.Native.Nat.{ℕ, suc, ◌+◌, ◌-◌, ◌≤◌, ◌<◌}
use native.Mathlib.Omega.{arith}
use lib.ListN.{length, length-map}
use Rattle.base_rulings.specs.declared.Ruling.{Ruling}
use Rattle.base_rulings.specs.declared.Ruling.TheVariants.{Accepted}
use Rattle.base_rulings.specs.Answer.{plain}
use Rattle.spec_plain.specs.Limits.{side, most_points}
use Rattle.spec_plain.specs.declared.Job.{Job}
use Rattle.spec_plain.specs.declared.Use.{Use}
use Rattle.spec_plain.specs.declared.Rule.{Rule}
use Rattle.spec_plain.specs.Plain.{State, Leaving, with_jobs, total, live_count, goes, new_number, staying, without, leaving_from, leaving}
use Rattle.spec_stn.specs.Table.{Agree, entails_all, pick, old_number}
use Rattle.spec_stn.proofs.Pick.{Number, leaves, stays, number, new_lt, new_positive}
use Rattle.part_gaps.specs.Cells.{table_of, dropped}
use Rattle.part_gaps.proofs.GapTable.{GoodCells}
use Rattle.part_gaps.proofs.Dropped.{dropped_length, dropped_agree, dropped_good}
use Rattle.spec_rulebook.specs.Book.{Book, retire}
use Rattle.base_lists.specs.All.{All}
use Rattle.part_boardwords.specs.Board.{Board}
use Rattle.part_sound.specs.Sound.{SizedUse, Sound}
use Rattle.part_sound.proofs.Soundness.{sound_of}
use Rattle.call_board.specs.Boards.{state_of}
use Rattle.call_board.specs.Calls.{refusal, accepted, departed, retired}
use Rattle.theorem_demands.specs.Model as Model
use Rattle.theorem_demands.specs.Beside.{Mirrors}
use Rattle.theorem_demands.proofs.Retire.{retire_mirrors}
use Rattle.theorem_demands.proofs.Tidy.{holds_agree}
use Rattle.theorem_demands.proofs.Tries.{live_positive}
use Rattle.theorem_agreement.specs.Abstract.{Shaped, live_points, abstract_of}
use Rattle.theorem_agreement.proofs.Parts.{SizedLine, Limits, Parts, parts_of, parts_state, parts_sound, parts_shaped}
use Rattle.theorem_agreement.proofs.Books.{parts_holds}
use Rattle.theorem_agreement.proofs.States.{live_few}
use Rattle.theorem_agreement.proofs.Keeps.{Answered, refused_answered}

-- ---- the state

module _ (m : ℕ) where
  staying_length : (us : List Use) → length (staying 1 m us) ≤ length us
  unfolding staying
  staying_length [] = omega arith
  staying_length (u ∷ us) = go (goes 1 m u.point) (staying_length us)
    where
      go :
          (t : Bool) → length (staying 1 m us) ≤ length us
          → length (cond t [] (record { point = new_number 1 m u.point; offset = u.offset; length = u.length } ∷ []) ++ staying 1 m us) ≤ suc (length us)
      go true rest = omega (arith, rest)
      go false rest = omega (arith, rest)

  -- a use that stays has its point's new number
  staying_sized : (n : ℕ) (us : List Use) → All (SizedUse (m + n)) us → All (SizedUse n) (staying 1 m us)
  unfolding staying
  staying_sized n [] a = tt
  staying_sized n (u ∷ us) a = go (number 1 m u.point) a.0 (staying_sized n us a.1)
    where
      kept : List Use
      kept = record { point = new_number 1 m u.point; offset = u.offset; length = u.length } ∷ []

      go :
          Number 1 m u.point → SizedUse (m + n) u → All (SizedUse n) (staying 1 m us)
          → All (SizedUse n) (cond (goes 1 m u.point) [] kept ++ staying 1 m us)
      go (leaves lo hi e) one rest = rw e rest
      go (stays o e) one rest =
          let y : ℕ = new_number 1 m u.point in
          let first = one.not_origin in
          let last = one.live in
          let low : 0 < old_number 1 m y = omega (arith, o, first) in
          let high : old_number 1 m y < suc n + m = omega (arith, o, last) in
          let positive = new_positive 1 m y (omega arith) low in
          let below = new_lt 1 m (suc n) y (omega arith) high in
          rw e (
            record { not_origin = omega (arith, positive); live = omega (arith, below); offset = one.offset; some = one.some; length = one.length },
            rest,
          )

  lines_after : (n : ℕ) (ls : List (List Use)) → All (SizedLine (m + n)) ls → All (SizedLine n) (map (staying 1 m) ls)
  lines_after n [] a = tt
  lines_after n (us ∷ ls) a =
      let all = a.0.few in
      (record { few = omega (arith, staying_length us, all); uses = staying_sized n us a.0.uses }, lines_after n ls a.1)

unfoldable LeavingSized : State → Leaving → Type 0
LeavingSized s Leaving.stop = Unit {0}
LeavingSized s (Leaving.go m rs next) = (live_count s ≡ live_count next + m) × (next.settings ≡ s.settings) × Limits next

-- the list of jobs is taken apart
sized_from : (s : State) (js : List Job) → let t : State = with_jobs s js in Limits t → LeavingSized t (leaving_from t js)
unfolding LeavingSized leaving_from without
sized_from s [] p = tt
sized_from s (j ∷ js) p = go j.sent _ (live, refl, limits)
  where
    was : State
    was = with_jobs s (j ∷ js)

    next : State
    next = without 1 j.points js was

    live : live_count was ≡ live_count next + j.points
    live = unfold live_count total in omega arith

    limits : Limits next
    limits =
        let few = p.jobs in
        let points : j.points + total js ≤ most_points = unfold total in p.points in
        record {
          horizon = p.horizon;
          lead = p.lead;
          clock = p.clock;
          jobs = omega (arith, few);
          sizes = p.sizes.1;
          points = omega (arith, points);
          sixteen = length-map s.lines (staying 1 j.points) ∙ p.sixteen;
          lines = lines_after j.points (total js) s.lines (unfold total in p.lines);
          sent_first = p.sent_first.1;
        }

    go :
        (t : Bool) (rs : List Rule) → LeavingSized was (Leaving.go j.points rs next)
        → LeavingSized was (cond t (Leaving.go j.points rs next) Leaving.stop)
    go true rs q = q
    go false rs q = tt

leaving_sized : (s : State) → Limits s → LeavingSized s (leaving s)
unfolding leaving
leaving_sized s p = sized_from s s.jobs p

-- ---- the answer

module _ (b : Board) (w : Shaped b) (s : Sound b) where
  -- that the points of sent jobs stand still comes from the book beside the abstract board
  left_answered :
      (q : Leaving) → LeavingSized (state_of b) q → (R : Ruling → Book → Type 0) → Mirrors R (Model.departed (abstract_of b) q)
      → Answered (departed b q) (Model.departed (abstract_of b) q)
  unfolding LeavingSized departed Model.departed
  left_answered Leaving.stop z R mirrors = refused_answered b w s (plain 21)
  left_answered (Leaving.go m rs next) z R mirrors = go (entails_all (table_of b.gaps) rs) mirrors
    where
      n : ℕ
      n = live_points b

      few : n ≤ side
      few = live_few (parts_of b w s).limits

      same : n - m ≡ live_count next
      same = let live = z.0 in omega (arith, live)

      cells : List ℕ
      cells = dropped b.gaps 1 m n

      agree : Agree (live_count next) (table_of cells) (pick (old_number 1 m) (table_of b.gaps))
      agree = rw (← same) (dropped_agree b.gaps 1 m n few)

      table : GoodCells cells (live_count next) next.settings.horizon
      table =
          let live = z.0 in
          rw (← same, z.1)
          (dropped_good b.gaps 1 m n few b.settings.horizon (omega arith) (omega (arith, live, live_positive next)) (parts_of b w s).table)

      go :
          (t : Bool)
          → Mirrors R
          (elim t [
            | true ↦ record { ruling = Accepted; board = Model.board next (pick (old_number 1 m) (table_of b.gaps)) }
            | false ↦ Model.refused_with (abstract_of b) (plain 21)
          ])
          → Answered (cond t (accepted next cells) (refusal b 21))
          (elim t [
            | true ↦ record { ruling = Accepted; board = Model.board next (pick (old_number 1 m) (table_of b.gaps)) }
            | false ↦ Model.refused_with (abstract_of b) (plain 21)
          ])
      go true mirrored =
          let k = mirrored.exists in
          let h = holds_agree (table_of cells) (λ i j hi hj. sym (agree i j hi hj)) (mirrored.keeps Accepted k.0 k.1).1.holds in
          let p : Parts next cells = record { limits = z.2; cells = dropped_length b.gaps 1 m n few; table = table; still = h.still } in
          record { ruling = refl; state = parts_state p; cells = agree; shaped = parts_shaped p; sound = parts_sound p }
      go false mirrored = refused_answered b w s (plain 21)

  pub retired_is : retired b ≡ departed b (leaving (state_of b))
  unfolding retired
  retired_is = rw (sound_of b w.lines s)

  pub retire_answered : Answered (retired b) (Model.step (abstract_of b) retire)
  unfolding Model.step
  retire_answered =
      rw retired_is
      (left_answered (leaving (state_of b)) (leaving_sized (state_of b) (parts_of b w s).limits) _ (retire_mirrors (parts_holds (parts_of b w s))))
