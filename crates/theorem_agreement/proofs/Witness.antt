-- What `compare` shows where two boards differ (specs/Witness).
--   both_live       an entry that differs is one of two live points: cells without a live point are 0 on both boards
--   not_before_lem      no point is before the origin in the times shown
--   shown_fits      the times shown are a timetable of the board;  shown_origin: with the origin at 0
--   separates       and none of a board whose cell is smaller: point j is the whole of the larger cell after point i
--   witness_right, count_right   the theorems
use Prim.Native.Nat.{ℕ, ◌-◌, ◌≤◌, ◌<◌}
use mathlib.Core.Path.{◌≡◌, sym, ◌∙◌, ap, subst}
use mathlib.Core.Logic.{◌⊎◌, inl, inr}
use native.Mathlib.Decide.{dec_lt}
use native.Mathlib.Omega.{arith}
use lib.IntN.{pos}
use Rattle.spec_plain.specs.Limits.{side}
use Rattle.spec_plain.proofs.Rules.{NotLater}
use Rattle.spec_stn.specs.Table.{bias, Closed, Fits}
use Rattle.spec_stn.proofs.Fits.{fits_to, fits_of}
use Rattle.part_gaps.specs.Cells.{cell, table_of}
use Rattle.part_boardwords.specs.Board.{Board}
use Rattle.part_sound.specs.Sound.{Sound}
use Rattle.part_sound.proofs.Soundness.{sound_of}
use Rattle.log_tables.specs.declared.Entry.{Entry}
use Rattle.log_tables.specs.declared.showing.Which.{Which}
use Rattle.log_tables.specs.Witness.{witness_on, witness_time}
use Rattle.log_tables.proofs.Entries.{Names, entry_names, none_exactly}
use Rattle.log_tables.proofs.Witnesses.{cells_time, on_first, on_second}
use Rattle.theorem_agreement.specs.Abstract.{Shaped, live_points}
use Rattle.theorem_agreement.specs.Witness.{shown_times, Separates, Shows, WitnessRight, CountRight}
use Rattle.theorem_agreement.proofs.Compared.{live_to, live_of}
use Rattle.theorem_agreement.proofs.Parts.{parts_of}
use Rattle.theorem_agreement.proofs.States.{live_few}

module _ (b : Board) (w : Shaped b) (s : Sound b) (i : ℕ) (hi : i < live_points b) where
  closed : Closed (live_points b) (table_of b.gaps)
  closed = (parts_of b w s).table.closed

  within : (k : ℕ) → k < live_points b → k < side
  within k h = omega (arith, live_few (parts_of b w s).limits)

  time_of : (k : ℕ) → k < live_points b → cell b.gaps i k - cell b.gaps i 0 ≡ witness_time b i k
  time_of k h = cells_time b i k (within i hi) (within k h)

  not_before_lem : (k : ℕ) → k < live_points b → cell b.gaps i 0 ≤ cell b.gaps i k
  not_before_lem k h = omega (arith, closed.triangle i k 0 hi h (omega arith), closed.floor k h)

  shown_fits : Fits (live_points b) (table_of b.gaps) (shown_times b i)
  shown_fits =
      fits_of (live_points b) (table_of b.gaps) (shown_times b i)
      λ k n hk hn. omega (arith, time_of k hk, time_of n hn, not_before_lem k hk, not_before_lem n hn, closed.triangle i k n hi hk hn)

  shown_origin : shown_times b i 0 ≡ pos 0
  shown_origin = ap (λ (z : ℕ). pos z) (omega (arith, time_of 0 (omega arith)))

  separates : (d : Board) (j : ℕ) → live_points b ≡ live_points d → j < live_points b → cell d.gaps i j < cell b.gaps i j → Separates b d (shown_times b i)
  separates d j same hj less = (
    (shown_origin, shown_fits),
    λ u.
        let kept : NotLater (shown_times b i) j bias i (cell d.gaps i j) = fits_to u.1 i j (omega (arith, same)) (omega (arith, same)) in
        omega (arith, kept, time_of i hi, time_of j hj, not_before_lem j hj, closed.diagonal i hi, closed.floor i hi),
  )

module _ (b d : Board) (w : Shaped b) (v : Shaped d) (s : Sound b) (t : Sound d) where
  module _ (a : Entry) (same : live_points b ≡ live_points d) (e : Names b.gaps d.gaps a) where
    abbrev i : ℕ
    i = a.row

    abbrev j : ℕ
    j = a.column

    both_live : (i < live_points b) × (j < live_points b)
    both_live = go (dec_lt i (live_points b)) (dec_lt j (live_points b))
      where
        zeros : live_points b ≤ i ⊎ live_points b ≤ j → live_points d ≤ i ⊎ live_points d ≤ j → ⊥
        zeros p q =
            e.differ (sym e.first ∙ (parts_of b w s).table.rest i j e.row e.column p
            ∙ sym ((parts_of d v t).table.rest i j e.row e.column q) ∙ e.second)

        go : Dec (i < live_points b) → Dec (j < live_points b) → (i < live_points b) × (j < live_points b)
        go (yes p) (yes q) = (p, q)
        go (yes p) (no q) = absurd (zeros (inr (omega arith)) (inr (omega (arith, same))))
        go (no p) q = absurd (zeros (inl (omega arith)) (inl (omega (arith, same))))

    shows : Shows (witness_on a.first a.second) b d i
    shows = go (dec_lt a.second a.first)
      where
        go : Dec (a.second < a.first) → Shows (witness_on a.first a.second) b d i
        go (yes h) =
            subst (λ (z : Which). Shows z b d i) (on_first a.first a.second h)
            (separates b w s i both_live.0 d j same both_live.1 (omega (arith, e.first, e.second)))
        go (no h) =
            subst (λ (z : Which). Shows z b d i) (on_second a.first a.second (omega arith))
            (separates d v t i (omega (arith, same, both_live.0)) b j (sym same) (omega (arith, same, both_live.1))
            (let other : a.first ≡ a.second → ⊥ = e.differ in omega (arith, e.first, e.second, other)))

pub witness_right : WitnessRight
witness_right b d w v s t a h =
    let named = entry_names b d (sound_of b w.lines s) (sound_of d v.lines t) w.gaps (w.gaps ∙ sym v.gaps) a h in
    shows b d w v s t a (live_to b d named.0) named.1

pub count_right : CountRight
count_right b d w v s t same =
    none_exactly b d (sound_of b w.lines s) (sound_of d v.lines t) w.gaps (w.gaps ∙ sym v.gaps) (live_of b d same)
