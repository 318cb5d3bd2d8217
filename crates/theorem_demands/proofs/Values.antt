-- Values over the possible timetables, read off the table.
--   least_at, least_is   the least value of a point is its earliest time in the table, and nothing else is
--   greatest_at          the greatest value of a point is its latest time
--   gap_is               cell (i, j) less the bias is the largest time of j minus time of i
--   sim_least, sim_greatest, sim_gap   the same of a board and a book that are side by side
use mathlib.Core.Path.{◌≡◌, refl, ap}
use mathlib.Core.List.{List}
use Prim.Native.Nat.{ℕ, ◌+◌, ◌≤◌, ◌<◌}
use native.Mathlib.Omega.{arith}
use lib.IntN.{ℤ, pos, sub_ℕ, ◌+ℤ◌}
use lib.Signed.{◌≤ℤ◌}
use Rattle.spec_plain.specs.Plain
use Rattle.spec_plain.specs.Rules.{Times, RuleOn}
use Rattle.spec_plain.proofs.Whole.{up, dn, below_of, of_below, sub_spec, sum_spec, whole_eq}
use Rattle.spec_stn.specs.Table.{bias, Table, far, earliest, latest, soonest}
use Rattle.spec_stn.proofs.Fits.{fits_to, far_fits, far_origin, soonest_least, latest_far, latest_most}
use Rattle.spec_rulebook.specs.Book.{Book, Point, Possible, Least, Greatest, Gap}
use Rattle.theorem_demands.specs.Model.{Board, book}
use Rattle.theorem_demands.specs.Beside.{StandsFor, Sim}
use Rattle.theorem_demands.proofs.Tries.{live_positive, turned, soonest_possible}

module _ {s : Plain.State} {c : Table} {rs : List (RuleOn Point)} (h : StandsFor s c rs) where
  pub far_possible : (i : ℕ) → i < Plain.live_count s → Possible (book s rs) (far c i)
  far_possible i hi = (h.same (far c i)).0 (far_origin c i, far_fits (Plain.live_count s) c h.closed i hi)

  -- the timetable u is no sooner than the earliest times
  soonest_first : (u : Times) → Possible (book s rs) u → (x : ℕ) → x < Plain.live_count s → earliest c x + dn (u x) ≤ up (u x)
  soonest_first u p x hx =
      let f = (h.same u).1 p in
      soonest_least (Plain.live_count s) c h.closed (live_positive s) u f.0 f.1 x hx

  pub least_at : (x : ℕ) → x < Plain.live_count s → Least (book s rs) x (earliest c x)
  unfolding soonest
  least_at x hx =
      record {
        attained = (soonest c, soonest_possible h, refl);
        least = λ u p. of_below (pos (earliest c x)) (u x) (omega (arith, soonest_first u p x hx));
      }

  pub least_is : (x v : ℕ) → x < Plain.live_count s → Least (book s rs) x v → v ≡ earliest c x
  unfolding soonest
  least_is x v hx l =
      let t = l.attained in
      omega (
        arith,
        soonest_first t.0 t.1 x hx,
        ap up t.2,
        ap dn t.2,
        below_of (pos v) (pos (earliest c x)) (l.least (soonest c) (soonest_possible h)),
      )

  pub greatest_at : (x : ℕ) → x < Plain.live_count s → Greatest (book s rs) x (latest c x)
  greatest_at x hx =
      record {
        attained = (far c 0, far_possible 0 (live_positive s), latest_far (Plain.live_count s) c h.closed x hx);
        most = λ u p.
            let f = (h.same u).1 p in
            of_below (u x) (pos (latest c x)) (omega (arith, latest_most (Plain.live_count s) c h.closed u f.0 f.1 x hx));
      }

  -- Attained by the timetable `far c i`; and no timetable of the table passes its cell
  pub gap_is : (i j : ℕ) → i < Plain.live_count s → j < Plain.live_count s → Gap (book s rs) i j (sub_ℕ (c i j) bias)
  unfolding far
  gap_is i j hi hj = record { attained = (far c i, far_possible i hi, reached); most = never_passed }
    where
      d : ℤ
      d = sub_ℕ (c i j) bias

      reached : far c i j ≡ far c i i +ℤ d
      reached =
          whole_eq (far c i j) (far c i i +ℤ d)
          (omega (
            arith,
            sub_spec (c i j) (c i 0),
            sub_spec (c i i) (c i 0),
            sub_spec (c i j) bias,
            sum_spec (far c i i) d,
            h.closed.diagonal i hi,
          ))

      never_passed : (u : Times) → Possible (book s rs) u → u j ≤ℤ (u i +ℤ d)
      never_passed u p = of_below (u j) (u i +ℤ d) (omega (arith, fits_to ((h.same u).1 p).1 i j hi hj, sub_spec (c i j) bias, sum_spec (u i) d))

module _ {bd : Board} {bk : Book} (m : Sim bd bk) where
  pub sim_least : (x : ℕ) → x < Plain.live_count bd.state → Least bk x (earliest bd.table x)
  sim_least x hx = rw (turned m) (least_at m.holds x hx)

  pub sim_greatest : (x : ℕ) → x < Plain.live_count bd.state → Greatest bk x (latest bd.table x)
  sim_greatest x hx = rw (turned m) (greatest_at m.holds x hx)

  pub sim_gap : (i j : ℕ) → i < Plain.live_count bd.state → j < Plain.live_count bd.state → Gap bk i j (sub_ℕ (bd.table i j) bias)
  sim_gap i j hi hj = rw (turned m) (gap_is m.holds i j hi hj)
