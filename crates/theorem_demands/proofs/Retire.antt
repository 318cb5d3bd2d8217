-- Retire mirrors the board's: the oldest job's points leave table and lines, and the rule book renames them.
--   retire_holds      what holds of board and book after the points of a sent job left
--   always_implied    all is over by the clock in every possible timetable exactly when the table's cells say so
--   retire_mirrors    the call
use mathlib.Core.Path.{◌≡◌, refl, ap, sym, subst, ◌∙◌, fun_ext}
use mathlib.Core.Logic.{◌↔◌}
use mathlib.Core.Bool.{Bool, true, false, cond}
use mathlib.Core.List.{List, [], ◌∷◌, map}
use Prim.Native.Nat.{ℕ, ◌+◌, ◌≤◌, ◌<◌}
use native.Mathlib.Omega.{arith}
use lib.Dec.{T}
use lib.IntN.{pos}
use Rattle.base_rulings.specs.declared.Ruling.{Ruling}
use Rattle.base_rulings.specs.declared.Ruling.TheVariants.{Accepted}
use Rattle.base_rulings.specs.Answer.{plain}
use Rattle.spec_plain.specs.declared.Job.{Job}
use Rattle.spec_plain.specs.declared.Rule.{Rule}
use Rattle.spec_plain.specs.Plain
use Rattle.spec_plain.specs.Rules.{Times, RuleOn, renamed}
use Rattle.spec_stn.specs.Table.{Table, Closed, Fits, Still, Within, entails_all, pick, old_number}
use Rattle.spec_stn.proofs.Fits.{implied_yes, implied_no}
use Rattle.spec_stn.proofs.Pick.{pick_closed, pick_fits, old_low, old_lt, spread, spread_origin, spread_fits}
use Rattle.spec_rulebook.specs.Book.{Book, Point, Possible, reindexed, Entails, Retires}
use Rattle.theorem_demands.specs.Model.{book, board, refused_with, departed}
use Rattle.theorem_demands.specs.Beside.{Each, AllHavePoints, StandsFor, Mirrors}
use Rattle.theorem_demands.proofs.Tries.{live_positive, beside, refuse_mirrors, chosen, not_chosen}
use Rattle.theorem_demands.proofs.Leave.{after_possible, before_possible, still_after, lines_after, ends_within}

-- the job j is the oldest, js are the others
module _ (s : Plain.State) (j : Job) (js : List Job) where
  abbrev was : Plain.State
  was = Plain.with_jobs s (j ∷ js)

  abbrev is : Plain.State
  is = Plain.without 1 j.points js was

  abbrev ends : List Rule
  ends =
      Plain.over_by j.points (Plain.tray_gap s.settings) s.clock
      ∷ Plain.all_end_by s.settings s.clock 1 j.points s.lines

  -- the retire call of this job, sent
  abbrev Leaves : List (RuleOn Point) → Ruling → Book → Type 0
  Leaves rs = Retires (book was rs) (Plain.Leaving.go j.points ends is)

  was_live : Plain.live_count was ≡ Plain.live_count is + j.points
  unfolding Plain.without Plain.live_count Plain.total
  was_live = omega arith

  module _ {c : Table} {rs : List (RuleOn Point)} (h : StandsFor was c rs) where
    abbrev table : Table
    table = pick (old_number 1 j.points) c

    abbrev after : List (RuleOn Point)
    after = map (renamed (reindexed 1 j.points)) rs

    retire_holds : T j.sent → StandsFor is table after
    unfolding Plain.without Each AllHavePoints
    retire_holds sent =
        record {
          closed = pick_closed (Plain.live_count is) (Plain.live_count is + j.points) (old_number 1 j.points) c closed origin below;
          same = λ u. (λ f. to u f.0 f.1, λ p. of u (before_possible 1 j.points was is c rs u (omega arith) p));
          still = still_after j.points c js 1 (omega arith) h.still.1;
          lines = lines_after 1 j.points (Plain.live_count is) (live_positive is) s.lines (rw was_live at h.lines);
          jobs = h.jobs.1;
          small = h.small;
        }
      where
        closed : Closed (Plain.live_count is + j.points) c
        closed = rw was_live at h.closed

        origin : old_number 1 j.points 0 ≡ 0
        origin = old_low 1 j.points 0 (omega arith)

        below : (a : ℕ) → a < Plain.live_count is → old_number 1 j.points a < Plain.live_count is + j.points
        below a l = old_lt 1 j.points (Plain.live_count is) a l

        still : (x : ℕ) → 1 ≤ x → x < 1 + j.points → Still c x
        still x lo hi = h.still.0 x lo hi sent

        to : (u : Times) → u 0 ≡ pos 0 → Fits (Plain.live_count is) table u → Possible (book is after) u
        to u o f =
            let fits = spread_fits 1 j.points (Plain.live_count is) c u (omega arith) (live_positive is) closed still o f in
            let zero_time = spread_origin 1 j.points c u (omega arith) ∙ o in
            after_possible 1 j.points was is c rs u ((h.same (spread 1 j.points c u)).0 (zero_time, rw was_live fits)) o

        of :
            (u : Times) → (v : Times) × Possible (book was rs) v × ((k : ℕ) → v (old_number 1 j.points k) ≡ u k)
            → (u 0 ≡ pos 0) × Fits (Plain.live_count is) table u
        of u q =
            let f = (h.same q.0).1 q.1 in (
              sym (q.2 0) ∙ ap q.0 origin ∙ f.0,
              subst (λ (t : Times). Fits (Plain.live_count is) table t) (fun_ext q.2)
                  (pick_fits (Plain.live_count is) (Plain.live_count is + j.points) (old_number 1 j.points) c below q.0 (rw was_live at f.1)),
            )

    ends_in : Within (Plain.live_count was) ends
    unfolding Within Plain.over_by Plain.live_count Plain.total
    ends_in = (
      omega arith,
      omega arith,
      ends_within s.settings (Plain.live_count was) s.clock 1 j.points (live_positive was) s.lines h.lines,
    )

    always_implied : Entails (book was rs) ends ↔ T (entails_all c ends)
    unfolding Entails
    always_implied = (
      λ a. implied_no (Plain.live_count was) c ends h.closed ends_in (λ t o f. a t ((h.same t).0 (o, f))),
      λ i u p. implied_yes (Plain.live_count was) c ends ends_in i u ((h.same u).1 p).1,
    )

    sent_mirrors : T j.sent → Mirrors (Leaves rs) (departed (board was c) (Plain.Leaving.go j.points ends is))
    unfolding departed Retires
    sent_mirrors sent = go (entails_all c ends) refl
      where
        go :
            (b : Bool) → entails_all c ends ≡ b
            → Mirrors (Leaves rs)
            (elim b [ true ↦ record { ruling = Accepted; board = board is table } | false ↦ refused_with (board was c) (plain 21) ])
        go true e = chosen (book was rs) (plain 21) (always_implied.1 (subst T (sym e) tt)) (beside (retire_holds sent))
        go false e = not_chosen (book is after) (plain 21) (λ a. subst T e (always_implied.0 a)) h

    oldest_mirrors : Mirrors (Retires (book was rs) (Plain.leaving_from was (j ∷ js))) (departed (board was c) (Plain.leaving_from was (j ∷ js)))
    unfolding Plain.leaving_from Retires departed
    oldest_mirrors = go j.sent (λ b. b)
      where
        go :
            (b : Bool) → (T b → T j.sent)
            → Mirrors (Retires (book was rs) (cond b (Plain.Leaving.go j.points ends is) Plain.Leaving.stop))
            (departed (board was c) (cond b (Plain.Leaving.go j.points ends is) Plain.Leaving.stop))
        go true sent = sent_mirrors (sent tt)
        go false sent = refuse_mirrors h (plain 21)

-- the list of jobs is taken apart
by_jobs :
    (s : Plain.State) (js : List Job) {c : Table} {rs : List (RuleOn Point)}
    → let t : Plain.State = Plain.with_jobs s js in
    StandsFor t c rs → Mirrors (Retires (book t rs) (Plain.leaving_from t js)) (departed (board t c) (Plain.leaving_from t js))
unfolding Plain.leaving_from Retires departed
by_jobs s [] h = refuse_mirrors h (plain 21)
by_jobs s (j ∷ js) h = oldest_mirrors s j js h

pub retire_mirrors :
    {s : Plain.State} {c : Table} {rs : List (RuleOn Point)} → StandsFor s c rs
    → Mirrors (Retires (book s rs) (Plain.leaving s)) (departed (board s c) (Plain.leaving s))
unfolding Plain.leaving
retire_mirrors {s} h = by_jobs s s.jobs h
