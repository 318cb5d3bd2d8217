-- Points that leave: timetables, jobs and lines before and after. Of the leaving points, which stand still, the time is read off the
-- table, so that a timetable over the points that stay is completed by it (`spread`); and the rules keep their points under new names.
-- The m points from f on leave; f is not the origin. Of jobs the oldest leaves, so there f is 1.
--   behind f m v g    times for the retired points after these points, with the times v, left, g those before
--   after_times       with these, a point under its new name has the time that it had
--   after_possible    a timetable of the points that stay is possible after, if its completion is possible before
--   before_possible   a possible timetable after comes from one before
--   still_after, line_after, lines_after   jobs and lines
--   ends_within       the rules that all is over name points that are there
use mathlib.Core.Path.{◌≡◌, refl, ap, sym, subst, ◌∙◌}
use mathlib.Core.Bool.{Bool, true, false, cond}
use mathlib.Core.List.{List, [], ◌∷◌, ◌++◌, map}
use Prim.Native.Nat.{ℕ, ◌+◌, ◌-◌, ◌≤◌, ◌<◌}
use native.Mathlib.Omega.{arith}
use lib.Dec.{ltb}
use lib.IntN.{pos}
use borrow.Author.Tests.{lt-ltb, le-ltb}
use Rattle.spec_plain.specs.declared.Settings.{Settings}
use Rattle.spec_plain.specs.declared.Job.{Job}
use Rattle.spec_plain.specs.declared.Use.{Use}
use Rattle.spec_plain.specs.Plain.{State, end_of, over_by, goes, new_number, staying, ends_by, all_end_by}
use Rattle.spec_plain.specs.Rules.{Times, RuleOn, renamed}
use Rattle.spec_plain.proofs.Rules.{kept_ext, kept_renamed}
use Rattle.spec_stn.specs.Table.{Table, earliest, latest, Within, pick, old_number}
use Rattle.spec_stn.proofs.Pick.{old_low, old_high, new_lt, Number, leaves, stays, number, goes_old, over_old, spread, spread_stays}
use Rattle.spec_rulebook.specs.Book.{Point, live, gone, completed, Possible, reindexed}
use Rattle.theorem_demands.specs.Model.{book}
use Rattle.theorem_demands.specs.Beside.{Each, StillJobs, LineOfLive, LinesOfLive}
use Rattle.theorem_demands.proofs.Lines.{within_append}

-- ---- timetables

unfoldable behind : ℕ → ℕ → Times → Times → Times
behind f m v g k = cond (ltb k m) (v (k + f)) (g (k - m))

module _ (f m : ℕ) where
  behind_new : (v g : Times) (x : ℕ) → f ≤ x → x < f + m → behind f m v g (x - f) ≡ v x
  unfolding behind
  behind_new v g x lo hi = rw (lt-ltb (x - f) m (omega arith)) (ap v (omega arith))

  behind_old : (v g : Times) (k : ℕ) → behind f m v g (k + m) ≡ g k
  unfolding behind
  behind_old v g k = rw (le-ltb (k + m) m (omega arith)) (ap g (omega arith))

  reindexed_goes : (x : ℕ) → goes f m x ≡ true → reindexed f m (live x) ≡ gone (x - f)
  unfolding reindexed
  reindexed_goes x e = rw e

  reindexed_stays : (x : ℕ) → goes f m x ≡ false → reindexed f m (live x) ≡ live (new_number f m x)
  unfolding reindexed
  reindexed_stays x e = rw e

module _ (f m : ℕ) (c : Table) (u g : Times) where
  -- the completed times
  abbrev all : Times
  all = spread f m c u

  after_times : (x : Point) → completed all g x ≡ completed u (behind f m all g) (reindexed f m x)
  unfolding completed reindexed
  after_times (gone k) = sym (behind_old f m all g k)
  after_times (live x) = go (number f m x)
    where
      go : Number f m x → all x ≡ completed u (behind f m all g) (reindexed f m (live x))
      go (leaves lo hi e) = sym (behind_new f m all g x lo hi) ∙ ap (completed u (behind f m all g)) (sym (reindexed_goes f m x e))
      go (stays o e) = spread_stays f m c u x e ∙ ap (completed u (behind f m all g)) (sym (reindexed_stays f m x e))

-- the times before, of a timetable after: each point has the time of its new name
module _ (f m : ℕ) (u g : Times) where
  before_times :
      (x : Point) → completed u g (reindexed f m x) ≡ completed (λ k. completed u g (reindexed f m (live k))) (λ k. g (k + m)) x
  unfolding completed reindexed
  before_times (live k) = refl
  before_times (gone k) = refl

  before_old : (k : ℕ) → completed u g (reindexed f m (live (old_number f m k))) ≡ u k
  unfolding completed
  before_old k = ap (completed u g) (reindexed_stays f m (old_number f m k) (goes_old f m k)) ∙ ap u (over_old f m k)

module _ (f m : ℕ) (s next : State) (c : Table) (rs : List (RuleOn Point)) (u : Times) where
  pub after_possible :
      Possible (book s rs) (spread f m c u) → u 0 ≡ pos 0 → Possible (book next (map (renamed (reindexed f m)) rs)) u
  unfolding Possible
  after_possible p o =
      let g = p.1.0 in
      let after : Times = behind f m (spread f m c u) g in
      let times = after_times f m c u g in
      let kept = kept_ext (completed (spread f m c u) g) (λ x. completed u after (reindexed f m x)) times rs p.1.1 in
      (o, (after, (kept_renamed (reindexed f m) (completed u after) rs).1 kept))

  pub before_possible :
      0 < f → Possible (book next (map (renamed (reindexed f m)) rs)) u
      → (v : Times) × Possible (book s rs) v × ((k : ℕ) → v (old_number f m k) ≡ u k)
  unfolding Possible
  before_possible z p =
      let g = p.1.0 in
      let v : Times = λ k. completed u g (reindexed f m (live k)) in
      let origin : v 0 ≡ pos 0 = subst (λ (k : ℕ). v k ≡ pos 0) (old_low f m 0 z) (before_old f m u g 0 ∙ p.0) in
      let retired : Times = λ k. g (k + m) in
      let now = (kept_renamed (reindexed f m) (completed u g) rs).0 p.1.1 in
      let kept = kept_ext (λ x. completed u g (reindexed f m x)) (completed v retired) (before_times f m u g) rs now in
      (v, (origin, (retired, kept)), before_old f m u g)

-- ---- jobs and lines

pub still_after : (m : ℕ) (c : Table) (js : List Job) (x : ℕ) → 0 < x → StillJobs c (x + m) js → StillJobs (pick (old_number 1 m) c) x js
unfolding Each pick earliest latest
still_after m c [] x z s = tt
still_after m c (j ∷ js) x z s = (
  λ i lo hi sent. rw (old_high 1 m i (omega arith), old_low 1 m 0 (omega arith)) (s.0 (i + m) (omega arith) (omega arith) sent),
  still_after m c js (x + j.points) (omega arith) (subst (λ (y : ℕ). StillJobs c y js) (omega arith) s.1),
)

module _ (f m n : ℕ) (some : f ≤ n) where
  line_after : (l : List Use) → LineOfLive (n + m) l → LineOfLive n (staying f m l)
  unfolding LineOfLive staying
  line_after [] a = tt
  line_after (u ∷ l) a = go (number f m u.point) (line_after l a.1)
    where
      kept : List Use
      kept = record { point = new_number f m u.point; offset = u.offset; length = u.length } ∷ []

      go : Number f m u.point → LineOfLive n (staying f m l) → LineOfLive n (cond (goes f m u.point) [] kept ++ staying f m l)
      go (leaves lo hi e) rest = rw e rest
      go (stays o e) rest =
          let y : ℕ = new_number f m u.point in
          let high : old_number f m y < n + m = subst (λ (k : ℕ). k < n + m) o a.0 in
          rw e (new_lt f m n y some high, rest)

  pub lines_after : (ls : List (List Use)) → LinesOfLive (n + m) ls → LinesOfLive n (map (staying f m) ls)
  unfolding LinesOfLive
  lines_after [] a = tt
  lines_after (l ∷ ls) a = (line_after l a.0, lines_after ls a.1)

-- ---- all is over by c

module _ (s : Settings) (n c f m : ℕ) (z : 0 < n) where
  line_ends : (l : List Use) → LineOfLive n l → Within n (ends_by s c f m l)
  unfolding Within LineOfLive ends_by over_by
  line_ends [] a = tt
  line_ends (u ∷ l) a = go (goes f m u.point) (line_ends l a.1)
    where
      go :
          (b : Bool) → Within n (ends_by s c f m l)
          → Within n (cond b (over_by u.point (end_of s u) c ∷ []) [] ++ ends_by s c f m l)
      go true rest = (a.0, z, rest)
      go false rest = rest

  pub ends_within : (ls : List (List Use)) → LinesOfLive n ls → Within n (all_end_by s c f m ls)
  unfolding Within LinesOfLive all_end_by
  ends_within [] a = tt
  ends_within (l ∷ ls) a =
      within_append n (ends_by s c f m l) (all_end_by s c f m ls) (line_ends l a.0) (ends_within ls a.1)
