-- Send mirrors the board's: the earliest times of the table are the least values, and together they are a timetable, so that setting
-- points to them always leaves one; and a point that is set stands still.
--   least_all, freeze_is   the earliest times are the least values, and any least values set the same rules
--   frozen_still           what is set stands still
--   total_marked, live_sent   send adds no point
--   send_within            the rules name points that are there
--   send_added, send_some  what adding the rules says; it never fails
use mathlib.Core.Path.{◌≡◌, refl, ap}
use mathlib.Core.Bool.{Bool, true, false, cond}
use mathlib.Core.List.{List, [], ◌∷◌, ◌++◌}
use mathlib.Core.Option.{Option, some, none}
use Prim.Native.Nat.{ℕ, zero, suc, ◌+◌, ◌≤◌, ◌<◌}
use native.Mathlib.Omega.{arith}
use native.Mathlib.Decide.{ℕ_discrete}
use lib.Dec.{T}
use lib.IntN.{pos}
use Rattle.spec_plain.specs.declared.Job.{Job}
use Rattle.spec_plain.specs.declared.Rule.{Rule}
use Rattle.spec_plain.specs.Plain
use Rattle.spec_plain.specs.Rules.{Times, RuleOn, AllKept, KeepsAll}
use Rattle.spec_plain.proofs.Whole.{up}
use Rattle.spec_plain.proofs.Rules.{keeps_of}
use Rattle.spec_plain.proofs.Points.{Below, unsent_below}
use Rattle.spec_stn.specs.Table.{Table, Closed, Fits, Still, add_all, Within, earliest, latest, soonest}
use Rattle.spec_stn.proofs.Fits.{implied_of, soonest_fits, soonest_origin}
use Rattle.spec_stn.proofs.Add.{Added, add_all_added}
use Rattle.spec_rulebook.specs.Book.{Point, AllLeast, made, Sends}
use Rattle.theorem_demands.specs.Model.{book, board, settled, send_points, sending}
use Rattle.theorem_demands.specs.Beside.{Each, StillJobs, AllHavePoints, StandsFor, Mirrors}
use Rattle.theorem_demands.proofs.Jobs.{still_tight, still_jobs}
use Rattle.theorem_demands.proofs.Tries.{live_positive, beside, Tries, Outcome, tried}
use Rattle.theorem_demands.proofs.Values.{least_at, least_is}

-- ---- the points that are set

freeze_within : (n : ℕ) (v : ℕ → ℕ) (xs : List ℕ) → 0 < n → Below n xs → Within n (Plain.freeze v xs)
unfolding Within Plain.freeze Plain.not_before Plain.not_after
freeze_within n v [] z a = tt
freeze_within n v (x ∷ xs) z a = (z, a.0, (a.0, z, freeze_within n v xs z a.1))

-- ---- least values

module _ {s : Plain.State} {c : Table} {rs : List (RuleOn Point)} (h : StandsFor s c rs) where
  least_all : (xs : List ℕ) → Below (Plain.live_count s) xs → AllLeast (book s rs) (earliest c) xs
  unfolding AllLeast
  least_all [] a = tt
  least_all (x ∷ xs) a = (least_at h x a.0, least_all xs a.1)

  freeze_is :
      (v : ℕ → ℕ) (xs : List ℕ) → Below (Plain.live_count s) xs → AllLeast (book s rs) v xs → Plain.freeze v xs ≡ Plain.freeze (earliest c) xs
  unfolding AllLeast Plain.freeze
  freeze_is v [] a l = refl
  freeze_is v (x ∷ xs) a l = rw (least_is h x (v x) a.0 l.0, freeze_is v xs a.1 l.1)

-- the earliest times together keep what sets them
soonest_keeps : (c : Table) (xs : List ℕ) → soonest c 0 ≡ pos 0 → KeepsAll (soonest c) (Plain.freeze (earliest c) xs)
unfolding AllKept Plain.freeze Plain.not_before Plain.not_after soonest
soonest_keeps c [] e = tt
soonest_keeps c (x ∷ xs) e = (
  keeps_of (soonest c) (Plain.not_before x (earliest c x)) (omega (arith, ap up e)),
  (keeps_of (soonest c) (Plain.not_after x (earliest c x)) (omega (arith, ap up e)), soonest_keeps c xs e),
)

-- ---- what is set stands still

unfoldable StillAll : Table → List ℕ → Type 0
StillAll d [] = Unit {0}
StillAll d (x ∷ xs) = Still d x × StillAll d xs

-- every timetable has the point at v x, so both its gaps with the origin say so
frozen_still :
    (n : ℕ) (d : Table) (v : ℕ → ℕ) (xs : List ℕ) → Closed n d → 0 < n → Below n xs
    → ((t : Times) → t 0 ≡ pos 0 → Fits n d t → KeepsAll t (Plain.freeze v xs)) → StillAll d xs
unfolding AllKept Plain.freeze Plain.not_before Plain.not_after StillAll earliest latest
frozen_still n d v [] cl z a k = tt
frozen_still n d v (x ∷ xs) cl z a k = (
  omega (
    arith,
    implied_of n d (Plain.not_before x (v x)) cl z a.0 (λ t o f. (k t o f).0),
    implied_of n d (Plain.not_after x (v x)) cl a.0 z (λ t o f. (k t o f).1.0),
    cl.triangle 0 x 0 z a.0 z,
    cl.diagonal 0 z,
  ),
  frozen_still n d v xs cl z a.1 (λ t o f. (k t o f).1.1),
)

still_range : (d : Table) (m x : ℕ) (ys : List ℕ) → StillAll d (Plain.range x m ++ ys) → (i : ℕ) → x ≤ i → i < x + m → Still d i
unfolding StillAll Plain.range
still_range d zero x ys s i lo hi = absurd (omega arith)
still_range d (suc m) x ys s i lo hi = go (ℕ_discrete x i) (λ l. still_range d m (suc x) ys s.1 i l (omega arith))
  where
    go : Dec (x ≡ i) → (suc x ≤ i → Still d i) → Still d i
    go (yes e) rest = rw e at s.0
    go (no g) rest = rest (omega arith)

still_rest : (d : Table) (xs ys : List ℕ) → StillAll d (xs ++ ys) → StillAll d ys
unfolding StillAll
still_rest d [] ys s = s
still_rest d (x ∷ xs) ys s = still_rest d xs ys s.1

-- the jobs sent before stand still as they did, and those sent now because their points are set
still_marked :
    (c d : Table) (n k : ℕ) → ((i : ℕ) → i < n → Still c i → Still d i) → (js : List Job) (x : ℕ) → x + Plain.total js ≤ n
    → StillAll d (Plain.unsent_points x k js) → StillJobs c x js → StillJobs d x (Plain.sent_up_to k js)
unfolding Each Plain.total Plain.unsent_points Plain.sent_up_to
still_marked c d n zero f js x le a s = still_jobs c d n f js x le s
still_marked c d n (suc k) f [] x le a s = tt
still_marked c d n (suc k) f (j ∷ js) x le a s = (
  λ i lo hi sent. head j.sent a s.0 i lo hi,
  still_marked c d n k f js (x + j.points) (omega arith)
      (still_rest d (cond j.sent [] (Plain.range x j.points)) (Plain.unsent_points (x + j.points) k js) a) s.1,
)
  where
    head :
        (b : Bool) → StillAll d (cond b [] (Plain.range x j.points) ++ Plain.unsent_points (x + j.points) k js)
        → ((i : ℕ) → x ≤ i → i < x + j.points → T b → Still c i) → (i : ℕ) → x ≤ i → i < x + j.points → Still d i
    head true a s i lo hi = f i (omega arith) (s i lo hi tt)
    head false a s i lo hi = still_range d j.points x (Plain.unsent_points (x + j.points) k js) a i lo hi

-- ---- the state to be

pub total_marked : (k : ℕ) (js : List Job) → Plain.total (Plain.sent_up_to k js) ≡ Plain.total js
unfolding Plain.total Plain.sent_up_to
total_marked zero js = refl
total_marked (suc k) [] = refl
total_marked (suc k) (j ∷ js) = ap (λ (n : ℕ). j.points + n) (total_marked k js)

pub live_sent : (s : Plain.State) (place : ℕ) → Plain.live_count (Plain.sent_state s place) ≡ Plain.live_count s
unfolding Plain.live_count Plain.sent_state
live_sent s place = ap suc (total_marked (suc place) s.jobs)

jobs_marked : (k : ℕ) (js : List Job) → AllHavePoints js → AllHavePoints (Plain.sent_up_to k js)
unfolding AllHavePoints Plain.sent_up_to
jobs_marked zero js a = a
jobs_marked (suc k) [] a = tt
jobs_marked (suc k) (j ∷ js) a = (a.0, jobs_marked k js a.1)

-- ---- the step

module _ {s : Plain.State} {c : Table} {rs : List (RuleOn Point)} (h : StandsFor s c rs) (place : ℕ) where
  abbrev next : Plain.State
  next = Plain.sent_state s place

  abbrev sets : List Rule
  sets = Plain.freeze (earliest c) (send_points s place)

  points_below : Below (Plain.live_count s) (send_points s place)
  unfolding Plain.live_count
  points_below = unsent_below (Plain.live_count s) (suc place) s.jobs 1 (omega arith)

  pub send_within : Within (Plain.live_count s) sets
  send_within = freeze_within (Plain.live_count s) (earliest c) (send_points s place) (live_positive s) points_below

  pub send_added : Added (Plain.live_count s) c sets (add_all sets c)
  send_added = add_all_added (Plain.live_count s) c sets h.closed send_within

  -- the earliest times keep the rules
  pub send_some : (o : Option Table) → Added (Plain.live_count s) c sets o → (d : Table) × (o ≡ some d)
  unfolding Added
  send_some (some d) a = (d, refl)
  send_some none a =
      absurd (a (soonest c) (soonest_fits (Plain.live_count s) c h.closed (live_positive s))
      (soonest_keeps c (send_points s place) (soonest_origin (Plain.live_count s) c h.closed (live_positive s))))

  send_still :
      (d : Table) → Closed (Plain.live_count s) d
      → ((t : Times) → t 0 ≡ pos 0 → Fits (Plain.live_count s) d t → Fits (Plain.live_count s) c t × KeepsAll t sets)
      → StillJobs d 1 (Plain.sent_up_to (suc place) s.jobs)
  unfolding Plain.live_count
  send_still d cl f =
      let keep = still_tight (Plain.live_count s) (Plain.live_count s) c d cl (live_positive s) (omega arith) (λ t o g. (f t o g).0) in
      let set = frozen_still (Plain.live_count s) d (earliest c) (send_points s place) cl (live_positive s) points_below (λ t o g. (f t o g).1) in
      still_marked c d (Plain.live_count s) (suc place) keep s.jobs 1 (omega arith) set h.still

  send_tries : Tries s next c c [] sets
  unfolding Plain.sent_state AllKept
  send_tries =
      record {
        fits = λ t. rw (live_sent s place) (λ f. (f, tt), λ p. p.0);
        still = λ d cl f. send_still d (rw (live_sent s place) at cl) (rw (live_sent s place) at f);
        lines = rw (live_sent s place) h.lines;
        jobs = jobs_marked (suc place) s.jobs h.jobs;
        small = h.small;
      }

  -- any values that are the least set the same rules
  send_settled :
      (o : Option Table) → Added (Plain.live_count s) c sets o → Outcome s next rs sets o
      → Mirrors (Sends (book s rs) place (send_points s place)) (settled (board s c) 0 next o)
  unfolding Outcome Sends settled made
  send_settled (some d) a q =
      record {
        keeps = λ r k l. (l.2, rw (l.3, freeze_is h l.0 (send_points s place) points_below l.1) (beside q));
        exists = (made next (book s rs) sets, (earliest c, least_all h (send_points s place) points_below, refl, refl));
      }
  send_settled none a q = let d = send_some none a in let z : ◌≡◌ {A = ℕ} 0 1 = cc d.1 in absurd (omega arith)

  pub send_mirrors : Mirrors (Sends (book s rs) place (send_points s place)) (sending (board s c) place)
  send_mirrors = send_settled (add_all sets c) send_added (tried h send_tries (add_all sets c) (rw (live_sent s place) send_added))
