-- The test of a board is true exactly where document 01 calls the board sound.
--   numbers_to, numbers_of   horizon, lead and clock;  settings_to: horizon and lead;  jobs_to, jobs_of_lem: the jobs' sizes
--   few_points_lem, jobs_sized   what the walks of the jobs ask: that each has few points, and all together
--   all_to, all_of_lem           a list whose elements are tested one by one
--   first_to, first_of       sent jobs come first
--   still_to, still_of       the points of sent jobs stand still
--   sound_sized, sound_each  a board that passes the test has few jobs and points, and each job passes its own;  sound_few: each has few points
--   sound_to, sound_of       the whole board;  sound_is: both ways
-- A law that ends in -to goes from the test to the definition, one that ends in -of back.
use Prim.Native.Nat.{ℕ, suc, ◌+◌, ◌-◌, ◌≤◌, ◌<◌}
use mathlib.Core.Path.{◌≡◌, refl, sym, ◌∙◌}
use mathlib.Core.Logic.{◌↔◌}
use mathlib.Core.Bool.{Bool, true, false, false≢true, not, ◌&&◌}
use mathlib.Core.List.{List, [], ◌∷◌}
use native.Mathlib.Omega.{arith}
use lib.ListN.{length, get_or}
use lib.Dec.{leb, eqb}
use borrow.Author.Tests.{leb-true, le-leb, eqb-true, eq-eqb, not-true}
use Rattle.spec_plain.specs.Limits.{most_jobs, most_points, resources, most_uses}
use Rattle.spec_plain.specs.declared.Settings.{Settings}
use Rattle.spec_plain.specs.declared.Job.{Job}
use Rattle.part_lines.specs.declared.Jobs.{Jobs}
use Rattle.spec_plain.specs.declared.Use.{Use}
use Rattle.part_lines.specs.declared.Line.{Line}
use Rattle.spec_plain.specs.Plain.{total}
use Rattle.part_lines.specs.ArrayLists.{jobs_of, line_of, no_line}
use Rattle.part_lines.specs.Asked.{Sized}
use Rattle.base_lists.specs.All.{All}
use Rattle.base_lists.proofs.All.{all_at, all_from, all_map}
use Rattle.base_lists.proofs.AllBelow.{both_true, all_below_to, all_below_of}
use Rattle.spec_stn.specs.Table.{bias, Closed, Still}
use Rattle.spec_stn.proofs.Fits.{still_sum, sum_still}
use Rattle.part_gaps.specs.Cells.{cell, table_of}
use Rattle.part_gaps.proofs.GapTable.{cells_of}
use Rattle.part_gaptest.specs.Test.{is_gap_table}
use Rattle.part_gaptest.proofs.Test.{gap_table_to, gap_table_of}
use Rattle.part_boardwords.specs.Board.{Board}
use Rattle.part_jobwords.specs.Counted.{FewPoints}
use Rattle.part_sound.specs.Sound.{
  SizedJob,
  SizedUse,
  NoneSent,
  SentFirst,
  StillSent,
  points_of,
  Sound,
  all_of,
  sized_settings,
  sized_numbers,
  sized_job,
  sized_jobs,
  sized_use,
  sized_line,
  sent_from,
  stand_still,
  still_job,
  still_sent,
  clauses_kept,
  sound,
}

-- ---- lists

module _ {A : Type 0} (P : A → Type 0) where
  all_to : (f : A → Bool) → ((a : A) → f a ≡ true → P a) → (l : List A) → all_of f l ≡ true → All P l
  all_to f h [] e = tt
  all_to f h (a ∷ l) e = let p = both_true (f a) (all_of f l) e in (h a p.0, all_to f h l p.1)

  all_of_lem : (f : A → Bool) → ((a : A) → P a → f a ≡ true) → (l : List A) → All P l → all_of f l ≡ true
  all_of_lem f h [] p = refl
  all_of_lem f h (a ∷ l) p = rw (h a p.0) (all_of_lem f h l p.1)

-- ---- numbers and jobs

module _ (s : Settings) where
  abbrev InRange : Type 0
  InRange = (1 ≤ s.horizon) × (s.horizon ≤ 100000000)

  pub settings_to : sized_settings s ≡ true → InRange × (s.lead ≤ 1000000)
  settings_to h =
      let p = both_true (leb 1 s.horizon && leb s.horizon 100000000) (leb s.lead 1000000) h in
      let q = both_true (leb 1 s.horizon) (leb s.horizon 100000000) p.0 in
      ((leb-true 1 s.horizon q.0, leb-true s.horizon 100000000 q.1), leb-true s.lead 1000000 p.1)

  module _ (c : ℕ) where
    pub numbers_to : sized_numbers s c ≡ true → InRange × (s.lead ≤ 1000000) × (c ≤ s.horizon)
    numbers_to h =
        let p = both_true (sized_settings s) (leb c s.horizon) h in
        let q = settings_to p.0 in
        (q.0, q.1, leb-true c s.horizon p.1)

    numbers_of : InRange → s.lead ≤ 1000000 → c ≤ s.horizon → sized_numbers s c ≡ true
    numbers_of h d e =
        rw (
          le-leb 1 s.horizon h.0,
          le-leb s.horizon 100000000 h.1,
          le-leb s.lead 1000000 d,
          le-leb c s.horizon e,
        )

module _ (H : ℕ) where
  job_to : (j : Job) → sized_job H j ≡ true → SizedJob H j
  job_to j h =
      let p = both_true (leb 2 j.points && leb j.points 9) (leb j.due H) h in
      let q = both_true (leb 2 j.points) (leb j.points 9) p.0 in
      record { least = leb-true 2 j.points q.0; most = leb-true j.points 9 q.1; due = leb-true j.due H p.1 }

  job_of : (j : Job) → SizedJob H j → sized_job H j ≡ true
  job_of j s = rw (le-leb 2 j.points s.least, le-leb j.points 9 s.most, le-leb j.due H s.due)

  -- jobs that are sized have few points each
  pub few_points_lem : (js : List Job) → all_of (sized_job H) js ≡ true → All FewPoints js
  few_points_lem js h = all_map (SizedJob H) FewPoints (λ j s. s.most) js (all_to (SizedJob H) (sized_job H) job_to js h)

  module _ (jobs : Jobs) where
    jobs_to : sized_jobs H jobs ≡ true → (jobs.count ≤ most_jobs) × All (SizedJob H) (jobs_of jobs) × (total (jobs_of jobs) ≤ most_points)
    unfolding sized_jobs
    jobs_to h =
        let few = leb (total (jobs_of jobs)) most_points in
        let p = both_true (leb jobs.count most_jobs) (all_of (sized_job H) (jobs_of jobs) && few) h in
        let q = both_true (all_of (sized_job H) (jobs_of jobs)) few p.1 in (
          leb-true jobs.count most_jobs p.0,
          all_to (SizedJob H) (sized_job H) job_to (jobs_of jobs) q.0,
          leb-true (total (jobs_of jobs)) most_points q.1,
        )

    jobs_of_lem : jobs.count ≤ most_jobs → All (SizedJob H) (jobs_of jobs) → total (jobs_of jobs) ≤ most_points → sized_jobs H jobs ≡ true
    unfolding sized_jobs
    jobs_of_lem h s few =
        rw (le-leb jobs.count most_jobs h, all_of_lem (SizedJob H) (sized_job H) job_of (jobs_of jobs) s, le-leb (total (jobs_of jobs)) most_points few)

    pub jobs_sized : sized_jobs H jobs ≡ true → Sized jobs
    jobs_sized h = record { count = (jobs_to h).0; points = (jobs_to h).2 }

    jobs_each : sized_jobs H jobs ≡ true → all_of (sized_job H) (jobs_of jobs) ≡ true
    jobs_each h = all_of_lem (SizedJob H) (sized_job H) job_of (jobs_of jobs) (jobs_to h).1

-- ---- lines

module _ (n : ℕ) where
  use_to : (u : Use) → sized_use n u ≡ true → SizedUse n u
  use_to u h =
      let p = both_true (leb 1 u.point && leb u.point n && leb u.offset 1000000 && leb 1 u.length) (leb u.length 1000000) h in
      let q = both_true (leb 1 u.point && leb u.point n && leb u.offset 1000000) (leb 1 u.length) p.0 in
      let r = both_true (leb 1 u.point && leb u.point n) (leb u.offset 1000000) q.0 in
      let s = both_true (leb 1 u.point) (leb u.point n) r.0 in
      record {
        not_origin = leb-true 1 u.point s.0;
        live = leb-true u.point n s.1;
        offset = leb-true u.offset 1000000 r.1;
        some = leb-true 1 u.length q.1;
        length = leb-true u.length 1000000 p.1;
      }

  use_of : (u : Use) → SizedUse n u → sized_use n u ≡ true
  use_of u s =
      rw (
        le-leb 1 u.point s.not_origin,
        le-leb u.point n s.live,
        le-leb u.offset 1000000 s.offset,
        le-leb 1 u.length s.some,
        le-leb u.length 1000000 s.length,
      )

  abbrev SizedLine : Line → Type 0
  SizedLine l = (l.count ≤ most_uses) × All (SizedUse n) (line_of l)

  line_to : (l : Line) → sized_line n l ≡ true → SizedLine l
  unfolding sized_line
  line_to l h =
      let p = both_true (leb l.count most_uses) (all_of (sized_use n) (line_of l)) h in
      (leb-true l.count most_uses p.0, all_to (SizedUse n) (sized_use n) use_to (line_of l) p.1)

  line_of_lem : (l : Line) → SizedLine l → sized_line n l ≡ true
  unfolding sized_line
  line_of_lem l s = rw (le-leb l.count most_uses s.0, all_of_lem (SizedUse n) (sized_use n) use_of (line_of l) s.1)

-- ---- sent jobs come first

none_to : (js : List Job) → sent_from false js ≡ true → NoneSent js
unfolding sent_from
none_to [] h = tt
none_to (j ∷ js) h = let p = both_true (not j.sent) (sent_from false js) h in (not-true j.sent p.0, none_to js p.1)

none_of : (js : List Job) → NoneSent js → sent_from false js ≡ true
unfolding sent_from
none_of [] p = refl
none_of (j ∷ js) p = rw p.0 (none_of js p.1)

none_first : (js : List Job) → NoneSent js → SentFirst js
none_first [] p = tt
none_first (j ∷ js) p = (λ unsent. p.1, none_first js p.1)

first_to : (js : List Job) → sent_from true js ≡ true → SentFirst js
unfolding sent_from
first_to [] h = tt
first_to (j ∷ js) h = go (first_to js) j.sent refl
  where
    go : (sent_from true js ≡ true → SentFirst js) → (s : Bool) → j.sent ≡ s → (j.sent ≡ false → NoneSent js) × SentFirst js
    go rest true e = (λ unsent. absurd (false≢true (sym unsent ∙ e)), rest (rw e at h))
    go rest false e = let none : NoneSent js = none_to js (rw e at h) in (λ unsent. none, none_first js none)

first_of : (js : List Job) → SentFirst js → sent_from true js ≡ true
unfolding sent_from
first_of [] p = refl
first_of (j ∷ js) p = go (first_of js p.1) j.sent refl
  where
    go : sent_from true js ≡ true → (s : Bool) → j.sent ≡ s → sent_from j.sent js ≡ true
    go rest true e = rw e rest
    go rest false e = rw e (none_of js (p.0 e))

-- ---- the points of sent jobs stand still

module _ (l : List ℕ) where
  abbrev AllStill : ℕ → ℕ → Type 0
  AllStill x m = (i : ℕ) → x ≤ i → i < x + m → Still (table_of l) i

  stand_to : (x m : ℕ) → stand_still l x m ≡ true → AllStill x m
  unfolding stand_still
  stand_to x m h i from to =
      let same : x + (i - x) ≡ i = omega arith in
      let at = all_below_to (λ k. eqb (cell l 0 (x + k) + cell l (x + k) 0) (bias + bias)) m h (i - x) (omega arith) in
      sum_still (table_of l) i (eqb-true (cell l 0 i + cell l i 0) (bias + bias) (rw same at at))

  still_to : (x : ℕ) (js : List Job) → still_sent l x js ≡ true → StillSent l x js
  unfolding still_sent
  still_to x [] h = tt
  still_to x (j ∷ js) h =
      let p = both_true (still_job l x j) (still_sent l (x + j.points) js) h in
      (λ sent. stand_to x j.points (rw sent at p.0), still_to (x + j.points) js p.1)

  -- of a closed table, in which no time is cut off at 0
  module _ (n : ℕ) (cl : Closed n (table_of l)) where
    stand_of : (x m : ℕ) → x + m ≤ n → AllStill x m → stand_still l x m ≡ true
    unfolding stand_still
    stand_of x m live s =
        all_below_of _ m (λ k lt. eq-eqb _ _ (still_sum n (table_of l) cl (x + k) (omega arith) (s (x + k) (omega arith) (omega arith))))

    still_of : (x : ℕ) (js : List Job) → x + total js ≤ n → StillSent l x js → still_sent l x js ≡ true
    unfolding still_sent total
    still_of x [] live p = refl
    still_of x (j ∷ js) live p = rw (go j.sent refl) (still_of (x + j.points) js (omega arith) p.1)
      where
        go : (s : Bool) → j.sent ≡ s → still_job l x j ≡ true
        go true e = rw e (stand_of x j.points (omega arith) (p.0 e))
        go false e = rw e

-- ---- the board

all_clauses :
    {m a b c d e f : Bool} → m ≡ true → a ≡ true → b ≡ true → c ≡ true → d ≡ true → e ≡ true → f ≡ true
    → (m && (a && (b && (c && (d && (e && f)))))) ≡ true
all_clauses o p q r s t u = rw (o, p, q, r, s, t, u)

module _ (b : Board) where
  -- the marks, and all other clauses
  sound_parts : sound b ≡ true → (b.marked ≡ true) × (clauses_kept b ≡ true)
  unfolding sound
  sound_parts h = both_true b.marked (clauses_kept b) h

  sound_jobs : clauses_kept b ≡ true → sized_jobs b.settings.horizon b.jobs ≡ true
  unfolding clauses_kept
  sound_jobs h =
      let n = points_of b in
      let js = jobs_of b.jobs in
      let rest = all_of (sized_line n) b.lines && (sent_from true js && (is_gap_table b.gaps (suc n) b.settings.horizon && still_sent b.gaps 1 js)) in
      let p = both_true (sized_numbers b.settings b.clock) (sized_jobs b.settings.horizon b.jobs && rest) h in
      (both_true (sized_jobs b.settings.horizon b.jobs) rest p.1).0

  pub sound_sized : sound b ≡ true → Sized b.jobs
  sound_sized h = jobs_sized b.settings.horizon b.jobs (sound_jobs (sound_parts h).1)

  pub sound_each : sound b ≡ true → all_of (sized_job b.settings.horizon) (jobs_of b.jobs) ≡ true
  sound_each h = jobs_each b.settings.horizon b.jobs (sound_jobs (sound_parts h).1)

  pub sound_few : sound b ≡ true → All FewPoints (jobs_of b.jobs)
  sound_few h = few_points_lem b.settings.horizon (jobs_of b.jobs) (sound_each h)

  -- the line of each resource, from the test of the list of lines
  lines_to : length b.lines ≡ resources → all_of (sized_line (points_of b)) b.lines ≡ true
      → (k : ℕ) → k < resources → SizedLine (points_of b) (get_or b.lines k no_line)
  lines_to size h k lt =
      all_at (SizedLine (points_of b)) b.lines no_line
      (all_to (SizedLine (points_of b)) (sized_line (points_of b)) (line_to (points_of b)) b.lines h) k (omega arith)

  pub sound_to : length b.lines ≡ resources → sound b ≡ true → Sound b
  unfolding clauses_kept
  sound_to size h =
      let n = points_of b in
      let js = jobs_of b.jobs in
      let numbers = sized_numbers b.settings b.clock in
      let lined = all_of (sized_line n) b.lines in
      let table = is_gap_table b.gaps (suc n) b.settings.horizon in
      let still = still_sent b.gaps 1 js in
      let p = both_true numbers (sized_jobs b.settings.horizon b.jobs && (lined && (sent_from true js && (table && still)))) (sound_parts h).1 in
      let q = both_true (sized_jobs b.settings.horizon b.jobs) (lined && (sent_from true js && (table && still))) p.1 in
      let r = both_true lined (sent_from true js && (table && still)) q.1 in
      let s = both_true (sent_from true js) (table && still) r.1 in
      let t = both_true table still s.1 in
      let ranges = numbers_to b.settings b.clock p.0 in
      let jobs = jobs_to b.settings.horizon b.jobs q.0 in
      record {
        marked = (sound_parts h).0;
        horizon = ranges.0;
        lead = ranges.1;
        clock = ranges.2;
        jobs = jobs.0;
        sizes = jobs.1;
        points = jobs.2;
        lines = λ k lt. (lines_to size r.0 k lt).0;
        uses = λ k lt. (lines_to size r.0 k lt).1;
        sent_first = first_to js s.0;
        sent_still = still_to b.gaps 1 js t.1;
        table = gap_table_to b.gaps (suc n) b.settings.horizon (omega (arith, jobs.2)) t.0;
      }

  pub sound_of : length b.lines ≡ resources → Sound b → sound b ≡ true
  unfolding sound clauses_kept
  sound_of size s =
      let n = points_of b in
      let js = jobs_of b.jobs in
      let numbers : sized_numbers b.settings b.clock ≡ true =
      numbers_of b.settings b.clock s.horizon s.lead s.clock in
      let lined : all_of (sized_line n) b.lines ≡ true =
      all_of_lem (SizedLine n) (sized_line n) (line_of_lem n) b.lines
      (all_from (SizedLine n) b.lines no_line (λ k lt. (s.lines k (omega arith), s.uses k (omega arith)))) in
      let table : is_gap_table b.gaps (suc n) b.settings.horizon ≡ true =
      gap_table_of b.gaps (suc n) b.settings.horizon (omega (arith, s.points)) (omega arith) s.horizon.1 s.table in
      let closed = (cells_of b.gaps (suc n) b.settings.horizon (omega arith) s.horizon.1 s.table).closed in
      all_clauses s.marked numbers (jobs_of_lem b.settings.horizon b.jobs s.jobs s.sizes s.points) lined (first_of js s.sent_first) table
      (still_of b.gaps (suc n) closed 1 js (omega arith) s.sent_still)

  -- the one premise: an array of 16 lines has 16 lines
  pub sound_is : length b.lines ≡ resources → (sound b ≡ true) ↔ Sound b
  sound_is size = (sound_to size, sound_of size)
