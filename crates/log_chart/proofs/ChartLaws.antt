-- Laws of the chart's loops, each as the loop needs it: the whole run equals the rest of the run from here.
--   job_here, job_on, job_end      the search for a point's job: k more points on from the job at `place`
--   mark_next, mark_end              the mark of a column, use by use
--   first_next, last_next            the least and the largest time, point by point
--   end_next, end_done, lines_next, lines_done   the last end, use by use and line by line
--   first_found, width_small         the width that is found, and that it is one
--   scale_is                         a scale, from the answers of the functions below
--   job_some                         each job has a point
--   on_table                         the lines of the words of a sound board name points of the table
use Prim.Native.Nat.{ℕ, ◌+◌, ◌-◌, ◌≤◌, ◌<◌, min, max}
use mathlib.Core.Path.{◌≡◌, refl, sym, ◌∙◌, ap, subst}
use mathlib.Core.Bool.{Bool, true, false, cond}
use mathlib.Core.List.{List, [], ◌∷◌}
use native.Mathlib.Omega.{arith}
use native.Mathlib.Numerals.{add-one}
use lib.ListN.{length, get_or, drop, drop_of_length-le}
use lib.Seq.{drop-cons, get_or-take}
use borrow.Author.Tests.{le-leb, lt-leb}
use Rattle.std.specs.List.{find}
use Rattle.std.specs.Option.{unwrap_or}
use Rattle.std.proofs.Common.{rules}
use Rattle.spec_plain.specs.Limits.{most_jobs, most_points, resources, most_uses}
use Rattle.spec_plain.specs.declared.Job.{Job}
use Rattle.spec_plain.specs.declared.Use.{Use}
use Rattle.spec_plain.specs.Plain.{no_use}
use Rattle.part_lines.specs.declared.Line.{Line}
use Rattle.part_lines.specs.ArrayLists.{jobs_of, line_of, no_job, no_line}
use Rattle.base_lists.specs.All.{All}
use Rattle.base_lists.proofs.All.{all_at, all_get, all_map}
use Rattle.spec_stn.specs.Table.{Table, earliest}
use Rattle.base_lists.proofs.Build.{build_at}
use Rattle.part_boardwords.specs.Layout.{count_at, line_start}
use Rattle.part_boardwords.specs.Words.{Words, job_at, held_jobs, use_at, uses_read, line_at, board_read}
use Rattle.part_boardwords.proofs.Boards.{held_jobs_lem, held_job}
use Rattle.part_sound.specs.Sound.{Sound, SizedJob, SizedUse, points_of}
use Rattle.log_chart.specs.Chart.{AllOnTable, begin_of, covers, end_time, first_fit, first_time, fits, glyph_of, job_of}
use Rattle.log_chart.specs.Chart.{last_end, last_time, left_of, lines_end, glyph_over, right_of, scale_of, scaled, width_of, widths}

-- ---- whose a point is

module _ (js : List Job) (x place k : ℕ) (left : job_of js x ≡ place + job_of (drop place js) k) where
  pub job_here : (j : Job) (rest : List Job) → drop place js ≡ j ∷ rest → k ≤ j.points → place ≡ job_of js x
  unfolding job_of
  job_here j rest next h =
      let here : place + job_of (j ∷ rest) k ≡ place = rw (le-leb k j.points h) (omega arith) in
      sym (left ∙ ap (λ (r : List Job). place + job_of r k) next ∙ here)

  pub job_on :
      (j : Job) → drop place js ≡ j ∷ drop (place + 1) js → j.points < k
      → job_of js x ≡ place + 1 + job_of (drop (place + 1) js) (k - j.points)
  unfolding job_of
  job_on j next h =
      let on : place + job_of (j ∷ drop (place + 1) js) k ≡ place + 1 + job_of (drop (place + 1) js) (k - j.points) =
      rw (lt-leb k j.points h) (omega arith) in
      left ∙ ap (λ (r : List Job). place + job_of r k) next ∙ on

  pub job_end : drop place js ≡ [] → place ≡ job_of js x
  unfolding job_of
  job_end over = sym (left ∙ ap (λ (r : List Job). place + job_of r k) over ∙ omega arith)

-- ---- the mark of a column

module _ (c : Table) (js : List Job) (us : List Use) (p q z k m : ℕ) (run : glyph_over c js (drop k us) p q m ≡ glyph_over c js us p q z) where
  pub mark_next :
      (u : Use) (mark : ℕ) → drop k us ≡ u ∷ drop (k + 1) us → mark ≡ cond (covers c p q u) (glyph_of (job_of js u.point)) m
      → glyph_over c js (drop (k + 1) us) p q mark ≡ glyph_over c js us p q z
  unfolding glyph_over
  mark_next u mark next e =
      ap (glyph_over c js (drop (k + 1) us) p q) e ∙ sym (ap (λ (r : List Use). glyph_over c js r p q m) next) ∙ run

  pub mark_end : drop k us ≡ [] → m ≡ glyph_over c js us p q z
  unfolding glyph_over
  mark_end over = sym (ap (λ (r : List Use). glyph_over c js r p q m) over) ∙ run

-- ---- the span

module _ (c : Table) (t k m e : ℕ) (next : e ≡ earliest c (k + 1)) where
  pub first_next : m ≡ first_time c k t → min m e ≡ first_time c (k + 1) t
  unfolding first_time
  first_next run = (λ i. min (run i) ((next ∙ ap (earliest c) (add-one k)) i)) ∙ ap (λ (n : ℕ). first_time c n t) (sym (add-one k))

  pub last_next : m ≡ last_time c k t → max m e ≡ last_time c (k + 1) t
  unfolding last_time
  last_next run = (λ i. max (run i) ((next ∙ ap (earliest c) (add-one k)) i)) ∙ ap (λ (n : ℕ). last_time c n t) (sym (add-one k))

module _ (c : Table) (us : List Use) (t k m : ℕ) (run : last_end c (drop k us) m ≡ last_end c us t) where
  pub end_next : (u : Use) (e : ℕ) → drop k us ≡ u ∷ drop (k + 1) us → e ≡ max m (end_time c u) → last_end c (drop (k + 1) us) e ≡ last_end c us t
  unfolding last_end
  end_next u e next h = ap (last_end c (drop (k + 1) us)) h ∙ sym (ap (λ (r : List Use). last_end c r m) next) ∙ run

  pub end_done : drop k us ≡ [] → m ≡ last_end c us t
  unfolding last_end
  end_done over = sym (ap (λ (r : List Use). last_end c r m) over) ∙ run

module _ (c : Table) (ls : List Line) (t k m : ℕ) (run : lines_end c (drop k ls) m ≡ lines_end c ls t) where
  pub lines_next :
      (e : ℕ) → k < length ls → e ≡ last_end c (line_of (get_or ls k no_line)) m → lines_end c (drop (k + 1) ls) e ≡ lines_end c ls t
  unfolding lines_end
  lines_next e lt h =
      ap (lines_end c (drop (k + 1) ls)) h
      ∙ ap (λ (i : ℕ). lines_end c (drop i ls) (last_end c (line_of (get_or ls k no_line)) m)) (add-one k)
      ∙ sym (ap (λ (r : List Line). lines_end c r m) (drop-cons ls k no_line lt))
      ∙ run

  pub lines_done : length ls ≤ k → m ≡ lines_end c ls t
  unfolding lines_end
  lines_done h = sym (ap (λ (r : List Line). lines_end c r m) (drop_of_length-le ls h)) ∙ run

-- ---- the width

abbrev pub IsWidth : ℕ → Type 0
IsWidth w = (1 ≤ w) × (w ≤ 2000000)

module _ (l r : ℕ) where
  pub first_found : (ws : List ℕ) → unwrap_or (find (λ w. fits l r w) ws) 2000000 ≡ first_fit l r ws
  unfolding first_fit
  first_found [] = refl
  first_found (w ∷ ws) = go (fits l r w) refl (first_found ws)
    where
      go : (t : Bool) → fits l r w ≡ t → unwrap_or (find (λ w. fits l r w) ws) 2000000 ≡ first_fit l r ws
          → unwrap_or (find (λ w. fits l r w) (w ∷ ws)) 2000000 ≡ first_fit l r (w ∷ ws)
      go true e rest = rw e
      go false e rest = rw e rest

  first_within : (ws : List ℕ) → All IsWidth ws → IsWidth (first_fit l r ws)
  unfolding first_fit
  first_within [] all = (omega arith, omega arith)
  first_within (w ∷ ws) all = go (fits l r w) refl (first_within ws all.1)
    where
      go : (t : Bool) → fits l r w ≡ t → IsWidth (first_fit l r ws) → IsWidth (first_fit l r (w ∷ ws))
      go true e rest = rw e all.0
      go false e rest = rw e rest

  pub width_small : IsWidth (width_of l r)
  width_small = first_within widths (search (rules, arith))

pub scale_is :
    (c : Table) (n : ℕ) (ls : List Line) (clock now left last right w b : ℕ)
    → now ≡ clock → left ≡ first_time c n now → last ≡ last_time c n now → right ≡ lines_end c ls last → w ≡ width_of left right
    → b ≡ begin_of left w → record { begin = b; end = right; column = w } ≡ scale_of c n ls clock
unfolding scale_of
scale_is c n ls clock now left last right w b time first_is last_is end_is width_is begin-is =
    let left_is : left ≡ left_of c n clock = first_is ∙ ap (first_time c n) time in
    let right_is : right ≡ right_of c n ls clock = end_is ∙ ap (lines_end c ls) (last_is ∙ ap (last_time c n) time) in
    let column_is : w ≡ width_of (left_of c n clock) (right_of c n ls clock) = width_is ∙ (λ i. width_of (left_is i) (right_is i)) in
    (λ i. record { begin = begin-is i; end = right; column = w }) ∙ (λ i. scaled (left_is i) (right_is i) (column_is i))

-- ---- a sound board

pub job_some :
    (w : Words) (H : ℕ) → w count_at ≤ most_jobs → All (SizedJob H) (jobs_of (held_jobs w)) → (k : ℕ) (j : Job) → k < w count_at → j ≡ job_at w k → 1 ≤ j.points
job_some w H few all k j lt e =
    let sized = all_at (SizedJob H) (jobs_of (held_jobs w)) no_job all k (omega (arith, held_jobs_lem w few)) in
    let least : 2 ≤ (job_at w k).points = rw (held_job w few k lt) at sized.least in
    omega (arith, least, ap (λ (i : Job). i.points) e)

pub on_table : (w : Words) → Sound (board_read w) → AllOnTable w
on_table w s k lt =
    let line = build_at (line_at w) resources k no_line lt in
    let few : w (line_start k) ≤ most_uses = omega (arith, s.lines k lt, ap (λ (l : Line). l.count) line) in
    let live : All (SizedUse (points_of (board_read w))) (line_of (line_at w k)) =
    subst (λ (l : Line). All (SizedUse (points_of (board_read w))) (line_of l)) line (s.uses k lt) in
    let small =
    all_map (SizedUse (points_of (board_read w))) (λ u. u.point ≤ most_points) (λ u z. omega (arith, z.live, s.points)) (line_of (line_at w k)) live in
    record {
      count = few;
      points = λ i h.
          rw (get_or-take (w (line_start k)) (uses_read w (line_start k)) i no_use h, build_at (use_at w (line_start k)) most_uses i no_use (omega arith)) at
          (all_get (λ u. u.point ≤ most_points) (line_of (line_at w k)) i no_use small (omega arith));
    }
