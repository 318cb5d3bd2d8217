-- Laws of the list of jobs when it is changed where it lies.
--   add_front       a job written behind the others, and the count stored
--   sent_none, sent_more, sent_front   the first k jobs marked, and the places behind the jobs cleared
--   left_front      the jobs behind the oldest moved down by one place, and the count stored
use Prim.Native.Nat.{ℕ, zero, suc, ◌+◌, ◌<◌, ◌≤◌}
use mathlib.Core.Path.{◌≡◌, refl, sym, ◌∙◌, ap}
use mathlib.Core.Bool.{true}
use mathlib.Core.List.{List, [], ◌∷◌, ◌++◌}
use lib.ListN.{length, get_or, set, drop, length-set, length-drop, length-append, get_or-append}
use lib.Seq.{get_or-drop, get_or-set_same, get_or-set_other}
use native.Mathlib.Decide.{ℕ_discrete, dec_lt}
use native.Mathlib.Numerals.{add-one}
use native.Mathlib.Omega.{arith}
use Rattle.spec_plain.specs.Limits.{most_jobs}
use Rattle.spec_plain.specs.declared.Job.{Job}
use Rattle.spec_plain.specs.Plain.{sent_job, sent_up_to}
use Rattle.part_lines.specs.ArrayLists.{no_job, jobs_of, jobs_from}
use Rattle.part_lines.proofs.JobLaws.{length_marked}
use Rattle.base_lists.specs.Loops.{rewritten}
use Rattle.base_lists.proofs.Build.{past}
use Rattle.base_lists.proofs.Rewritten.{rewritten_length, rewritten_in, rewritten_below, rewritten_from}
use Rattle.part_boardwords.specs.Layout.{clock_at, count_at, head_size, sent_in, job_size, jobs_at, lines_at, job_start, mark_at}
use Rattle.part_boardwords.specs.Words.{word_in, down_by_job, job_at, held_jobs, all_marked}
use Rattle.part_boardwords.specs.Codec.{job_words, overwritten}
use Rattle.part_boardwords.proofs.Overwritten.{overwritten_length, overwritten_below, overwritten_from}
use Rattle.part_boardwords.proofs.Parts.{mark_small, job_by, job_same, job_written, job_sent}
use Rattle.part_boardwords.proofs.Boards.{held_jobs_lem}
use Rattle.part_boardwords.proofs.Written.{overwritten_at}
use Rattle.part_jobwords.specs.Fronted.{fronted}
use Rattle.part_jobwords.specs.Listed.{Listed}
use Rattle.part_jobwords.proofs.Fronts.{listed_front, listed_own}

-- ---- one more job

-- the words v are y with the job j behind the n jobs js, and then the count was stored
module _ (w y v : List ℕ) (c n : ℕ) (js : List Job) (j : Job) (room : lines_at ≤ length w) (many : n ≡ length js) (less : n < 16)
    (t : Listed w y c js) (is : v ≡ overwritten y (job_start n) (job_words j)) where
  abbrev grown : List ℕ
  grown = set v count_at (n + 1)

  total : length (js ++ (j ∷ [])) ≡ n + 1
  total = omega (arith, length-append js (j ∷ []))

  size_is : length v ≡ length w
  size_is = ap length is ∙ overwritten_length y (job_start n) (job_words j) ∙ t.size

  stays : (k : ℕ) → k < job_start n → (k ≡ count_at → ⊥) → word_in grown k ≡ word_in y k
  stays k h e =
      get_or-set_other v count_at k (n + 1) 0 e ∙ ap (λ (l : List ℕ). get_or l k 0) is ∙ overwritten_below y (job_start n) (job_words j) k h

  word_at : (k i : ℕ) → k ≡ job_start n + i → i < job_size → word_in grown k ≡ get_or (job_words j) i 0
  word_at k i e h =
      get_or-set_other v count_at k (n + 1) 0 (λ q. omega arith)
      ∙ ap (λ (l : List ℕ). get_or l k 0) is
      ∙ overwritten_at y (job_start n) (job_words j) k i e h (omega (arith, t.size))

  new_job_lem : job_at (word_in grown) n ≡ j
  new_job_lem =
      job_written (word_in grown) (job_start n) j (λ i h. word_at (job_start n + i) i refl h)

  job_there : (m : ℕ) → m < n + 1 → Dec (m < n) → job_at (word_in grown) m ≡ get_or (js ++ (j ∷ [])) m no_job
  job_there m h (yes lt) =
      job_same (word_in grown) (word_in y) m (λ k lo hi. stays k (omega arith) (λ e. omega arith))
      ∙ t.jobs m (omega arith)
      ∙ sym (get_or-append js (j ∷ []) no_job m (omega arith))
  job_there m h (no ge) =
      let e : m ≡ n = omega arith in
      ap (job_at (word_in grown)) e ∙ new_job_lem ∙ sym (past js (j ∷ []) m 0 no_job (omega arith))

  mark_there : (m : ℕ) → m < n + 1 → Dec (m < n) → word_in grown (mark_at m) ≤ 1
  mark_there m h (yes lt) = omega (arith, stays (mark_at m) (omega arith) (λ e. omega arith), t.marks m (omega arith))
  mark_there m h (no ge) = omega (arith, word_at (mark_at m) sent_in (omega arith) (omega arith), mark_small j.sent)

  add_listed : Listed w grown c (js ++ (j ∷ []))
  add_listed =
      record {
        size = length-set v count_at (n + 1) ∙ size_is;
        head = λ k h nc nn. stays k (omega arith) nn ∙ t.head k h nc nn;
        clock = stays clock_at (omega arith) (λ e. omega arith) ∙ t.clock;
        count = get_or-set_same v count_at (n + 1) 0 (omega (arith, size_is)) ∙ sym total;
        few = omega (arith, total);
        jobs = λ m h. job_there m (omega (arith, total)) (dec_lt m n);
        marks = λ m h. mark_there m (omega (arith, total)) (dec_lt m n);
        behind = λ k h.
            get_or-set_other v count_at k (n + 1) 0 (λ e. omega arith)
            ∙ ap (λ (l : List ℕ). get_or l k 0) is
            ∙ overwritten_from y (job_start n) (job_words j) k (omega arith)
            ∙ t.behind k h;
      }

pub add_front :
    (w v x : List ℕ) (j : Job) → lines_at ≤ length w → word_in w count_at < most_jobs → all_marked (word_in w) ≡ true
    → v ≡ overwritten w (job_start (word_in w count_at)) (job_words j)
    → x ≡ rewritten (λ k. 0) (set v count_at (word_in w count_at + 1)) (job_start (word_in w count_at + 1)) lines_at
    → x ≡ fronted w (word_in w clock_at) (jobs_from (jobs_of (held_jobs (word_in w)) ++ (j ∷ [])))
add_front w v x j room less marks ev is =
    let n : ℕ = word_in w count_at in
    let js : List Job = jobs_of (held_jobs (word_in w)) in
    let many : n ≡ length js = sym (held_jobs_lem (word_in w) (omega arith)) in
    let own : Listed w w (word_in w clock_at) js = listed_own w (omega arith) marks in
    listed_front w (set v count_at (n + 1)) x (word_in w clock_at) (n + 1) (js ++ (j ∷ [])) room
    (sym (total w w v (word_in w clock_at) n js j room many less own ev))
    (add_listed w w v (word_in w clock_at) n js j room many less own ev) is

-- ---- jobs sent

pub sent_none :
    (w : List ℕ) → word_in w count_at ≤ most_jobs → all_marked (word_in w) ≡ true → Listed w w (word_in w clock_at) (sent_up_to 0 (jobs_of (held_jobs (word_in w))))
unfolding sent_up_to
sent_none w few marks = listed_own w few marks

-- one job more is sent
marked_next :
    (js : List Job) (k : ℕ) → k < length js → sent_up_to (suc k) js ≡ set (sent_up_to k js) k (sent_job (get_or (sent_up_to k js) k no_job))
unfolding sent_up_to
marked_next [] k h = absurd (omega arith)
marked_next (j ∷ js) zero h = refl
marked_next (j ∷ js) (suc k) h = ap (◌∷◌ (sent_job j)) (marked_next js k (omega arith))

module _ (w y : List ℕ) (c k : ℕ) (js : List Job) (room : lines_at ≤ length w) (lt : k < length js) (t : Listed w y c (sent_up_to k js)) where
  abbrev sent : List ℕ
  sent = set y (mark_at k) 1

  other : (i : ℕ) → (i ≡ mark_at k → ⊥) → word_in sent i ≡ word_in y i
  other i e = get_or-set_other y (mark_at k) i 1 0 e

  now_one : (i : ℕ) → i ≡ mark_at k → word_in sent i ≡ 1
  now_one i e =
      ap (word_in sent) e ∙ get_or-set_same y (mark_at k) 1 0 (omega (arith, t.size, t.few, length_marked k js))

  job_now : job_at (word_in sent) k ≡ sent_job (job_at (word_in y) k)
  job_now =
      job_sent (word_in sent) (word_in y) (job_start k) (now_one (mark_at k) refl) (λ i h ne. other (job_start k + i) (λ e. ne (omega arith)))

  -- the jobs with job k sent too
  abbrev further : List Job
  further = set (sent_up_to k js) k (sent_job (get_or (sent_up_to k js) k no_job))

  further_is : sent_up_to (k + 1) js ≡ further
  further_is = ap (λ (i : ℕ). sent_up_to i js) (add-one k) ∙ marked_next js k lt

  job_then : (m : ℕ) → m < length js → Dec (m ≡ k) → job_at (word_in sent) m ≡ get_or further m no_job
  job_then m h (yes e) =
      ap (job_at (word_in sent)) e
      ∙ job_now
      ∙ ap sent_job (t.jobs k (omega (arith, length_marked k js)))
      ∙ sym
      (ap (λ (i : ℕ). get_or further i no_job) e
      ∙ get_or-set_same (sent_up_to k js) k (sent_job (get_or (sent_up_to k js) k no_job)) no_job (omega (arith, length_marked k js)))
  job_then m h (no ne) =
      job_same (word_in sent) (word_in y) m (λ i lo hi. other i (λ e. ne (omega arith)))
      ∙ t.jobs m (omega (arith, length_marked k js))
      ∙ sym (get_or-set_other (sent_up_to k js) k m (sent_job (get_or (sent_up_to k js) k no_job)) no_job ne)

  mark_then : (m : ℕ) → m < length js → Dec (m ≡ k) → word_in sent (mark_at m) ≤ 1
  mark_then m h (yes e) = omega (arith, now_one (mark_at m) (omega arith))
  mark_then m h (no ne) = omega (arith, other (mark_at m) (λ e. ne (omega arith)), t.marks m (omega (arith, length_marked k js)))

  pub sent_more : Listed w sent c (sent_up_to (k + 1) js)
  sent_more =
      let before : length (sent_up_to k js) ≡ length js = length_marked k js in
      let after : length (sent_up_to (k + 1) js) ≡ length js = length_marked (k + 1) js in
      record {
        size = length-set y (mark_at k) 1 ∙ t.size;
        head = λ i h nc nn. other i (λ e. omega arith) ∙ t.head i h nc nn;
        clock = other clock_at (λ e. omega arith) ∙ t.clock;
        count = other count_at (λ e. omega arith) ∙ t.count ∙ before ∙ sym after;
        few = omega (arith, t.few, before, after);
        jobs = λ m h. job_then m (omega (arith, after)) (ℕ_discrete m k) ∙ ap (λ (l : List Job). get_or l m no_job) (sym further_is);
        marks = λ m h. mark_then m (omega (arith, after)) (ℕ_discrete m k);
        behind = λ i h. other i (λ e. omega (arith, t.few, before)) ∙ t.behind i h;
      }

pub sent_front :
    (w y x : List ℕ) (n : ℕ) → lines_at ≤ length w → word_in w count_at ≤ most_jobs → Listed w y (word_in w clock_at) (sent_up_to n (jobs_of (held_jobs (word_in w))))
    → x ≡ rewritten (λ k. 0) y (job_start (word_in w count_at)) lines_at → x ≡ fronted w (word_in w clock_at) (jobs_from (sent_up_to n (jobs_of (held_jobs (word_in w)))))
sent_front w y x n room few t is =
    let js : List Job = jobs_of (held_jobs (word_in w)) in
    listed_front w y x (word_in w clock_at) (word_in w count_at) (sent_up_to n js) room (sym (length_marked n js ∙ held_jobs_lem (word_in w) few)) t is

-- ---- the oldest gone

-- the words v are y with the n jobs behind the oldest moved down by one place, and then the count was stored
module _ (w y v : List ℕ) (c n : ℕ) (js : List Job) (room : lines_at + job_size ≤ length w) (many : n + 1 ≡ length js) (t : Listed w y c js)
    (is : v ≡ rewritten (down_by_job y) y jobs_at (job_start n)) where
  abbrev shorter : List ℕ
  shorter = set v count_at n

  rest_size : n ≡ length (drop 1 js)
  rest_size = omega (arith, length-drop 1 js)

  moved : (k i : ℕ) → jobs_at ≤ k → k < job_start n → i ≡ k + job_size → word_in shorter k ≡ word_in y i
  moved k i lo hi e =
      get_or-set_other v count_at k n 0 (λ q. omega arith)
      ∙ ap (λ (l : List ℕ). get_or l k 0) is
      ∙ rewritten_in (down_by_job y) y jobs_at (job_start n) k lo hi (omega (arith, t.size, t.few))
      ∙ ap (word_in y) (sym e)

  first : (k : ℕ) → k < head_size → (k ≡ count_at → ⊥) → word_in shorter k ≡ word_in y k
  first k h nn =
      get_or-set_other v count_at k n 0 nn
      ∙ ap (λ (l : List ℕ). get_or l k 0) is
      ∙ rewritten_below (down_by_job y) y jobs_at (job_start n) k (omega arith)

  next_job : (m : ℕ) → m < n → job_at (word_in shorter) m ≡ job_at (word_in y) (1 + m)
  next_job m h =
      job_by (word_in shorter) (word_in y) (job_start m) (job_start (1 + m))
      (λ i l. moved (job_start m + i) (job_start (1 + m) + i) (omega arith) (omega arith) (omega arith))

  left_listed : Listed w shorter c (drop 1 js)
  left_listed =
      let size : length v ≡ length w = ap length is ∙ rewritten_length (down_by_job y) y jobs_at (job_start n) ∙ t.size in
      record {
        size = length-set v count_at n ∙ size;
        head = λ k h nc nn. first k h nn ∙ t.head k h nc nn;
        clock = first clock_at (omega arith) (λ e. omega arith) ∙ t.clock;
        count = get_or-set_same v count_at n 0 (omega (arith, size)) ∙ rest_size;
        few = omega (arith, t.few, rest_size);
        jobs = λ m h. next_job m (omega (arith, rest_size)) ∙ t.jobs (1 + m) (omega (arith, rest_size)) ∙ sym (get_or-drop 1 js m no_job);
        marks = λ m h.
            omega (
              arith,
              moved (mark_at m) (mark_at (1 + m)) (omega arith) (omega (arith, rest_size)) (omega arith),
              t.marks (1 + m) (omega (arith, rest_size)),
            );
        behind = λ k h.
            get_or-set_other v count_at k n 0 (λ q. omega arith)
            ∙ ap (λ (l : List ℕ). get_or l k 0) is
            ∙ rewritten_from (down_by_job y) y jobs_at (job_start n) k (omega (arith, t.few))
            ∙ t.behind k h;
      }

pub left_front :
    (w v x : List ℕ) (n : ℕ) → lines_at + job_size ≤ length w → n + 1 ≡ word_in w count_at → word_in w count_at ≤ most_jobs → all_marked (word_in w) ≡ true
    → v ≡ rewritten (down_by_job w) w jobs_at (job_start n) → x ≡ rewritten (λ k. 0) (set v count_at n) (job_start n) lines_at
    → x ≡ fronted w (word_in w clock_at) (jobs_from (drop 1 (jobs_of (held_jobs (word_in w)))))
left_front w v x n room one few marks ev is =
    let js : List Job = jobs_of (held_jobs (word_in w)) in
    let many : n + 1 ≡ length js = one ∙ sym (held_jobs_lem (word_in w) few) in
    let own : Listed w w (word_in w clock_at) js = listed_own w few marks in
    listed_front w (set v count_at n) x (word_in w clock_at) n (drop 1 js) (omega arith) (rest_size w w v (word_in w clock_at) n js room many own ev)
    (left_listed w w v (word_in w clock_at) n js room many own ev) is
