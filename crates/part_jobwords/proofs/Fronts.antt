-- Laws of the list of jobs where it lies.
--   listed_front    words that hold the jobs, whose other places were cleared, are those that writing clock and jobs anew gives
--   stored_length   their length is that which came
--   listed_own      words as they came
--   clock_front     another clock stored
use Prim.Native.Nat.{ℕ, ◌+◌, ◌<◌, ◌≤◌}
use mathlib.Core.Path.{◌≡◌, refl, sym, ◌∙◌, ap}
use mathlib.Core.Bool.{true, ◌||◌}
use mathlib.Core.List.{List}
use lib.ListN.{length, get_or, set, length-set, get_or-eq_default}
use lib.Seq.{get_or-set_same, get_or-set_other}
use lib.Dec.{leb}
use borrow.Author.Tests.{lt-leb, leb-true}
use native.Mathlib.Decide.{ℕ_discrete, dec_lt}
use native.Mathlib.Omega.{arith}
use Rattle.spec_plain.specs.Limits.{most_jobs}
use Rattle.spec_plain.specs.declared.Job.{Job}
use Rattle.part_lines.specs.ArrayLists.{no_job, jobs_of, jobs_from}
use Rattle.part_lines.specs.Padded.{padded}
use Rattle.part_lines.proofs.Padded.{length_padded, padded_at}
use Rattle.base_lists.specs.Loops.{build, rewritten}
use Rattle.base_lists.proofs.AllBelow.{all_below_to}
use Rattle.base_lists.proofs.Build.{build_same, build_at, build_back}
use Rattle.base_lists.proofs.Rewritten.{rewritten_length, rewritten_in, rewritten_below, rewritten_from}
use Rattle.part_boardwords.specs.Layout.{clock_at, count_at, head_size, jobs_size, jobs_at, lines_at, job_start, mark_at}
use Rattle.part_boardwords.specs.Words.{Words, word_in, job_at, jobs_read, held_jobs, is_marked, all_marked}
use Rattle.part_boardwords.specs.Codec.{jobs_words}
use Rattle.part_boardwords.proofs.Overwritten.{length_jobs}
use Rattle.part_boardwords.proofs.Inverse.{jobs_read_lem}
use Rattle.part_boardwords.proofs.Parts.{job_same, job_zero}
use Rattle.part_boardwords.proofs.Boards.{held_jobs_lem, held_job}
use Rattle.part_boardwords.proofs.Written.{overwritten_is}
use Rattle.part_jobwords.specs.Fronted.{fronted}
use Rattle.part_jobwords.specs.Listed.{Listed}

-- ---- the front written anew

-- the words x have the clock, the count and the jobs js, and 0 in every place not in use
module _ (w x : List ℕ) (c : ℕ) (js : List Job) (room : lines_at ≤ length w) (t : Listed w x c js)
    (clear : (k : ℕ) → job_start (length js) ≤ k → k < lines_at → word_in x k ≡ 0) where
  job_is : (m : ℕ) → m < 16 → Dec (m < length js) → job_at (word_in x) m ≡ get_or js m no_job
  job_is m h (yes lt) = t.jobs m lt
  job_is m h (no ge) =
      job_zero (word_in x) (job_start m) (λ i l. clear (job_start m + i) (omega arith) (omega arith))
      ∙ sym (get_or-eq_default js no_job {n = m} (omega arith))

  mark_is : (m : ℕ) → m < 16 → Dec (m < length js) → word_in x (mark_at m) ≤ 1
  mark_is m h (yes lt) = t.marks m lt
  mark_is m h (no ge) = omega (arith, clear (mark_at m) (omega arith) (omega arith))

  -- the words of the jobs, in their 16 places
  words_are : jobs_words (padded most_jobs no_job js) ≡ build (λ j. word_in x (jobs_at + j)) jobs_size
  words_are =
      let read : jobs_read (word_in x) ≡ padded most_jobs no_job js =
      build_same (job_at (word_in x)) (λ m. get_or (padded most_jobs no_job js) m no_job) 16
      (λ m h. job_is m h (dec_lt m (length js)) ∙ sym (padded_at most_jobs no_job js m h))
      ∙ build_back (padded most_jobs no_job js) 16 no_job (length_padded most_jobs no_job js) in
      ap jobs_words (sym read) ∙ jobs_read_lem (word_in x) (λ m h. mark_is m h (dec_lt m (length js)))

  -- clock and count stored
  abbrev ticked : List ℕ
  ticked = set w clock_at c

  abbrev headed : List ℕ
  headed = set ticked count_at (length js)

  headed_size : length headed ≡ length w
  headed_size = length-set ticked count_at (length js) ∙ length-set w clock_at c

  headed_other : (k : ℕ) → (k ≡ clock_at → ⊥) → (k ≡ count_at → ⊥) → get_or headed k 0 ≡ get_or w k 0
  headed_other k nc nn = get_or-set_other ticked count_at k (length js) 0 nn ∙ get_or-set_other w clock_at k c 0 nc

  head_is : (k : ℕ) → k < head_size → Dec (k ≡ clock_at) → Dec (k ≡ count_at) → get_or x k 0 ≡ get_or headed k 0
  head_is k h (yes e) d =
      ap (word_in x) e
      ∙ t.clock
      ∙ sym
      (ap (word_in headed) e
      ∙ get_or-set_other ticked count_at clock_at (length js) 0 (λ q. omega arith)
      ∙ get_or-set_same w clock_at c 0 (omega arith))
  head_is k h (no nc) (yes e) =
      ap (word_in x) e
      ∙ t.count
      ∙ sym (ap (word_in headed) e ∙ get_or-set_same ticked count_at (length js) 0 (omega (arith, length-set w clock_at c)))
  head_is k h (no nc) (no nn) = t.head k h nc nn ∙ sym (headed_other k nc nn)

  front_is : x ≡ fronted w c (jobs_from js)
  front_is =
      let jobs : List ℕ = jobs_words (padded most_jobs no_job js) in
      let many : length jobs ≡ jobs_size = length_jobs (padded most_jobs no_job js) in
      overwritten_is headed x jobs_at jobs (t.size ∙ sym headed_size) (omega (arith, many, headed_size))
      (λ i h. sym (ap (λ (l : List ℕ). get_or l i 0) words_are ∙ build_at (λ j. word_in x (jobs_at + j)) jobs_size i 0 (omega (arith, many))))
      (λ k h. head_is k h (ℕ_discrete k clock_at) (ℕ_discrete k count_at))
      (λ k h. t.behind k (omega (arith, many)) ∙ sym (headed_other k (λ e. omega arith) (λ e. omega arith)))

-- the jobs js stood in y, and the other places were cleared
pub listed_front :
    (w y x : List ℕ) (c n : ℕ) (js : List Job) → lines_at ≤ length w → n ≡ length js → Listed w y c js → x ≡ rewritten (λ k. 0) y (job_start n) lines_at
    → x ≡ fronted w c (jobs_from js)
listed_front w y x c n js room many t is =
    front_is w x c js room
    (record {
      size = ap length is ∙ rewritten_length z y end lines_at ∙ t.size;
      head = λ k h nc nn. early k (omega arith) ∙ t.head k h nc nn;
      clock = early clock_at (omega arith) ∙ t.clock;
      count = early count_at (omega arith) ∙ t.count;
      few = t.few;
      jobs = λ m h. job_same (word_in x) (word_in y) m (λ k lo hi. early k (omega arith)) ∙ t.jobs m h;
      marks = λ m h. omega (arith, early (mark_at m) (omega arith), t.marks m h);
      behind = λ k h. ap (λ (l : List ℕ). get_or l k 0) is ∙ rewritten_from z y end lines_at k h ∙ t.behind k h;
    })
    (λ k lo hi. ap (λ (l : List ℕ). get_or l k 0) is ∙ rewritten_in z y end lines_at k (omega arith) hi (omega (arith, t.size)))
  where
    z : ℕ → ℕ
    z k = 0

    end : ℕ
    end = job_start n

    early : (k : ℕ) → k < end → word_in x k ≡ word_in y k
    early k h = ap (λ (l : List ℕ). get_or l k 0) is ∙ rewritten_below z y end lines_at k h

-- a word stored, and words cleared: the length stays
pub stored_length : (v x : List ℕ) (i a p q : ℕ) → x ≡ rewritten (λ k. 0) (set v i a) p q → length x ≡ length v
stored_length v x i a p q is = let z : ℕ → ℕ = λ k. 0 in ap length is ∙ rewritten_length z (set v i a) p q ∙ length-set v i a

-- ---- words as they came

module _ (w : Words) (few : w count_at ≤ most_jobs) where
  held_mark : all_marked w ≡ true → (m : ℕ) → m < w count_at → w (mark_at m) ≤ 1
  unfolding all_marked is_marked
  held_mark marks m h =
      let test : (leb (w count_at) m || leb (w (mark_at m)) 1) ≡ true = all_below_to (λ k. leb (w count_at) k || leb (w (mark_at k)) 1) 16 marks m (omega arith) in
      leb-true (w (mark_at m)) 1 (rw (lt-leb (w count_at) m h) at test)

pub listed_own :
    (w : List ℕ) → word_in w count_at ≤ most_jobs → all_marked (word_in w) ≡ true → Listed w w (word_in w clock_at) (jobs_of (held_jobs (word_in w)))
listed_own w few marks =
    record {
      size = refl;
      head = λ k h nc nn. refl;
      clock = refl;
      count = sym (held_jobs_lem (word_in w) few);
      few = omega (arith, held_jobs_lem (word_in w) few);
      jobs = λ m h. sym (held_job (word_in w) few m (omega (arith, held_jobs_lem (word_in w) few)));
      marks = λ m h. held_mark (word_in w) few marks m (omega (arith, held_jobs_lem (word_in w) few));
      behind = λ k h. refl;
    }

-- ---- another clock

clock_listed :
    (w y : List ℕ) (b c : ℕ) (js : List Job) → lines_at ≤ length w → Listed w y b js → Listed w (set y clock_at c) c js
clock_listed w y b c js room t =
    record {
      size = length-set y clock_at c ∙ t.size;
      head = λ k h nc nn. other k nc ∙ t.head k h nc nn;
      clock = get_or-set_same y clock_at c 0 (omega (arith, t.size));
      count = other count_at (λ e. omega arith) ∙ t.count;
      few = t.few;
      jobs = λ m h. job_same (word_in (set y clock_at c)) (word_in y) m (λ k lo hi. other k (λ e. omega arith)) ∙ t.jobs m h;
      marks = λ m h. omega (arith, other (mark_at m) (λ e. omega arith), t.marks m h);
      behind = λ k h. other k (λ e. omega arith) ∙ t.behind k h;
    }
  where
    other : (k : ℕ) → (k ≡ clock_at → ⊥) → word_in (set y clock_at c) k ≡ word_in y k
    other k h = get_or-set_other y clock_at k c 0 h

pub clock_front :
    (w x : List ℕ) (c : ℕ) → lines_at ≤ length w → word_in w count_at ≤ most_jobs → all_marked (word_in w) ≡ true
    → x ≡ rewritten (λ k. 0) (set w clock_at c) (job_start (word_in w count_at)) lines_at → x ≡ fronted w c (jobs_from (jobs_of (held_jobs (word_in w))))
clock_front w x c room few marks is =
    listed_front w (set w clock_at c) x c (word_in w count_at) (jobs_of (held_jobs (word_in w))) room (sym (held_jobs_lem (word_in w) few))
    (clock_listed w w (word_in w clock_at) c (jobs_of (held_jobs (word_in w))) room (listed_own w few marks)) is
