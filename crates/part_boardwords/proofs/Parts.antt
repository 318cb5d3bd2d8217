-- Settings, jobs, uses and heads by their words, whichever these are: what all other proofs know of them, so that a word more changes none of them.
-- Assumes nothing.
--   mark_made, mark_is, mark_small, mark_back   marks written, and read again
--   settings_by, job_by, use_by      the same words, at another place or in other words, give the same settings, job, use;  job_same: at the same place
--   job_zero, use_zero               words of 0 give what stands in a place not in use
--   job_written, use_written         the words of a job, of a use, read again
--   job_word, use_word, head_word    word i of a job, of a use, of a head that was read;  head-written: a head that was written
--   job_sent                         words that differ in the mark alone, which is 1
--   head_other                       word i of a head, but for clock and count, is that of the settings
use Prim.Native.Nat.{ℕ, zero, suc, ◌+◌, ◌<◌, ◌≤◌}
use mathlib.Core.Path.{◌≡◌, refl, ◌∙◌, ap}
use mathlib.Core.Bool.{Bool, true, false}
use lib.ListN.{get_or}
use mir.Val.{bool_byte}
use lib.Dec.{eqb}
use native.Mathlib.Omega.{arith}
use Rattle.spec_plain.specs.declared.Settings.{Settings}
use Rattle.spec_plain.specs.declared.Job.{Job}
use Rattle.spec_plain.specs.declared.Use.{Use}
use Rattle.spec_plain.specs.Plain.{sent_job, no_use}
use Rattle.part_lines.specs.ArrayLists.{no_job}
use Rattle.part_boardwords.specs.Board.{Board}
use Rattle.part_boardwords.specs.Layout.{horizon_at, lead_at, clock_at, count_at, head_size, batch_in, sent_in, due_in, job_size, offset_in, length_in, use_size, job_start}
use Rattle.part_boardwords.specs.Words.{Words, word_in, zeros, settings_read, job_read, job_at, use_read, board_read}
use Rattle.part_boardwords.specs.Codec.{mark_of, job_words, use_words, head_words}

-- ---- marks

pub mark_back : (m : ℕ) → m ≤ 1 → mark_of (eqb m 1) ≡ m
mark_back zero h = refl
mark_back (suc zero) h = refl
mark_back (suc (suc m)) h = absurd (omega arith)

pub mark_made : (s : Bool) → bool_byte s ≡ mark_of s
mark_made true = refl
mark_made false = refl

pub mark_small : (s : Bool) → mark_of s ≤ 1
mark_small true = omega arith
mark_small false = omega arith

pub mark_is : (s : Bool) → eqb (mark_of s) 1 ≡ s
mark_is true = refl
mark_is false = refl

-- ---- the same words

module _ (v w : Words) (a b : ℕ) where
  -- the first of them
  first : v (a + 0) ≡ w (b + 0) → v a ≡ w b
  first e = ap v {x = a} {y = a + 0} (omega arith) ∙ e ∙ ap w {x = b + 0} {y = b} (omega arith)

  pub job_by : ((i : ℕ) → i < job_size → v (a + i) ≡ w (b + i)) → job_read v a ≡ job_read w b
  job_by same = rw (first (same 0 (omega arith)), same batch_in (omega arith), same sent_in (omega arith), same due_in (omega arith)) refl

  pub use_by : ((i : ℕ) → i < use_size → v (a + i) ≡ w (b + i)) → use_read v a ≡ use_read w b
  use_by same = rw (first (same 0 (omega arith)), same offset_in (omega arith), same length_in (omega arith)) refl

pub settings_by : (v w : Words) → ((i : ℕ) → i < clock_at → v i ≡ w i) → settings_read v ≡ settings_read w
settings_by v w same = rw (same horizon_at (omega arith), same lead_at (omega arith)) refl

pub job_same : (v w : Words) (m : ℕ) → ((k : ℕ) → job_start m ≤ k → k < job_start m + job_size → v k ≡ w k) → job_at v m ≡ job_at w m
job_same v w m same = job_by v w (job_start m) (job_start m) (λ i h. same (job_start m + i) (omega arith) (omega arith))

-- ---- places not in use

pub job_zero : (v : Words) (a : ℕ) → ((i : ℕ) → i < job_size → v (a + i) ≡ 0) → job_read v a ≡ no_job
job_zero v a none = job_by v zeros a 0 none

pub use_zero : (v : Words) (a : ℕ) → ((i : ℕ) → i < use_size → v (a + i) ≡ 0) → use_read v a ≡ no_use
use_zero v a none = use_by v zeros a 0 none

-- ---- written and read again

pub job_written : (v : Words) (a : ℕ) (j : Job) → ((i : ℕ) → i < job_size → v (a + i) ≡ get_or (job_words j) i 0) → job_read v a ≡ j
job_written v a j same =
    job_by v (word_in (job_words j)) a 0 (λ i h. same i h ∙ ap (word_in (job_words j)) {x = i} {y = 0 + i} (omega arith))
    ∙ ap (λ (s : Bool). record { points = j.points; batch = j.batch; sent = s; due = j.due }) (mark_is j.sent)

pub use_written : (v : Words) (a : ℕ) (u : Use) → ((i : ℕ) → i < use_size → v (a + i) ≡ get_or (use_words u) i 0) → use_read v a ≡ u
use_written v a u same =
    use_by v (word_in (use_words u)) a 0 (λ i h. same i h ∙ ap (word_in (use_words u)) {x = i} {y = 0 + i} (omega arith))

pub settings_written : (v : Words) (b : Board) → ((i : ℕ) → i < clock_at → v i ≡ get_or (head_words b) i 0) → settings_read v ≡ b.settings
settings_written v b same = settings_by v (word_in (head_words b)) same

-- ---- read and written again

pub job_word : (w : Words) (a i : ℕ) → w (a + sent_in) ≤ 1 → i < job_size → get_or (job_words (job_read w a)) i 0 ≡ w (a + i)
job_word w a zero m h = ap w {x = a} {y = a + 0} (omega arith)
job_word w a (suc zero) m h = refl
job_word w a (suc (suc zero)) m h = mark_back (w (a + sent_in)) m
job_word w a (suc (suc (suc zero))) m h = refl
job_word w a (suc (suc (suc (suc i)))) m h = absurd (omega arith)

pub use_word : (w : Words) (a i : ℕ) → i < use_size → get_or (use_words (use_read w a)) i 0 ≡ w (a + i)
use_word w a zero h = ap w {x = a} {y = a + 0} (omega arith)
use_word w a (suc zero) h = refl
use_word w a (suc (suc zero)) h = refl
use_word w a (suc (suc (suc i))) h = absurd (omega arith)

pub head_word : (w : Words) (l : ℕ) → l < head_size → get_or (head_words (board_read w)) l 0 ≡ w l
head_word w zero h = refl
head_word w (suc zero) h = refl
head_word w (suc (suc zero)) h = refl
head_word w (suc (suc (suc zero))) h = refl
head_word w (suc (suc (suc (suc i)))) h = absurd (omega arith)

-- a head's words but for clock and count are its settings': two boards with the same settings have them both
pub head_other :
    (b d : Board) (k : ℕ) → b.settings ≡ d.settings → k < head_size → (k ≡ clock_at → ⊥) → (k ≡ count_at → ⊥)
    → get_or (head_words b) k 0 ≡ get_or (head_words d) k 0
head_other b d zero e h nc nn = ap (λ (s : Settings). s.horizon) e
head_other b d (suc zero) e h nc nn = ap (λ (s : Settings). s.lead) e
head_other b d (suc (suc zero)) e h nc nn = absurd (nc refl)
head_other b d (suc (suc (suc zero))) e h nc nn = absurd (nn refl)
head_other b d (suc (suc (suc (suc k)))) e h nc nn = absurd (omega arith)

-- ---- a mark alone

pub job_sent :
    (v w : Words) (a : ℕ) → v (a + sent_in) ≡ 1 → ((i : ℕ) → i < job_size → (i ≡ sent_in → ⊥) → v (a + i) ≡ w (a + i))
    → job_read v a ≡ sent_job (job_read w a)
job_sent v w a one same =
    let e : eqb (v (a + sent_in)) 1 ≡ true = ap (λ (m : ℕ). eqb m 1) one in
    let points = first v w a a (same 0 (omega arith) (λ q. omega arith)) in
    rw (points, same batch_in (omega arith) (λ q. omega arith), same due_in (omega arith) (λ q. omega arith), e) refl
