-- Laws of send's call. Assumes nothing.
--   within            an unsent job's place is one of the list
--   unsound, absent, sent_is   the answer, case by case
--   unsent_place, sent_words, accepted   the same in words, and the words after the call
use Prim.Native.Nat.{ℕ, zero, suc, ◌+◌, ◌≤◌, ◌<◌}
use native.Mathlib.Omega.{arith}
use native.Mathlib.Numerals.{add-one}
use mathlib.Core.Path.{◌≡◌, refl, ap, ap₂, ◌∙◌}
use mathlib.Core.Bool.{true, false, false≢true}
use mathlib.Core.List.{List, [], ◌∷◌}
use lib.ListN.{length, length-take}
use Rattle.base_rulings.specs.declared.Ruling.TheVariants.{Accepted}
use Rattle.spec_plain.specs.declared.Job.{Job}
use Rattle.spec_plain.specs.Plain
use Rattle.spec_plain.specs.Plain.{total, unsent_at, unsent_points, sent_up_to}
use Rattle.part_lines.specs.declared.Jobs.{Jobs}
use Rattle.part_lines.specs.declared.Line.{Line}
use Rattle.part_lines.specs.ArrayLists.{jobs_of, jobs_from, lines_of, lines_from}
use Rattle.part_settling.specs.Frozen.{frozen}
use Rattle.part_boardwords.specs.Board.{Board, board_with}
use Rattle.part_boardwords.specs.Layout.{clock_at, count_at, lines_at, board_size}
use Rattle.part_sound.specs.Sound.{sound}
use Rattle.part_boardwords.specs.Words.{word_in, held_jobs, board_in, lines_read}
use Rattle.part_boardwords.specs.Codec.{words_of, lines_words, overwritten}
use Rattle.part_boardwords.proofs.Lent.{lent_table, words_with, cells_lent}
use Rattle.call_board.specs.Ruled.{Ruled}
use Rattle.call_board.specs.Calls.{refusal, send_rules, sent}
use Rattle.part_jobwords.specs.Fronted.{fronted}
use Rattle.call_board.proofs.InWords.{lines_kept, assembled}

unsent_within : (js : List Job) (k : ℕ) → unsent_at k js ≡ true → k < length js
unfolding unsent_at
unsent_within [] k h = absurd (false≢true h)
unsent_within (j ∷ js) zero h = omega arith
unsent_within (j ∷ js) (suc k) h = let r = unsent_within js k h in omega (arith, r)

module _ (b : Board) (place : ℕ) where
  pub within : unsent_at place (jobs_of b.jobs) ≡ true → place + 1 ≤ b.jobs.count
  within h =
      let r = unsent_within (jobs_of b.jobs) place h in
      let n = length-take b.jobs.count b.jobs.jobs in
      omega (arith, r, n)

  pub unsound : sound b ≡ false → refusal b 6 ≡ sent b place
  unfolding sent
  unsound e = rw e

  module _ (e : sound b ≡ true) where
    pub absent : unsent_at place (jobs_of b.jobs) ≡ false → refusal b 18 ≡ sent b place
    unfolding sent
    absent u = rw (e, u)

    pub sent_is :
        unsent_at place (jobs_of b.jobs) ≡ true → (jobs : Jobs) (lines : List Line) (cells : List ℕ) (n : ℕ)
        → jobs ≡ jobs_from (sent_up_to (place + 1) (jobs_of b.jobs)) → lines ≡ lines_from (lines_of b.lines)
        → n ≡ suc (total (jobs_of b.jobs)) → cells ≡ frozen n (unsent_points 1 (place + 1) (jobs_of b.jobs)) b.gaps
        → record {
          ruling = Accepted;
          board = board_with b b.clock jobs lines cells;
        }
        ≡ sent b place
    unfolding sent send_rules Plain.sent_state Plain.live_count
    sent_is u jobs lines cells n ej el en ec =
        let one = add-one place in
        let fj : jobs ≡ jobs_from (sent_up_to (suc place) (jobs_of b.jobs)) = ej ∙ ap (λ (k : ℕ). jobs_from (sent_up_to k (jobs_of b.jobs))) one in
        let fc : cells ≡ frozen (suc (total (jobs_of b.jobs))) (unsent_points 1 (suc place) (jobs_of b.jobs)) b.gaps =
        ec ∙ ap₂ (λ (k m : ℕ). frozen m (unsent_points 1 k (jobs_of b.jobs)) b.gaps) one en in
        rw (e, u, fj, el, fc)

-- ---- in words

module _ (w : List ℕ) (len : length w ≡ board_size) (e : sound (board_in w) ≡ true) (place : ℕ) (u : unsent_at place (jobs_of (held_jobs (word_in w))) ≡ true) where
  pub unsent_place : place + 1 ≤ word_in w count_at
  unsent_place = within (board_in w) place u

  pub sent_words :
      (n : ℕ) (t x z : List ℕ) → n ≡ suc (total (jobs_of (held_jobs (word_in w))))
      → t ≡ frozen n (unsent_points 1 (place + 1) (jobs_of (held_jobs (word_in w)))) (lent_table w) → length (words_with w t) ≡ board_size
      → x ≡ fronted (words_with w t) (word_in w clock_at) (jobs_from (sent_up_to (place + 1) (jobs_of (held_jobs (word_in w)))))
      → z ≡ overwritten x lines_at (lines_words (lines_from (lines_of (lines_read (word_in x)))))
      → z ≡ words_of (sent (board_in w) place).board
  sent_words n t x z en et size ex ez =
      let b = board_in w in
      let new = jobs_from (sent_up_to (place + 1) (jobs_of (held_jobs (word_in w)))) in
      let cells : t ≡ frozen n (unsent_points 1 (place + 1) (jobs_of b.jobs)) b.gaps =
      et ∙ ap (frozen n (unsent_points 1 (place + 1) (jobs_of b.jobs))) (cells_lent w len) in
      let same = lines_kept w e len t (word_in w clock_at) new x ex in
      assembled w e len t (word_in w clock_at) new x ex size (lines_from (lines_of b.lines)) z
      (ez ∙ ap (λ (ls : List Line). overwritten x lines_at (lines_words (lines_from (lines_of ls)))) same)
      ∙ ap (λ (r : Ruled). words_of r.board) (sent_is b place e u new (lines_from (lines_of b.lines)) t n refl refl en cells)

  pub accepted : (sent (board_in w) place).ruling ≡ Accepted
  unfolding sent
  accepted = rw (e, u)
