-- Laws of calls on a board that is lent as its words. Assumes nothing.
--   lines_many, is_sound, marks   what holds of the board of words that pass the test of soundness
--   points_asked, jobs_sized, closed_lent, few_after   what the code of the calls asks of jobs, table and lines
--   jobs_kept, marks_kept, clocked_kept, fronted_kept   a changed table leaves the jobs as they were, and so what becomes of them
--   lines_kept, length_fronted   a changed table, another clock and other jobs leave the lines and the number of words as they were
--   assembled           with lines written too, the words are those of the board so made
--   answered, accepted_words, unanswered   the words after an accepted call, and after a refused one
--   lent_sound          words that stand for a sound board are as many as a board has, and their board is sound
--   lent_answer         what was ruled on their board was ruled on the board that they stand for
use Prim.Native.Nat.{ℕ, suc, ◌<◌, ◌≤◌}
use mathlib.Core.Path.{◌≡◌, refl, sym, ◌∙◌, ap, subst}
use mathlib.Core.Bool.{true}
use mathlib.Core.List.{List}
use native.Mathlib.Omega.{arith}
use lib.ListN.{length, get_or, set, length-set}
use lib.Seq.{get_or-set_other}
use Rattle.base_rulings.specs.declared.Cause.{Cause}
use Rattle.base_rulings.specs.declared.Ruling.{Ruling}
use Rattle.base_rulings.specs.declared.Ruling.TheVariants.{Accepted, Refused}
use Rattle.base_rulings.specs.Order.{if_accepted}
use Rattle.spec_plain.specs.Limits.{most_jobs, resources, most_uses}
use Rattle.spec_plain.specs.declared.Job.{Job}
use Rattle.part_lines.specs.declared.Jobs.{Jobs}
use Rattle.part_lines.specs.declared.Line.{Line}
use Rattle.part_lines.specs.ArrayLists.{jobs_of, jobs_from, no_line}
use Rattle.part_lines.specs.Asked.{Sized}
use Rattle.spec_plain.specs.Plain.{total}
use Rattle.spec_stn.specs.Table.{Closed}
use Rattle.part_gaps.specs.Cells.{table_of}
use Rattle.part_boardwords.specs.Board.{Board, board_with}
use Rattle.part_boardwords.specs.Layout.{clock_at, count_at, jobs_at, lines_at, cells_at, board_size}
use Rattle.part_boardwords.specs.Words.{word_in, held_jobs, lines_read, line_at, all_marked, board_in, lent_board}
use Rattle.part_boardwords.specs.Codec.{words_of, head_words, jobs_words, lines_words, overwritten}
use Rattle.base_lists.specs.All.{All}
use Rattle.base_lists.proofs.Build.{build_length}
use Rattle.part_jobwords.specs.Counted.{FewPoints}
use Rattle.part_jobwords.specs.Fronted.{fronted}
use Rattle.part_boardwords.proofs.Boards.{same_lines, same_marks, same_jobs}
use Rattle.part_boardwords.proofs.Overwritten.{overwritten_length, overwritten_from, overwritten_frame, length_jobs}
use Rattle.part_boardwords.proofs.Heads.{head_set, head_kept}
use Rattle.part_boardwords.proofs.Lent.{lent_table, words_with, cells_lent, with_word_lem, written}
use Rattle.part_sound.specs.Sound.{Sound, sound}
use Rattle.part_sound.proofs.Soundness.{sound_to, sound_sized, sound_few}
use Rattle.part_sound.proofs.InWords.{lent_whole}
use Rattle.call_board.specs.Ruled.{Ruled}
use Rattle.call_board.specs.Calls.{refused_with}
use Rattle.call_board.specs.InWords.{words_after}
use Rattle.call_board.proofs.OnSound.{sized, lines_small, closed}

pub lines_many : (w : List ℕ) → length (board_in w).lines ≡ 16
lines_many w = build_length (line_at (word_in w)) resources

-- ---- answers

pub answered :
    (w z : List ℕ) (r : Ruled) (b : Board) → record { ruling = Accepted; board = b } ≡ r → z ≡ words_of b → (Accepted ≡ r.ruling) × (z ≡ words_after w r)
unfolding words_after
answered w z r b e is = (ap (λ (x : Ruled). x.ruling) e, is ∙ ap (words_after w) e)

pub accepted_words : (w z : List ℕ) (r : Ruled) → r.ruling ≡ Accepted → z ≡ words_of r.board → (Accepted ≡ r.ruling) × (z ≡ words_after w r)
unfolding words_after
accepted_words w z r e is = (sym e, is ∙ ap (λ (x : Ruling). if_accepted x (words_of r.board) w) (sym e))

pub unanswered : (w : List ℕ) (r : Ruled) (b : Board) (c : Cause) → refused_with b c ≡ r → (Refused c ≡ r.ruling) × (w ≡ words_after w r)
unfolding words_after
unanswered w r b c e = (ap (λ (x : Ruled). x.ruling) e, ap (words_after w) e)

-- ---- words that are lent

module _ (w : List ℕ) (e : sound (lent_board w) ≡ true) where
  pub lent_sound : (length w ≡ board_size) × (sound (board_in w) ≡ true)
  lent_sound = let whole = lent_whole w e in (whole.0, sym (ap sound whole.1) ∙ e)

  pub lent_answer :
      (f : Board → Ruled) (x : List ℕ) (r : Ruling) → r ≡ (f (board_in w)).ruling → x ≡ words_after w (f (board_in w))
      → (r ≡ (f (lent_board w)).ruling) × (x ≡ words_after w (f (lent_board w)))
  lent_answer f x r er ex = let is = sym (ap f (lent_whole w e).1) in (er ∙ ap (λ (a : Ruled). a.ruling) is, ex ∙ ap (words_after w) is)

-- ---- words that pass

module _ (w : List ℕ) (e : sound (board_in w) ≡ true) where
  pub is_sound : Sound (board_in w)
  is_sound = sound_to (board_in w) (lines_many w) e

  pub marks : all_marked (word_in w) ≡ true
  marks = is_sound.marked

  few_uses : (x : List ℕ) → lines_read (word_in x) ≡ lines_read (word_in w) → (k : ℕ) → (get_or (lines_read (word_in x)) k no_line).count ≤ most_uses
  few_uses x same = subst (λ (ls : List Line). (k : ℕ) → (get_or ls k no_line).count ≤ most_uses) (sym same) (lines_small (board_in w) is_sound (lines_many w))

  pub points_asked : (word_in w count_at ≤ most_jobs) × All FewPoints (jobs_of (held_jobs (word_in w)))
  points_asked = ((sound_sized (board_in w) e).count, sound_few (board_in w) e)

  pub jobs_sized : Sized (held_jobs (word_in w))
  jobs_sized = sized (board_in w) is_sound

  pub closed_lent : length w ≡ board_size → (n : ℕ) → n ≡ suc (total (jobs_of (held_jobs (word_in w)))) → Closed n (table_of (lent_table w))
  closed_lent len n en =
      subst (λ (m : ℕ). Closed m (table_of (lent_table w))) (sym en)
      (subst (λ (l : List ℕ). Closed (suc (total (jobs_of (board_in w).jobs))) (table_of l)) (sym (cells_lent w len)) (closed (board_in w) is_sound))

  -- a changed table leaves the jobs and their marks as they were
  module _ (len : length w ≡ board_size) (t : List ℕ) where
    front_kept : (k : ℕ) → k < lines_at → word_in (words_with w t) k ≡ word_in w k
    front_kept k h = with_word_lem w len t k (omega arith)

    pub jobs_kept : held_jobs (word_in (words_with w t)) ≡ held_jobs (word_in w)
    jobs_kept = same_jobs (word_in (words_with w t)) (word_in w) front_kept

    pub marks_kept : all_marked (word_in (words_with w t)) ≡ true
    marks_kept = same_marks (word_in (words_with w t)) (word_in w) front_kept ∙ marks

    pub clocked_kept :
        (c : ℕ) (f : List Job → List Job) (x : List ℕ)
        → x ≡ fronted (words_with w t) c (jobs_from (f (jobs_of (held_jobs (word_in (words_with w t))))))
        → x ≡ fronted (words_with w t) c (jobs_from (f (jobs_of (held_jobs (word_in w)))))
    clocked_kept c f x e = e ∙ ap (λ (j : Jobs). fronted (words_with w t) c (jobs_from (f (jobs_of j)))) jobs_kept

    pub fronted_kept :
        (f : List Job → List Job) (x : List ℕ)
        → x ≡ fronted (words_with w t) (word_in (words_with w t) clock_at) (jobs_from (f (jobs_of (held_jobs (word_in (words_with w t))))))
        → x ≡ fronted (words_with w t) (word_in w clock_at) (jobs_from (f (jobs_of (held_jobs (word_in w)))))
    fronted_kept f x e =
        clocked_kept (word_in w clock_at) f x
        (e ∙ ap (λ (c : ℕ). fronted (words_with w t) c (jobs_from (f (jobs_of (held_jobs (word_in (words_with w t))))))) (front_kept clock_at (omega arith)))

  module _
      (len : length w ≡ board_size) (t : List ℕ) (c : ℕ) (jobs : Jobs) (x : List ℕ)
      (ex : x ≡ fronted (words_with w t) c jobs)
    where
      -- clock and count stored
      abbrev ticked : List ℕ
      ticked = set (words_with w t) clock_at c

      abbrev headed : List ℕ
      headed = set ticked count_at jobs.count

      kept : (k : ℕ) → lines_at ≤ k → k < cells_at → word_in x k ≡ word_in w k
      kept k l h =
          ap (λ (v : List ℕ). word_in v k) ex
          ∙ (overwritten_from headed jobs_at (jobs_words jobs.jobs) k (omega (arith, length_jobs jobs.jobs))
          ∙ (get_or-set_other ticked count_at k jobs.count 0 (λ e. omega arith)
          ∙ (get_or-set_other (words_with w t) clock_at k c 0 (λ e. omega arith) ∙ with_word_lem w len t k h)))

      pub lines_kept : lines_read (word_in x) ≡ lines_read (word_in w)
      lines_kept = same_lines (word_in x) (word_in w) kept

      pub length_fronted : length (words_with w t) ≡ board_size → length x ≡ board_size
      length_fronted size =
          ap length ex
          ∙ (overwritten_length headed jobs_at (jobs_words jobs.jobs)
          ∙ (length-set ticked count_at jobs.count ∙ (length-set (words_with w t) clock_at c ∙ size)))

      pub few_after : (k : ℕ) → (get_or (lines_read (word_in x)) k no_line).count ≤ most_uses
      few_after = few_uses x lines_kept

      pub assembled :
          length (words_with w t) ≡ board_size → (ls : List Line) (z : List ℕ) → z ≡ overwritten x lines_at (lines_words ls)
          → z ≡ words_of (board_with (board_in w) c jobs ls t)
      assembled size ls z ez =
          let d : Board = board_with (board_in w) c jobs ls t in
          let head : headed ≡ overwritten (words_with w t) 0 (head_words d) =
          head_set (words_with w t) d (omega (arith, size)) (λ k h nc nn. with_word_lem w len t k (omega arith) ∙ head_kept (word_in w) c jobs ls t k h nc nn) in
          overwritten_frame d (words_with w t) _ x z refl (ex ∙ ap (λ (v : List ℕ). overwritten v jobs_at (jobs_words jobs.jobs)) head) ez
          ∙ written w len t d refl size
