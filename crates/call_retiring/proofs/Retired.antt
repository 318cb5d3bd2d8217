-- Laws of retire's call. Assumes nothing.
--   unsound, none_there   the answer to a board that is not sound, and to one without a job
--   oldest_first          the list of jobs starts with the job in the first place
--   unsent                the answer where the oldest job, j, is unsent;  the other laws are of one that was sent
--   some, few             it has points, and all of them are live
--   in_reach              the test that it is over by c, no later than the horizon, reads the table within its bounds
--   ends                  the rules that say so
--   late, retired_is      the answer where it is not over, and where it is
--   leaving_words, retired_words, unsent_words   the same in words, and the words after the call
use mathlib.Core.Path.{◌≡◌, refl, sym, ap, subst, ◌∙◌}
use mathlib.Core.Bool.{Bool, true, false}
use mathlib.Core.List.{List, [], ◌∷◌, map}
use Prim.Native.Nat.{ℕ, suc, ◌+◌, ◌-◌, ◌≤◌}
use native.Mathlib.Omega.{arith}
use lib.ListN.{length, get_or, take, drop}
use Rattle.base_rulings.specs.declared.Ruling.TheVariants.{Accepted, Refused}
use Rattle.base_rulings.specs.Answer.{plain}
use Rattle.spec_plain.specs.Limits.{most_jobs, cell_count}
use Rattle.spec_plain.specs.declared.Settings.{Settings}
use Rattle.spec_plain.specs.declared.Job.{Job}
use Rattle.spec_plain.specs.declared.Rule.{Rule}
use Rattle.spec_plain.specs.Plain
use Rattle.spec_plain.specs.Plain.{total, tray_gap, over_by, all_end_by, staying}
use Rattle.part_lines.specs.declared.Jobs.{Jobs}
use Rattle.part_lines.specs.declared.Line.{Line}
use Rattle.part_lines.specs.ArrayLists.{jobs_of, jobs_from, lines_of, lines_from, no_job}
use Rattle.part_lines.proofs.Lists.{held_next}
use Rattle.base_lists.specs.All.{All}
use Rattle.spec_stn.specs.Table.{entails_all}
use Rattle.part_gaps.specs.Cells.{table_of, dropped}
use Rattle.call_retiring.specs.Ending.{InReach}
use Rattle.part_boardwords.specs.Board.{Board, board_with}
use Rattle.part_boardwords.specs.Layout.{clock_at, count_at, lines_at, board_size}
use Rattle.part_sound.specs.Sound.{SizedJob, Sound, sound}
use Rattle.call_board.specs.Boards.{state_of}
use Rattle.part_lines.specs.Asked.{Lined}
use Rattle.part_boardwords.specs.Words.{word_in, settings_read, held_jobs, job_at, cell_at, cells_read, board_in, lines_read}
use Rattle.part_boardwords.specs.Codec.{lines_words, overwritten}
use Rattle.base_lists.proofs.Build.{build_length, build_at}
use Rattle.part_boardwords.proofs.Lent.{lent_table, words_with, cells_lent}
use Rattle.call_board.specs.Calls.{refusal, departed, retired}
use Rattle.call_board.specs.InWords.{words_after}
use Rattle.part_jobwords.specs.Fronted.{fronted}
use Rattle.call_board.proofs.OnSound.{closed, lined}
use Rattle.call_board.proofs.InWords.{lines_many, is_sound, lines_kept, assembled, answered, unanswered}

-- the rules that the point `last`, with the tray gap, and the uses of the m points from 1 on are over by c
abbrev pub ends : Settings → ℕ → ℕ → ℕ → List Line → List Rule
ends s last c m ls = over_by last (tray_gap s) c ∷ all_end_by s c 1 m (lines_of ls)

module _ (b : Board) where
  pub unsound : sound b ≡ false → refusal b 6 ≡ retired b
  unfolding retired
  unsound e = rw e

  pub oldest_first :
      1 ≤ b.jobs.count → b.jobs.count ≤ length b.jobs.jobs
      → jobs_of b.jobs ≡ get_or b.jobs.jobs 0 no_job ∷ drop 1 (jobs_of b.jobs)
  oldest_first some le = held_next b.jobs.count b.jobs.jobs 0 no_job (omega arith) le

  -- the answer by the list of jobs
  by_jobs : sound b ≡ true → (js : List Job) → jobs_of b.jobs ≡ js → departed b (Plain.leaving_from (state_of b) js) ≡ retired b
  unfolding retired Plain.leaving
  by_jobs e js q =
      let whole : departed b (Plain.leaving_from (state_of b) (jobs_of b.jobs)) ≡ retired b = rw e in
      ap (λ (l : List Job). departed b (Plain.leaving_from (state_of b) l)) (sym q) ∙ whole

  pub none_there : sound b ≡ true → b.jobs.count ≡ 0 → refusal b 21 ≡ retired b
  unfolding departed Plain.leaving_from
  none_there e z = by_jobs e [] (ap (λ (n : ℕ). take n b.jobs.jobs) z)

  module _ (j : Job) (js : List Job) (q : jobs_of b.jobs ≡ j ∷ js) where
    pub unsent : sound b ≡ true → j.sent ≡ false → refusal b 21 ≡ retired b
    unfolding departed Plain.leaving_from
    unsent e u =
        let stops : refusal b 21 ≡ departed b (Plain.leaving_from (state_of b) (j ∷ js)) = rw u in
        stops ∙ by_jobs e (j ∷ js) q

    -- ---- on a sound board

    module _ (s : Sound b) where
      pub some : 1 ≤ j.points
      some =
          let sizes : All (SizedJob b.settings.horizon) (j ∷ js) = subst (All (SizedJob b.settings.horizon)) q s.sizes in
          omega (arith, sizes.0.least)

      pub few : 1 + j.points ≤ suc (total (jobs_of b.jobs))
      unfolding total
      few = let all = ap total q in omega (arith, all)

      pub in_reach : (c : ℕ) → c ≤ b.settings.horizon → length b.gaps ≡ cell_count → InReach b.gaps c 1 j.points
      in_reach c by size =
          record {
            size = size;
            points = omega (arith, few, s.points);
            clock = omega (arith, s.horizon.1);
            bounded = λ x h. (closed b s).bounded 0 x (omega arith) (omega (arith, few));
          }

    -- ---- the answer

    module _
        (e : sound b ≡ true) (was-sent : j.sent ≡ true) (ok : Bool)
        (is : ok ≡ entails_all (table_of b.gaps) (ends b.settings (1 + j.points - 1) b.clock j.points b.lines))
      where
        test : ok ≡ entails_all (table_of b.gaps) (ends b.settings j.points b.clock j.points b.lines)
        test =
            let last : 1 + j.points - 1 ≡ j.points = omega arith in
            is ∙ ap (λ (x : ℕ). entails_all (table_of b.gaps) (ends b.settings x b.clock j.points b.lines)) last

        pub late : ok ≡ false → refusal b 21 ≡ retired b
        unfolding departed Plain.leaving_from
        late f =
            let stops : refusal b 21 ≡ departed b (Plain.leaving_from (state_of b) (j ∷ js)) = rw (was-sent, ← test, f) in
            stops ∙ by_jobs e (j ∷ js) q

        pub retired_is :
            ok ≡ true → (jobs : Jobs) (lines : List Line) (cells : List ℕ) (n : ℕ) → jobs ≡ jobs_from js
            → lines ≡ lines_from (map (staying 1 j.points) (lines_of b.lines)) → n ≡ suc (total (jobs_of b.jobs))
            → cells ≡ dropped b.gaps 1 j.points n
            → record {
              ruling = Accepted;
              board = board_with b b.clock jobs lines cells;
            }
            ≡ retired b
        unfolding departed Plain.leaving_from Plain.without Plain.live_count
        retired_is t jobs lines cells n ej el en ec =
            let kept : cells ≡ dropped b.gaps 1 j.points (suc (total (jobs_of b.jobs))) =
            ec ∙ ap (dropped b.gaps 1 j.points) en in
            let goes :
            record {
              ruling = Accepted;
              board = board_with b b.clock jobs lines cells;
            }
            ≡ departed b (Plain.leaving_from (state_of b) (j ∷ js)) = rw (was-sent, ← test, t, ej, el, kept) in
            goes ∙ by_jobs e (j ∷ js) q

-- ---- in words

module _ (w : List ℕ) (len : length w ≡ board_size) (e : sound (board_in w) ≡ true) (there : 1 ≤ word_in w count_at) (j : Job) (ej : j ≡ job_at (word_in w) 0) where
  first : jobs_of (board_in w).jobs ≡ j ∷ drop 1 (jobs_of (board_in w).jobs)
  first =
      oldest_first (board_in w) there (omega (arith, (is_sound w e).jobs, build_length (job_at (word_in w)) most_jobs))
      ∙ ap (λ (x : Job). x ∷ drop 1 (jobs_of (board_in w).jobs)) (build_at (job_at (word_in w)) 16 0 no_job (omega arith) ∙ sym ej)

  -- what the test and the dropping of the oldest job's points ask
  pub leaving_words :
      InReach (cells_read (word_in w)) (word_in w clock_at) 1 j.points × (1 ≤ j.points) × Lined (lines_read (word_in w))
      × (1 + j.points ≤ suc (total (jobs_of (held_jobs (word_in w)))))
  leaving_words =
      let s = is_sound w e in (
        in_reach (board_in w) _ _ first s (word_in w clock_at) s.clock (build_length (cell_at (word_in w)) cell_count),
        some (board_in w) _ _ first s,
        lined (board_in w) s (lines_many w),
        few (board_in w) _ _ first s,
      )

  -- the words after the call, where the oldest job is not over, and where it is
  pub retired_words :
      (ok : Bool) → j.sent ≡ true
      → ok
      ≡ entails_all (table_of (cells_read (word_in w)))
      (ends (settings_read (word_in w)) (1 + j.points - 1) (word_in w clock_at) j.points (lines_read (word_in w)))
      → (ok ≡ false → (Refused (plain 21) ≡ (retired (board_in w)).ruling) × (w ≡ words_after w (retired (board_in w))))
      × ((n : ℕ) (t x z : List ℕ) → ok ≡ true → n ≡ suc (total (jobs_of (held_jobs (word_in w))))
      → t ≡ dropped (lent_table w) 1 j.points n → length (words_with w t) ≡ board_size
      → x ≡ fronted (words_with w t) (word_in w clock_at) (jobs_from (drop 1 (jobs_of (held_jobs (word_in w)))))
      → z ≡ overwritten x lines_at (lines_words (lines_from (map (staying 1 j.points) (lines_of (lines_read (word_in x))))))
      → (Accepted ≡ (retired (board_in w)).ruling) × (z ≡ words_after w (retired (board_in w))))
  retired_words ok was read = (
    (λ no. unanswered w (retired b) b (plain 21) (late b _ _ first e was ok read no)),
    (λ n t x z yes en et size ex ez.
        let new = jobs_from (drop 1 (jobs_of (held_jobs (word_in w)))) in
        let ls = lines_from (map (staying 1 m) (lines_of b.lines)) in
        answered w z (retired b) _
        (retired_is b _ _ first e was ok read yes new ls t n refl refl en (et ∙ ap (λ (l : List ℕ). dropped l 1 m n) (cells_lent w len)))
        (assembled w e len t (word_in w clock_at) new x ex size ls z
        (ez
        ∙ ap (λ (l : List Line). overwritten x lines_at (lines_words (lines_from (map (staying 1 m) (lines_of l)))))
        (lines_kept w e len t (word_in w clock_at) new x ex)))),
  )
    where
      b : Board
      b = board_in w

      m : ℕ
      m = j.points

  pub unsent_words : j.sent ≡ false → (Refused (plain 21) ≡ (retired (board_in w)).ruling) × (w ≡ words_after w (retired (board_in w)))
  unsent_words u = unanswered w (retired (board_in w)) (board_in w) (plain 21) (unsent (board_in w) _ _ first e u)
