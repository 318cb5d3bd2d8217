-- Laws of plan's call on a board that is lent as its words. Assumes nothing.
--   sound_lined      what a draft asks of the lines of a sound board
--   tidied_lines    tidied, they hold what they held, and are Ready
--   drafted_on      a draft with the settings as the words hold them is one on the board of the words
--   Planning        a draft that went on;  planning shows it
--   plan_asks       what trying the rules asks
--   tried_with      the rules that were tried are those that were collected
--   plan_17         the answer where the rules do not agree
--   plan_adding, plan_few, plan_allocations   where they do: what adding the job asks, tidying the lines, and putting in the uses
--   plan_joins      and the answer
use Prim.Native.Nat.{ℕ, zero, suc, ◌+◌, ◌-◌, ◌<◌, ◌≤◌}
use mathlib.Core.Path.{◌≡◌, refl, sym, ◌∙◌, ap, ap₂, subst}
use mathlib.Core.Bool.{Bool, true, false}
use mathlib.Core.List.{List, [], ◌∷◌, ◌++◌}
use mathlib.Core.Option.{Option}
use native.Mathlib.Omega.{arith}
use lib.ListN.{length, get_or, take, drop, length-map, length-append, length-drop, length-take}
use native.Mathlib.Numerals.{add-one}
use Rattle.base_rulings.specs.declared.Ruling.TheVariants.{Accepted, Refused}
use Rattle.base_rulings.specs.Answer.{plain}
use Rattle.spec_plain.specs.Limits.{most_jobs, resources, most_uses, side}
use Rattle.spec_plain.specs.declared.Settings.{Settings}
use Rattle.spec_plain.specs.declared.Job.{Job}
use Rattle.spec_plain.specs.declared.Rule.{Rule}
use Rattle.spec_plain.specs.declared.Use.{Use}
use Rattle.spec_plain.specs.Plain.{Offer, with_settings, no_use, total, live_count, new_job, job_from, drafted}
use Rattle.part_lines.specs.declared.Jobs.{Jobs}
use Rattle.part_lines.specs.declared.Line.{Line}
use Rattle.part_lines.specs.ArrayLists.{jobs_of, jobs_from, line_of, line_from, lines_of, lines_from, rules_of, no_line, most_rules}
use Rattle.part_lines.specs.Asked.{Lined, Ready}
use Rattle.part_lines.specs.Placing.{all_with, AllFit}
use Rattle.part_lines.proofs.Padded.{length_padded}
use Rattle.part_lines.proofs.DraftLaws.{tidied_ready}
use Rattle.spec_stn.specs.Table.{bias, Closed}
use Rattle.part_gaps.specs.Cells.{table_of, grown}
use Rattle.part_settling.specs.Settled.{AllUsable, added_all, outcome}
use Rattle.part_offered.specs.Sized.{SizedOffer}
use Rattle.part_boardwords.specs.Layout.{clock_at, count_at, lines_at, cells_at, board_size}
use Rattle.part_boardwords.specs.Words.{word_in, settings_read, held_jobs, all_marked, line_at, board_in, lines_read, lines_in}
use Rattle.part_boardwords.specs.Codec.{lines_words, overwritten}
use Rattle.base_lists.proofs.Build.{build_length}
use Rattle.part_boardwords.proofs.Boards.{held_jobs_lem}
use Rattle.part_boardwords.proofs.Lent.{lent_table, words_with, cells_lent, length_lent, with_word_lem, unwritten}
use Rattle.part_boardwords.proofs.Overwritten.{overwritten_length, length_lines}
use Rattle.part_boardwords.proofs.Written.{overwritten_again, written_lines}
use Rattle.part_sound.specs.Sound.{sound}
use Rattle.base_rulings.specs.declared.Cause.{Cause}
use Rattle.part_lines.specs.declared.rulelist.Rules.{Rules}
use Rattle.std.specs.Prelude.{Result, Ok}
use Rattle.part_drafts.specs.DraftedAs.{DraftedAs}
use Rattle.call_board.specs.Ruled.{Ruled}
use Rattle.call_board.specs.Boards.{state_of}
use Rattle.call_board.specs.Calls.{decided}
use Rattle.call_board.specs.InWords.{words_after}
use Rattle.part_jobwords.specs.Fronted.{fronted}
use Rattle.call_board.proofs.OnSound.{lined}
use Rattle.call_board.proofs.InWords.{lines_many, is_sound, jobs_sized, lines_kept, marks_kept, fronted_kept, few_after, length_fronted, assembled, answered, unanswered}
use Rattle.call_planning.proofs.Planned.{Going, going, asked, none_left, joined}

-- ---- lines laid into arrays

held_full : (ls : List Line) (k : ℕ) → k < length ls → length (get_or (lines_from (lines_of ls)) k no_line).uses ≡ 32
held_full [] k h = absurd (omega arith)
held_full (q ∷ ls) zero h = length_padded most_uses no_use (line_of q)
held_full (q ∷ ls) (suc k) h = held_full ls k (omega arith)

-- ---- the lines

module _ (w : List ℕ) (e : sound (board_in w) ≡ true) where
  pub sound_lined : Lined (lines_read (word_in w))
  sound_lined = lined (board_in w) (is_sound w e) (lines_many w)

  tidied_lines :
      (x y : List ℕ) → cells_at ≤ length x → lines_read (word_in x) ≡ lines_read (word_in w)
      → y ≡ overwritten x lines_at (lines_words (lines_from (lines_of (lines_read (word_in x)))))
      → (lines_in y ≡ lines_in w) × Ready (lines_read (word_in y))
  tidied_lines x y room kept ey =
      let ls = lines_read (word_in w) in
      let many : length ls ≡ 16 = build_length (line_at (word_in w)) resources in
      let back : lines_read (word_in y) ≡ lines_from (lines_of ls) =
      ap (λ (v : List ℕ). lines_read (word_in v)) (ey ∙ ap (λ (l : List Line). overwritten x lines_at (lines_words (lines_from (lines_of l)))) kept)
      ∙ written_lines x (lines_from (lines_of ls)) room (length-map (lines_of ls) line_from ∙ (length-map ls line_of ∙ many))
      (λ k h. held_full ls k (omega (arith, many))) in
      tidied_ready ls (lines_read (word_in y)) sound_lined many back

-- ---- the draft

pub drafted_on :
    (w : List ℕ) (o : Offer) (r : Result Rules Cause) (s : Settings) → s ≡ settings_read (word_in w)
    → DraftedAs r (drafted (with_settings (state_of (board_in w)) s) o)
    → DraftedAs r (drafted (state_of (board_in w)) o)
drafted_on w o r s es came =
    subst (λ (x : Settings). DraftedAs r (drafted (with_settings (state_of (board_in w)) x) o)) es came

-- ---- the answer

-- a draft that went on: what holds where the rules are tried, for n live points and m new ones, each at `top` or earlier
pub record Planning (w : List ℕ) (o : Offer) (r : Rules) (n m top : ℕ) : Type 0 where
  pub size : length w ≡ board_size
  pub is_sound : sound (board_in w) ≡ true
  pub sized : SizedOffer (board_in w).settings.horizon o
  pub is_drafted : DraftedAs (Ok r) (drafted (state_of (board_in w)) o)
  pub live : n ≡ suc (total (jobs_of (held_jobs (word_in w))))
  pub new : m ≡ suc (length o.steps)
  pub highest : top ≡ (board_in w).settings.horizon

pub planning :
    (w : List ℕ) (o : Offer) (r : Rules) (s : Settings) (n : ℕ) → length w ≡ board_size → sound (board_in w) ≡ true
    → SizedOffer (board_in w).settings.horizon o → s ≡ settings_read (word_in w) → n ≡ total (jobs_of (held_jobs (word_in w)))
    → DraftedAs (Ok r) (drafted (with_settings (state_of (board_in w)) s) o) → Planning w o r (n + 1) (length o.steps + 1) s.horizon
planning w o r s n size good sized es en came =
    record {
      size = size;
      is_sound = good;
      sized = sized;
      is_drafted = drafted_on w o (Ok r) s es came;
      live = add-one n ∙ ap suc en;
      new = add-one (length o.steps);
      highest = ap (λ (x : Settings). x.horizon) es;
    }

pub tried_with :
    (r : Rules) (rs : List Rule) (n : ℕ) (l : List ℕ) (o : Option (List ℕ)) → rs ≡ rules_of r → o ≡ added_all rs n l → o ≡ added_all (rules_of r) n l
tried_with r rs n l o e tried = tried ∙ ap (λ (x : List Rule). added_all x n l) e

module _ {w : List ℕ} {o : Offer} {r : Rules} {n m top : ℕ} (p : Planning w o r n m top) where
  abbrev answer : Ruled
  answer = decided (board_in w) (drafted (state_of (board_in w)) o)

  abbrev jobs_then : Jobs
  jobs_then = jobs_from (jobs_of (held_jobs (word_in w)) ++ (job_from o ∷ []))

  g : Going (board_in w) o r
  g = going (board_in w) o r p.is_drafted (is_sound w p.is_sound) (lines_many w) p.sized

  -- what trying the rules and adding the job ask
  pub plan_asks :
      ((0 < n) × (n + m ≤ side) × (top ≤ bias) × Closed n (table_of (lent_table w)))
      × ((r.count ≤ most_rules) × AllUsable (n + m) (rules_of r))
      × (word_in w count_at < most_jobs)
  unfolding live_count
  plan_asks =
      let a = asked g n m p.live p.new (is_sound w p.is_sound) in (
        (
          a.0.0,
          a.0.1,
          subst (λ (h : ℕ). h ≤ bias) (sym p.highest) a.0.2,
          subst (λ (l : List ℕ). Closed n (table_of l)) (sym (cells_lent w p.size)) a.0.3,
        ),
        a.1,
        omega (arith, g.joins.jobs, held_jobs_lem (word_in w) (jobs_sized w p.is_sound).count),
      )

  module _ (ok : Bool) (t : List ℕ) (eo : outcome ok t ≡ added_all (rules_of r) (n + m) (grown (lent_table w) n m top)) where
    on_board : outcome ok t ≡ added_all (rules_of r) (n + m) (grown (board_in w).gaps n m (board_in w).settings.horizon)
    on_board = eo ∙ ap₂ (λ (l : List ℕ) (h : ℕ). added_all (rules_of r) (n + m) (grown l n m h)) (cells_lent w p.size) p.highest

    -- the words where the rules do not agree
    pub plan_17 : ok ≡ false → t ≡ lent_table w → (Refused (plain 17) ≡ answer.ruling) × (words_with w t ≡ words_after w answer)
    unfolding live_count
    plan_17 fails kept =
        let q = unanswered w answer (board_in w) (plain 17) (none_left g n m p.live p.new ok t on_board fails) in
        (q.0, unwritten w p.size t kept ∙ q.1)

  -- and where they do, the table t of as many cells is put back
  module _ (t : List ℕ) (same : length t ≡ length (lent_table w)) where
    length_with : length (words_with w t) ≡ board_size
    length_with =
        omega (
          arith,
          p.size,
          same,
          length_lent w p.size,
          length-append (take cells_at w) (t ++ drop (length w - cells_at) (drop cells_at w)),
          length-append t (drop (length w - cells_at) (drop cells_at w)),
          length-take cells_at w,
          length-drop (length w - cells_at) (drop cells_at w),
          length-drop cells_at w,
        )

    -- what adding the job asks
    pub plan_adding :
        (cells_at ≤ length (words_with w t)) × (word_in (words_with w t) count_at < most_jobs) × (all_marked (word_in (words_with w t)) ≡ true)
    plan_adding =
        let count = with_word_lem w p.size t count_at (omega arith) in
        (omega (arith, length_with), omega (arith, plan_asks.2, count), marks_kept w p.is_sound p.size t)

    -- x with the job
    module _ (x : List ℕ)
        (ex : x
        ≡ fronted (words_with w t) (word_in (words_with w t) clock_at)
        (jobs_from (jobs_of (held_jobs (word_in (words_with w t))) ++ (new_job m o.batch o.due ∷ []))))
      where
        added : x ≡ fronted (words_with w t) (word_in w clock_at) jobs_then
        added =
            let new_is : new_job m o.batch o.due ≡ job_from o = ap (λ (k : ℕ). new_job k o.batch o.due) p.new in
            subst (λ (j : Job). x ≡ fronted (words_with w t) (word_in w clock_at) (jobs_from (jobs_of (held_jobs (word_in w)) ++ (j ∷ [])))) new_is
            (fronted_kept w p.is_sound p.size t (λ (js : List Job). js ++ (new_job m o.batch o.due ∷ [])) x ex)

        long : length x ≡ board_size
        long = length_fronted w p.is_sound p.size t (word_in w clock_at) jobs_then x added length_with

        -- what tidying the lines asks
        pub plan_few : (k : ℕ) → (get_or (lines_read (word_in x)) k no_line).count ≤ most_uses
        plan_few = few_after w p.is_sound p.size t (word_in w clock_at) jobs_then x added

        -- y with the lines tidied
        module _ (y : List ℕ) (ey : y ≡ overwritten x lines_at (lines_words (lines_from (lines_of (lines_read (word_in x)))))) where
          tidy : (lines_in y ≡ lines_in w) × Ready (lines_read (word_in y))
          tidy = tidied_lines w p.is_sound x y (omega (arith, long)) (lines_kept w p.is_sound p.size t (word_in w clock_at) jobs_then x added) ey

          -- what putting in the uses asks
          pub plan_allocations :
              (cells_at ≤ length y) × Ready (lines_read (word_in y)) × AllFit n (lines_in y) o.allocations
          unfolding live_count
          plan_allocations = (
            omega (arith, long, ap length ey ∙ overwritten_length x lines_at (lines_words (lines_from (lines_of (lines_read (word_in x)))))),
            tidy.1,
            subst (λ (k : ℕ). AllFit k (lines_in y) o.allocations) (sym p.live)
                (subst (λ (ls : List (List Use)). AllFit (live_count (state_of (board_in w))) ls o.allocations) (sym tidy.0) g.fits),
          )

          -- and the words with them
          pub plan_joins :
              (ok : Bool) → ok ≡ true → outcome ok t ≡ added_all (rules_of r) (n + m) (grown (lent_table w) n m top) → (z : List ℕ)
              → z ≡ overwritten y lines_at (lines_words (lines_from (all_with n (lines_in y) o.allocations)))
              → (Accepted ≡ answer.ruling) × (z ≡ words_after w answer)
          unfolding live_count
          plan_joins ok holds eo z ez =
              let old = lines_from (lines_of (lines_read (word_in x))) in
              let lines = lines_from (all_with n (lines_in y) o.allocations) in
              let as_drafted = ap₂ (λ (k : ℕ) (ls : List (List Use)). lines_from (all_with k ls o.allocations)) p.live tidy.0 in
              answered w z answer _ (joined g n m p.live p.new ok t (on_board ok t eo) jobs_then lines holds refl as_drafted)
              (assembled w p.is_sound p.size t (word_in w clock_at) jobs_then x added length_with lines z
              (ez
              ∙ ap (λ (v : List ℕ). overwritten v lines_at (lines_words lines)) ey
              ∙ overwritten_again x lines_at (lines_words old) (lines_words lines) (length_lines old ∙ sym (length_lines lines))
              (omega (arith, long, length_lines lines))))
