-- Laws of the clock's call. Assumes nothing.
--   starts_usable    the clock's rules name live points, and their numbers keep sums within 32 bits
--   rules_are, rules_few, rules_usable   the rules that the code collects, on a sound board with a clock in range
--   unsound, back, past, none_left, moved   the answer, case by case
--   Collected             the rules that the code collects, in words
--   start_fits, start_words, clocked_words   the same in words, and the words after the call
use Prim.Native.Nat.{ℕ, suc, ◌+◌, ◌≤◌, ◌<◌}
use native.Mathlib.Omega.{arith}
use mathlib.Core.Path.{◌≡◌, refl, sym, ap, ap₂, subst, ◌∙◌}
use mathlib.Core.Bool.{Bool, true, false, cond}
use mathlib.Core.List.{List, [], ◌∷◌, ◌++◌}
use lib.ListN.{length, length-take}
use borrow.Author.Tests.{le-leb, lt-leb}
use Rattle.base_rulings.specs.declared.Ruling.TheVariants.{Accepted, Refused}
use Rattle.base_rulings.specs.Answer.{plain}
use Rattle.spec_plain.specs.declared.Settings.{Settings}
use Rattle.spec_plain.specs.declared.Job.{Job}
use Rattle.part_lines.specs.declared.Jobs.{Jobs}
use Rattle.part_lines.specs.declared.Line.{Line}
use Rattle.spec_plain.specs.declared.Rule.{Rule}
use Rattle.part_lines.specs.declared.rulelist.Rules.{Rules}
use Rattle.spec_plain.specs.Plain
use Rattle.spec_plain.specs.Plain.{total, not_before, starts}
use Rattle.part_lines.specs.ArrayLists.{jobs_of, jobs_from, lines_of, lines_from, rules_of, rules_from, most_rules}
use Rattle.part_gaps.specs.Cells.{Usable}
use Rattle.part_boardwords.specs.Board.{Board, board_with}
use Rattle.part_boardwords.specs.Layout.{lead_at, clock_at, lines_at, board_size}
use Rattle.part_lines.proofs.RuleLaws.{rules_back}
use Rattle.call_board.specs.Boards.{state_of}
use Rattle.base_lists.specs.All.{All}
use Rattle.part_sound.specs.Sound.{SizedJob, Sound, sound}
use Rattle.part_settling.specs.Settled.{AllUsable, added_all, outcome}
use Rattle.part_boardwords.specs.Words.{word_in, settings_read, held_jobs, board_in, lines_read}
use Rattle.part_boardwords.specs.Codec.{lines_words, overwritten}
use Rattle.part_boardwords.proofs.Lent.{lent_table, words_with, cells_lent, unwritten}
use Rattle.call_board.specs.Calls.{refusal, settled, clocked}
use Rattle.call_board.specs.InWords.{words_after}
use Rattle.part_jobwords.specs.Fronted.{fronted}
use Rattle.call_board.proofs.InWords.{is_sound, lines_kept, assembled, answered, unanswered}

-- ---- the rules

not_before_usable : (n x p : ℕ) → x < n → p ≤ 102000000 → Usable n (not_before x p)
unfolding not_before
not_before_usable n x p h b = record { early_live = omega arith; late_live = h; few_more = b; few_slack = omega arith }

pub starts_usable :
    (H n p : ℕ) (js : List Job) (x : ℕ) → All (SizedJob H) js → 0 < x → x + total js ≤ n → p ≤ 102000000 → AllUsable n (starts p x js)
unfolding starts total
starts_usable H n p [] x a h l b = tt
starts_usable H n p (j ∷ js) x a h l b =
    let two = a.0.least in
    go j.sent (not_before_usable n x p (omega (arith, two)) b) (starts_usable H n p js (x + j.points) a.1 (omega arith) (omega arith) b)
  where
    go :
        (s : Bool) → Usable n (not_before x p) → AllUsable n (starts p (x + j.points) js)
        → AllUsable n (cond s [] (not_before x p ∷ []) ++ starts p (x + j.points) js)
    go true here rest = rest
    go false here rest = (here, rest)

few_starts : (p : ℕ) (js : List Job) (x : ℕ) → length (starts p x js) ≤ length js
unfolding starts
few_starts p [] x = omega arith
few_starts p (j ∷ js) x = go j.sent (few_starts p js (x + j.points))
  where
    go :
        (s : Bool) → length (starts p (x + j.points) js) ≤ length js
        → length (cond s [] (not_before x p ∷ []) ++ starts p (x + j.points) js) ≤ suc (length js)
    go true h = omega arith
    go false h = omega arith

-- ---- on a sound board

module _ (b : Board) (s : Sound b) where
  module _ (c : ℕ) (within : c ≤ b.settings.horizon) (rules : Rules) (er : rules ≡ rules_from (starts (c + b.settings.lead) 1 (jobs_of b.jobs))) where
    few : length (starts (c + b.settings.lead) 1 (jobs_of b.jobs)) ≤ 16
    few =
        let h = few_starts (c + b.settings.lead) (jobs_of b.jobs) 1 in
        let n = length_jobs in
        let k = s.jobs in
        omega (arith, h, n, k)
      where
        length_jobs : length (jobs_of b.jobs) ≤ b.jobs.count
        length_jobs = omega (arith, length-take b.jobs.count b.jobs.jobs)

    pub rules_are : rules_of rules ≡ starts (c + b.settings.lead) 1 (jobs_of b.jobs)
    rules_are = rules_back _ _ er (let f = few in omega (arith, f))

    pub rules_few : rules.count ≤ most_rules
    rules_few = let e = ap (λ (x : Rules). x.count) er in let f = few in omega (arith, e, f)

    pub rules_usable : AllUsable (suc (total (jobs_of b.jobs))) (rules_of rules)
    rules_usable =
        let h = s.horizon.1 in
        let d = s.lead in
        subst (AllUsable _) (sym rules_are)
        (starts_usable b.settings.horizon _ (c + b.settings.lead) (jobs_of b.jobs) 1 s.sizes (omega arith) (omega arith) (omega (arith, h, d)))

-- ---- the answer

module _ (b : Board) (c : ℕ) where
  pub unsound : sound b ≡ false → refusal b 6 ≡ clocked b c
  unfolding clocked
  unsound e = rw e

  module _ (e : sound b ≡ true) where
    pub back : c < b.clock → refusal b 19 ≡ clocked b c
    unfolding clocked Plain.clock_ok
    back h = rw (e, lt-leb _ _ h)

    pub past : b.clock ≤ c → b.settings.horizon < c → refusal b 19 ≡ clocked b c
    unfolding clocked Plain.clock_ok
    past h l = rw (e, le-leb _ _ h, lt-leb _ _ l)

    module _
        (later : b.clock ≤ c) (within : c ≤ b.settings.horizon) (rs : List Rule) (n : ℕ) (ok : Bool) (cells : List ℕ)
        (er : rs ≡ starts (c + b.settings.lead) 1 (jobs_of b.jobs)) (en : n ≡ suc (total (jobs_of b.jobs)))
        (eo : outcome ok cells ≡ added_all rs n b.gaps)
      where
        tried : settled b 20 (Plain.clock_state (state_of b) c) (outcome ok cells) ≡ clocked b c
        unfolding clocked Plain.clock_ok Plain.live_count
        tried =
            ap (settled b 20 (Plain.clock_state (state_of b) c)) (eo ∙ ap₂ (λ (x : List Rule) (m : ℕ). added_all x m b.gaps) er en)
            ∙ sym (rw (e, le-leb _ _ later, le-leb _ _ within))

        pub none_left : ok ≡ false → refusal b 20 ≡ clocked b c
        unfolding settled outcome
        none_left f = subst (λ (x : Bool). settled b 20 (Plain.clock_state (state_of b) c) (outcome x cells) ≡ clocked b c) f tried

        pub moved :
            (jobs : Jobs) (lines : List Line) → ok ≡ true → jobs ≡ jobs_from (jobs_of b.jobs) → lines ≡ lines_from (lines_of b.lines)
            → record { ruling = Accepted; board = board_with b c jobs lines cells } ≡ clocked b c
        unfolding settled outcome Plain.clock_state
        moved jobs lines t ej el =
            ap₂ (λ (x : Jobs) (y : List Line). record { ruling = Accepted; board = board_with b c x y cells }) ej el
            ∙ subst (λ (x : Bool). settled b 20 (Plain.clock_state (state_of b) c) (outcome x cells) ≡ clocked b c) t tried

-- ---- in words

-- the rules of the clock c for the jobs of the words w, with these settings
abbrev Collected : List ℕ → ℕ → Rules → Settings → Type 0
Collected w c rules g = rules ≡ rules_from (starts (c + g.lead) 1 (jobs_of (held_jobs (word_in w))))

module _
    (w : List ℕ) (len : length w ≡ board_size) (e : sound (board_in w) ≡ true) (g : Settings) (eg : g ≡ settings_read (word_in w)) (c : ℕ)
    (later : word_in w clock_at ≤ c) (within : c ≤ g.horizon)
  where
    by_horizon : c ≤ (board_in w).settings.horizon
    by_horizon = omega (arith, ap (λ (x : Settings). x.horizon) eg)

    pub start_fits : c + g.lead ≤ 101000000
    start_fits = let s = is_sound w e in omega (arith, ap (λ (x : Settings). x.lead) eg, by_horizon, s.horizon.1, s.lead)

    -- the same with the settings that the words hold
    collected : (rules : Rules) → Collected w c rules g → Collected w c rules (settings_read (word_in w))
    collected rules er = subst (Collected w c rules) eg er

    pub start_words :
        (rules : Rules) → Collected w c rules g
        → (rules.count ≤ most_rules) × ((n : ℕ) (rs : List Rule) → n ≡ suc (total (jobs_of (held_jobs (word_in w)))) → rs ≡ rules_of rules → AllUsable n rs)
    start_words rules er =
        let b = board_in w in
        let made = collected rules er in (
          rules_few b (is_sound w e) c by_horizon rules made,
          λ n rs en es. rw (en, es) (rules_usable b (is_sound w e) c by_horizon rules made),
        )

    -- the words after a clock that leaves no timetable, and those after one that does
    pub clocked_words :
        (rules : Rules) (rs : List Rule) (n : ℕ) (ok : Bool) (t : List ℕ) → Collected w c rules g → rs ≡ rules_of rules
        → n ≡ suc (total (jobs_of (held_jobs (word_in w)))) → outcome ok t ≡ added_all rs n (lent_table w)
        → (ok ≡ false → t ≡ lent_table w → (Refused (plain 20) ≡ (clocked (board_in w) c).ruling) × (words_with w t ≡ words_after w (clocked (board_in w) c)))
        × ((x z : List ℕ) → ok ≡ true → length (words_with w t) ≡ board_size → x ≡ fronted (words_with w t) c (jobs_from (jobs_of (held_jobs (word_in w))))
        → z ≡ overwritten x lines_at (lines_words (lines_from (lines_of (lines_read (word_in x)))))
        → (Accepted ≡ (clocked (board_in w) c).ruling) × (z ≡ words_after w (clocked (board_in w) c)))
    clocked_words rules rs n ok t er es en eo = (
      (λ no same. let r = unanswered w (clocked b c) b (plain 20) (none_left b c e later by_horizon rs n ok t are en tried no) in
          (r.0, unwritten w len t same ∙ r.1)),
      (λ x z yes size ex ez.
          let new = jobs_from (jobs_of (held_jobs (word_in w))) in
          answered w z (clocked b c) _ (moved b c e later by_horizon rs n ok t are en tried new (lines_from (lines_of b.lines)) yes refl refl)
          (assembled w e len t c new x ex size (lines_from (lines_of b.lines)) z
          (ez ∙ ap (λ (ls : List Line). overwritten x lines_at (lines_words (lines_from (lines_of ls)))) (lines_kept w e len t c new x ex)))),
    )
      where
        b : Board
        b = board_in w

        are : rs ≡ starts (c + word_in w lead_at) 1 (jobs_of (board_in w).jobs)
        are = es ∙ rules_are (board_in w) (is_sound w e) c by_horizon rules (collected rules er)

        tried : outcome ok t ≡ added_all rs n (board_in w).gaps
        tried = eo ∙ ap (added_all rs n) (cells_lent w len)
