-- The words of a fresh board, and of the board of a refused fresh. Assumes nothing.
--   zero_words        the words of the zero board are all 0
--   fresh_words_lem       those of a fresh board are its settings, the origin's gap with itself, and 0 everywhere else
--   other_number      words that are not as many as a board has: 6, and they stay
--   refused_words     settings out of range: 5, and the words of the zero board;  accepted_words: those of the fresh board
use Prim.Native.Nat.{ℕ, zero, suc, ◌+◌, ◌<◌}
use mathlib.Core.Path.{◌≡◌, refl, sym, ◌∙◌, ap}
use mathlib.Core.Bool.{true, false, cond}
use mathlib.Core.List.{List}
use native.Mathlib.Omega.{arith}
use native.Mathlib.Decide.{ℕ_discrete, dec_lt}
use lib.Dec.{eqb}
use lib.ListN.{length, get_or, set, replicate, length-set}
use lib.Seq.{get_or-set_same, get_or-set_other}
use borrow.Author.Tests.{eq-eqb, ne_eqb}
use Rattle.base_rulings.specs.declared.Ruling.TheVariants.{Accepted}
use Rattle.base_rulings.specs.Answer.{refuse}
use Rattle.part_lines.specs.Padded.{padded}
use Rattle.spec_stn.specs.Table.{bias}
use Rattle.spec_rulebook.specs.Book.{empty_lines, fresh}
use Rattle.base_lists.specs.Loops.{build, all_below}
use Rattle.base_lists.proofs.Build.{build_same, build_back, build_length, build_at, build_past, build_replicate}
use Rattle.part_boardwords.specs.Layout.{horizon_at, lead_at, cells_at, board_size, mark_at}
use Rattle.part_boardwords.specs.Words.{Words, zeros, all_marked, is_marked, cell_at, cells_read, frame_read, board_read}
use Rattle.part_boardwords.specs.Codec.{words_of}
use Rattle.part_boardwords.proofs.Inverse.{all_read}
use Rattle.spec_plain.specs.Limits.{cell_count}
use Rattle.spec_plain.specs.declared.Settings.{Settings}
use Rattle.part_sound.specs.Sound.{sized_settings}
use Rattle.call_board.specs.Boards.{board_of, bad_settings, fresh_cells, zero_board, fresh_board, fresh_ruled}
use Rattle.call_board.specs.InWords.{fresh_ruling, fresh_words}
use Rattle.call_board.proofs.FreshSound.{fresh_origin, fresh_elsewhere}

-- ---- the zero board

pub zero_words : words_of zero_board ≡ build zeros board_size
unfolding zero_board
zero_words = all_read zeros (λ k h. omega arith)

-- ---- a fresh board

-- word k of a fresh board
unfoldable pub started : Settings → Words
started s k = cond (eqb k horizon_at) s.horizon (cond (eqb k lead_at) s.lead (cond (eqb k cells_at) bias 0))

module _ (s : Settings) where
  pub at_horizon : started s horizon_at ≡ s.horizon
  unfolding started
  at_horizon = refl

  pub at_lead : started s lead_at ≡ s.lead
  unfolding started
  at_lead = refl

  pub at_cells : started s cells_at ≡ bias
  unfolding started
  at_cells = refl

  pub elsewhere : (k : ℕ) → (k ≡ horizon_at → ⊥) → (k ≡ lead_at → ⊥) → (k ≡ cells_at → ⊥) → started s k ≡ 0
  unfolding started
  elsewhere k h l c = rw (ne_eqb k horizon_at h, ne_eqb k lead_at l, ne_eqb k cells_at c)

  fresh_frame : (l : List ℕ) → frame_read (started s) l ≡ board_of (fresh s).state l
  unfolding started fresh empty_lines build padded all_marked all_below is_marked
  fresh_frame l = refl

  cell_started : (k : ℕ) → started s (cells_at + k) ≡ get_or fresh_cells k 0
  cell_started zero = at_cells ∙ sym fresh_origin
  cell_started (suc k) = elsewhere (cells_at + suc k) (λ e. omega arith) (λ e. omega arith) (λ e. omega arith) ∙ sym (fresh_elsewhere (suc k) (omega arith))

  cells_started : cells_read (started s) ≡ fresh_cells
  unfolding fresh_cells
  cells_started =
      build_same (cell_at (started s)) (λ k. get_or fresh_cells k 0) cell_count (λ k h. cell_started k)
      ∙ build_back fresh_cells cell_count 0 (length-set (replicate cell_count 0) 0 bias)

  fresh_read : board_read (started s) ≡ fresh_board s
  unfolding fresh_board
  fresh_read = fresh_frame (cells_read (started s)) ∙ ap (board_of (fresh s).state) cells_started

  pub fresh_words_lem : words_of (fresh_board s) ≡ build (started s) board_size
  fresh_words_lem =
      ap words_of (sym fresh_read)
      ∙ all_read (started s) (λ k h. omega (arith, elsewhere (mark_at k) (λ e. omega arith) (λ e. omega arith) (λ e. omega arith)))

-- ---- fresh, case by case

module _ (s : Settings) (w : List ℕ) where
  pub other_number : (length w ≡ board_size → ⊥) → (refuse 6 ≡ fresh_ruling s w) × (w ≡ fresh_words s w)
  unfolding fresh_ruling fresh_words
  other_number h = let e = ne_eqb (length w) board_size h in (rw e, rw e)

  -- all words cleared
  module _ (x : List ℕ) (size : length w ≡ board_size) (cleared : x ≡ replicate (length w) 0) where
    all_zero : x ≡ build zeros board_size
    all_zero = cleared ∙ ap (λ (n : ℕ). replicate n 0) size ∙ build_replicate board_size 0

    pub refused_words : sized_settings s ≡ false → (refuse 5 ≡ fresh_ruling s w) × (x ≡ fresh_words s w)
    unfolding fresh_ruling fresh_words fresh_ruled bad_settings
    refused_words bad = let e = eq-eqb (length w) board_size size in (rw (e, bad), rw (e, bad) (all_zero ∙ sym zero_words))

    -- the list that is left where the settings and the origin's gap are stored
    abbrev headed : List ℕ
    headed = set (set x horizon_at s.horizon) lead_at s.lead

    abbrev stored : List ℕ
    stored = set headed cells_at bias

    zero_at : (k : ℕ) → get_or x k 0 ≡ 0
    zero_at k = ap (λ (l : List ℕ). get_or l k 0) all_zero ∙ go (dec_lt k board_size)
      where
        go : Dec (k < board_size) → get_or (build zeros board_size) k 0 ≡ 0
        go (yes h) = build_at zeros board_size k 0 h
        go (no h) = build_past zeros board_size k 0 (omega arith)

    long : length x ≡ board_size
    long = ap length all_zero ∙ build_length zeros board_size

    stored_at : (k : ℕ) → Dec (k ≡ horizon_at) → Dec (k ≡ lead_at) → Dec (k ≡ cells_at) → get_or stored k 0 ≡ started s k
    stored_at k h l (yes e) =
        ap (λ (i : ℕ). get_or stored i 0) e
        ∙ get_or-set_same headed cells_at bias 0
        (omega (arith, long, length-set (set x horizon_at s.horizon) lead_at s.lead, length-set x horizon_at s.horizon))
        ∙ sym (ap (started s) e ∙ at_cells s)
    stored_at k h (yes e) (no c) =
        get_or-set_other headed cells_at k bias 0 c
        ∙ ap (λ (i : ℕ). get_or headed i 0) e
        ∙ get_or-set_same (set x horizon_at s.horizon) lead_at s.lead 0 (omega (arith, long, length-set x horizon_at s.horizon))
        ∙ sym (ap (started s) e ∙ at_lead s)
    stored_at k (yes e) (no l) (no c) =
        get_or-set_other headed cells_at k bias 0 c
        ∙ get_or-set_other (set x horizon_at s.horizon) lead_at k s.lead 0 l
        ∙ ap (λ (i : ℕ). get_or (set x horizon_at s.horizon) i 0) e
        ∙ get_or-set_same x horizon_at s.horizon 0 (omega (arith, long))
        ∙ sym (ap (started s) e ∙ at_horizon s)
    stored_at k (no h) (no l) (no c) =
        get_or-set_other headed cells_at k bias 0 c
        ∙ get_or-set_other (set x horizon_at s.horizon) lead_at k s.lead 0 l
        ∙ get_or-set_other x horizon_at k s.horizon 0 h
        ∙ zero_at k
        ∙ sym (elsewhere s k h l c)

    stored_long : length stored ≡ board_size
    stored_long = length-set headed cells_at bias ∙ length-set (set x horizon_at s.horizon) lead_at s.lead ∙ length-set x horizon_at s.horizon ∙ long

    pub accepted_words : sized_settings s ≡ true → (Accepted ≡ fresh_ruling s w) × (stored ≡ fresh_words s w)
    unfolding fresh_ruling fresh_words fresh_ruled bad_settings
    accepted_words good =
        let e = eq-eqb (length w) board_size size in
        let is : stored ≡ build (started s) board_size =
        sym (build_back stored board_size 0 stored_long)
        ∙ build_same (λ k. get_or stored k 0) (started s) board_size (λ k h. stored_at k (ℕ_discrete k horizon_at) (ℕ_discrete k lead_at) (ℕ_discrete k cells_at)) in
        (rw (e, good), rw (e, good) (is ∙ sym (fresh_words_lem s)))
