-- Laws of writing over a list.
--   overwritten_length     the length stays
--   overwritten_append     two lists written one behind the other
--   overwritten_put        a part of a list that was copied from another list
--   overwritten_none, overwritten_turn   a loop's start, and its turn: the words of element k behind those before it;  overwritten_line_turn: of lines
--   overwritten_below, overwritten_from   a word outside of what is written stays
--   overwritten_front      the front part of a list written over
--   length_line, length_jobs, length_lines, length_frame, length_words   how many words a line, all jobs, all lines, a frame and a board have
--   overwritten_frame      a frame's parts written one behind the other
use Prim.Native.Nat.{ℕ, zero, suc, ◌+◌, ◌*◌, ◌<◌, ◌≤◌}
use mathlib.Core.Path.{◌≡◌, refl, sym, ◌∙◌, ap}
use mathlib.Core.List.{List, [], ◌∷◌, ◌++◌, append-nil, append_assoc}
use lib.ListN.{length, get_or, set, take, drop, length-set, length-append}
use lib.Seq.{take_all, set-append_left, get_or-set_other}
use native.Mathlib.Numerals.{add-one}
use native.Mathlib.Omega.{arith}
use borrow.Rule.Slice.PartMut.{put_mid}
use Rattle.std.proofs.lemmas.List.Edits.{sets, sets-eq, paste_all}
use Rattle.std.proofs.lemmas.Slice.{put_mid-paste}
use Rattle.base_lists.proofs.Build.{build_length}
use Rattle.spec_plain.specs.declared.Job.{Job}
use Rattle.part_lines.specs.declared.Line.{Line}
use Rattle.part_lines.specs.ArrayLists.{no_job, no_line}
use Rattle.spec_plain.specs.Plain.{no_use}
use Rattle.part_boardwords.specs.Board.{Board}
use Rattle.part_boardwords.specs.Layout.{job_size, use_size, line_size, jobs_size, lines_size, jobs_at, lines_at, cells_at, board_size}
use Rattle.part_boardwords.specs.Codec.{joined, overwritten, job_words, use_words, line_words, head_words, jobs_words, lines_words, cells_words, frame_words}
use Rattle.part_boardwords.specs.Codec.{words_of}
use Rattle.part_boardwords.proofs.Blocks.{length_joined}

pub overwritten_length : (w : List ℕ) (at : ℕ) (l : List ℕ) → length (overwritten w at l) ≡ length w
unfolding overwritten
overwritten_length w at [] = refl
overwritten_length w at (x ∷ l) = overwritten_length (set w at x) (suc at) l ∙ length-set w at x

pub overwritten_append : (w : List ℕ) (at : ℕ) (l m : List ℕ) (to : ℕ) → to ≡ at + length l → overwritten w at (l ++ m) ≡ overwritten (overwritten w at l) to m
unfolding overwritten
overwritten_append w at [] m to e = ap (λ (i : ℕ). overwritten w i m) (omega arith)
overwritten_append w at (x ∷ l) m to e = overwritten_append (set w at x) (suc at) l m to (omega arith)

overwritten_sets : (w : List ℕ) (at : ℕ) (l : List ℕ) → overwritten w at l ≡ sets w at l
unfolding overwritten
overwritten_sets w at [] = refl
overwritten_sets w at (x ∷ l) = overwritten_sets (set w at x) (suc at) l

pub overwritten_put :
    (w : List ℕ) (at n : ℕ) (l m : List ℕ) → m ≡ l → n ≡ length l → at + length l ≤ length w → put_mid at n w m ≡ overwritten w at l
overwritten_put w at n l m is long room =
    put_mid-paste at n w m l (length l) is (sym long) refl
    ∙ paste_all w at l (length l) refl
    ∙ sym (append_assoc (take at w) l (drop (at + length l) w))
    ∙ sym (sets-eq l w at room)
    ∙ sym (overwritten_sets w at l)

pub length_line : (l : Line) → length (line_words l) ≡ line_size
length_line l = ap suc (length_joined (λ k. use_words (get_or l.uses k no_use)) use_size 32 (λ k. refl))

pub overwritten_none : (f : ℕ → List ℕ) (w : List ℕ) (at : ℕ) → w ≡ overwritten w at (joined f 0)
unfolding joined overwritten
overwritten_none f w at = refl

pub overwritten_turn :
    (f : ℕ → List ℕ) (s : ℕ) → ((k : ℕ) → length (f k) ≡ s)
    → (w₀ : List ℕ) (at k to : ℕ) (w x : List ℕ) → w ≡ overwritten w₀ at (joined f k) → to ≡ at + s * k → x ≡ overwritten w to (f k)
    → x ≡ overwritten w₀ at (joined f (k + 1))
unfolding joined
overwritten_turn f s e w₀ at k to w x is place new =
    rw (add-one k)
    (new ∙ ap (λ (l : List ℕ). overwritten l to (f k)) is
    ∙ sym (overwritten_append w₀ at (joined f k) (f k) to (place ∙ ap (λ (i : ℕ). at + i) (sym (length_joined f s k e)))))

pub overwritten_line_turn :
    (ls : List Line) (w₀ : List ℕ) (at k : ℕ) (w x : List ℕ) → w ≡ overwritten w₀ at (joined (λ i. line_words (get_or ls i no_line)) k)
    → x ≡ overwritten w (at + line_size * k) (line_words (get_or ls k no_line)) → x ≡ overwritten w₀ at (joined (λ i. line_words (get_or ls i no_line)) (k + 1))
overwritten_line_turn ls w₀ at k w x is new =
    overwritten_turn (λ i. line_words (get_or ls i no_line)) line_size (λ i. length_line (get_or ls i no_line)) w₀ at k (at + line_size * k) w x is refl new

-- a word before those that are written, or behind them, stays
pub overwritten_below : (w : List ℕ) (at : ℕ) (l : List ℕ) (k : ℕ) → k < at → get_or (overwritten w at l) k 0 ≡ get_or w k 0
unfolding overwritten
overwritten_below w at [] k h = refl
overwritten_below w at (x ∷ l) k h = overwritten_below (set w at x) (suc at) l k (omega arith) ∙ get_or-set_other w at k x 0 (λ e. absurd (omega arith))

pub overwritten_from : (w : List ℕ) (at : ℕ) (l : List ℕ) (k : ℕ) → at + length l ≤ k → get_or (overwritten w at l) k 0 ≡ get_or w k 0
unfolding overwritten
overwritten_from w at [] k h = refl
overwritten_from w at (x ∷ l) k h = overwritten_from (set w at x) (suc at) l k (omega arith) ∙ get_or-set_other w at k x 0 (λ e. absurd (omega arith))

-- the words before `at` stay
take_set : (w : List ℕ) (at x : ℕ) → at < length w → take (suc at) (set w at x) ≡ take at w ++ (x ∷ [])
take_set [] at x h = absurd (omega arith)
take_set (y ∷ w) zero x h = refl
take_set (y ∷ w) (suc at) x h = ap (◌∷◌ y) (take_set w at x (omega arith))

overwritten_rest : (w : List ℕ) (at : ℕ) (l : List ℕ) → length w ≡ at + length l → overwritten w at l ≡ take at w ++ l
unfolding overwritten
overwritten_rest w at [] e = sym (append-nil (take at w) ∙ take_all at w (omega arith))
overwritten_rest w at (x ∷ l) e =
    overwritten_rest (set w at x) (suc at) l (omega (arith, length-set w at x))
    ∙ ap (λ (h : List ℕ). h ++ l) (take_set w at x (omega arith))
    ∙ append_assoc (take at w) (x ∷ []) l

overwritten_whole : (w l : List ℕ) → length w ≡ length l → overwritten w 0 l ≡ l
overwritten_whole w l e = overwritten_rest w 0 l (omega arith)

-- a list that is written over the front part of another
overwritten_inside : (w v : List ℕ) (at : ℕ) (l : List ℕ) → at + length l ≤ length w → overwritten (w ++ v) at l ≡ overwritten w at l ++ v
unfolding overwritten
overwritten_inside w v at [] h = refl
overwritten_inside w v at (x ∷ l) h =
    ap (λ (u : List ℕ). overwritten u (suc at) l) (set-append_left w v at x (omega arith))
    ∙ overwritten_inside (set w at x) v (suc at) l (omega (arith, length-set w at x))

pub overwritten_front : (w v l : List ℕ) → length w ≡ length l → overwritten (w ++ v) 0 l ≡ l ++ v
overwritten_front w v l e = overwritten_inside w v 0 l (omega arith) ∙ ap (λ (u : List ℕ). u ++ v) (overwritten_whole w l e)

-- ---- frames and boards

pub length_jobs : (js : List Job) → length (jobs_words js) ≡ jobs_size
length_jobs js = length_joined (λ k. job_words (get_or js k no_job)) job_size 16 (λ k. refl)

pub length_lines : (ls : List Line) → length (lines_words ls) ≡ lines_size
length_lines ls = length_joined (λ k. line_words (get_or ls k no_line)) line_size 16 (λ k. length_line (get_or ls k no_line))

pub length_frame : (b : Board) → length (frame_words b) ≡ cells_at
unfolding frame_words
length_frame b =
    let rest = length-append (jobs_words b.jobs.jobs) (lines_words b.lines) in
    omega (arith, rest, length_jobs b.jobs.jobs, length_lines b.lines)

pub length_words : (b : Board) → length (words_of b) ≡ board_size
unfolding words_of
length_words b =
    length-append (frame_words b) (cells_words b.gaps) ∙ omega (arith, length_frame b, build_length (λ k. get_or b.gaps k 0) 4225)

-- head, jobs and lines written one behind the other
pub overwritten_frame :
    (b : Board) (w x y z : List ℕ) → x ≡ overwritten w 0 (head_words b) → y ≡ overwritten x jobs_at (jobs_words b.jobs.jobs)
    → z ≡ overwritten y lines_at (lines_words b.lines)
    → z ≡ overwritten w 0 (frame_words b)
unfolding frame_words
overwritten_frame b w x y z ex ey ez =
    let J = jobs_words b.jobs.jobs in
    let L = lines_words b.lines in
    let one : overwritten w 0 (head_words b ++ (J ++ L)) ≡ overwritten x jobs_at (J ++ L) = rw ex (overwritten_append w 0 (head_words b) (J ++ L) jobs_at refl) in
    let two : overwritten x jobs_at (J ++ L) ≡ overwritten y lines_at L =
    rw ey (overwritten_append x jobs_at J L lines_at (omega (arith, length_jobs b.jobs.jobs))) in
    sym (one ∙ (two ∙ sym ez))
