-- What an accepted call wrote is its board: the words after the call stand for the answer's board, and the next call rules on that.
--   GivenBack w r   the claim, of the answer r to a call on the words w
--   plan_back, send_back, clock_back, retire_back   it holds of each call, for all words and arguments;  fresh_back: the same of fresh
-- A board that words stand for has arrays of their lengths. An accepted answer's board is made of a state and a list of cells (`Made`), it is
-- sound, and its table and lines have their lengths (`call_sound`): so words hold all of it, and reading is the inverse of writing (boardwords).
use Prim.Native.Nat.{ℕ, zero, suc, ◌<◌}
use mathlib.Core.Path.{◌≡◌, refl, sym, ◌∙◌, ap}
use mathlib.Core.Bool.{Bool, true, false, cond, not}
use mathlib.Core.List.{List, [], ◌∷◌}
use mathlib.Core.Option.{Option, some, none}
use native.Mathlib.Omega.{arith}
use lib.Dec.{eqb}
use lib.ListN.{length, get_or, replicate, length-map, length-set, length-replicate}
use Rattle.base_rulings.specs.declared.Cause.{Cause}
use Rattle.base_rulings.specs.declared.Ruling.{Ruling}
use Rattle.base_rulings.specs.declared.Ruling.TheVariants.{Accepted, Refused}
use Rattle.base_rulings.specs.Answer.{plain, refuse}
use Rattle.base_rulings.specs.Order.{if_accepted}
use Rattle.base_rulings.proofs.RulingLaws.{refused_no}
use Rattle.read_plant.specs.Plant.{plant_ruling}
use Rattle.spec_plain.specs.Limits.{most_jobs, resources, most_uses, cell_count}
use Rattle.spec_plain.specs.declared.Use.{Use}
use Rattle.spec_plain.specs.Plain.{State, Draft, Leaving, drafted, leaving, live_count, unsent_at, sent_state, clock_ok, clock_state, no_use}
use Rattle.part_lines.specs.ArrayLists.{no_job, no_line, line_from, lines_from}
use Rattle.part_lines.proofs.Padded.{length_padded}
use Rattle.spec_stn.specs.Table.{bias, entails_all}
use Rattle.part_gaps.specs.Cells.{table_of, dropped}
use Rattle.spec_rulebook.specs.Book.{Call, plan, send, clock, retire, empty_lines, fresh}
use Rattle.spec_rulebook.specs.Reading.{Reading, bad, good, reading_of}
use Rattle.base_lists.proofs.Build.{build_length}
use Rattle.part_boardwords.specs.Board.{Board, Arrays}
use Rattle.part_boardwords.specs.Layout.{board_size}
use Rattle.part_boardwords.specs.Words.{Words, board_in, board_read, lent_board, word_in, zeros, job_at, line_at, cell_at}
use Rattle.part_boardwords.specs.Codec.{words_of}
use Rattle.part_boardwords.proofs.Back.{board_back}
use Rattle.part_boardwords.proofs.Overwritten.{length_words}
use Rattle.part_sound.specs.Sound.{Sound, sound}
use Rattle.part_sound.proofs.Soundness.{sound_to}
use Rattle.part_sound.proofs.InWords.{lent_is}
use Rattle.call_board.specs.Ruled.{Ruled}
use Rattle.spec_plain.specs.declared.Settings.{Settings}
use Rattle.call_board.specs.Boards.{state_of, board_of, bad_settings, fresh_cells, fresh_board, zero_board, fresh_ruled}
use Rattle.call_board.specs.Calls.{refused_with, refusal, accepted, settled, unless_refused, decided, heard, planned, sent, clocked, departed, retired}
use Rattle.call_board.specs.InWords.{words_after, fresh_ruling, fresh_words}
use Rattle.call_board.proofs.FreshSound.{fresh_sound}
use Rattle.theorem_agreement.specs.Abstract.{Shaped}
use Rattle.theorem_agreement.specs.Runs.{call_ruled}
use Rattle.theorem_agreement.proofs.Agreement.{call_sound}

abbrev pub GivenBack : List ℕ → Ruled → Type 0
GivenBack w r = r.ruling ≡ Accepted → lent_board (words_after w r) ≡ r.board

-- ---- boards that are made of a state and cells

abbrev Made : Ruled → Type 0
Made r = r.ruling ≡ Accepted → (s : State) × (l : List ℕ) × (r.board ≡ board_of s l)

made_refused : (b : Board) (c : Cause) → Made (refused_with b c)
made_refused b c e = absurd (refused_no c e)

made_settled : (b : Board) (n : ℕ) (s : State) (o : Option (List ℕ)) → Made (settled b n s o)
unfolding settled
made_settled b n s (some l) e = (s, l, refl)
made_settled b n s none e = made_refused b (plain n) e

made_accepted : (s : State) (l : List ℕ) → Made (accepted s l)
made_accepted s l e = (s, l, refl)

-- one of document 01's checks comes first
made_after : (t : Bool) (b : Board) (n : ℕ) (r : Ruled) → Made r → Made (cond t (refusal b n) r)
made_after true b n r m = made_refused b (plain n)
made_after false b n r m = m

made_decided : (b : Board) (d : Draft) → Made (decided b d)
unfolding decided
made_decided b (Draft.stop c) e = made_refused b c e
made_decided b (Draft.go s m rs) e = made_settled b 17 s _ e

made_heard : (b : Board) (r : Reading) → Made (heard b r)
unfolding heard
made_heard b (bad c) e = made_refused b c e
made_heard b (good o) e = made_decided b (drafted (state_of b) o) e

made_left : (b : Board) (x : Leaving) → Made (departed b x)
unfolding departed
made_left b Leaving.stop = made_refused b (plain 21)
made_left b (Leaving.go m rs s) = go (entails_all (table_of b.gaps) rs)
  where
    l : List ℕ
    l = dropped b.gaps 1 m (live_count (state_of b))

    go : (t : Bool) → Made (cond t (accepted s l) (refusal b 21))
    go true = made_accepted s l
    go false = made_refused b (plain 21)

made_sent : (b : Board) (place : ℕ) → Made (sent b place)
unfolding sent
made_sent b place =
    made_after (not (sound b)) b 6 _ (made_after (not (unsent_at place (state_of b).jobs)) b 18 _ (made_accepted (sent_state (state_of b) place) _))

made_clocked : (b : Board) (c : ℕ) → Made (clocked b c)
unfolding clocked
made_clocked b c =
    made_after (not (sound b)) b 6 _ (made_after (not (clock_ok (state_of b) c)) b 19 _ (made_settled b 20 (clock_state (state_of b) c) _))

made_retired : (b : Board) → Made (retired b)
unfolding retired
made_retired b = made_after (not (sound b)) b 6 _ (made_left b (leaving (state_of b)))

made_planned : (b : Board) (p o : List ℕ) → Made (planned b p o)
unfolding planned unless_refused
made_planned b p o = go (plant_ruling p)
  where
    rest : Ruled
    rest = cond (not (sound b)) (refusal b 6) (heard b (reading_of (state_of b) p o))

    go : (r : Ruling) → Made (unless_refused r b rest)
    go Accepted = made_after (not (sound b)) b 6 (heard b (reading_of (state_of b) p o)) (made_heard b (reading_of (state_of b) p o))
    go (Refused c) = made_refused b c

uses_full : (ls : List (List Use)) (k : ℕ) → k < length ls → length (get_or (lines_from ls) k no_line).uses ≡ most_uses
uses_full [] k h = absurd (omega arith)
uses_full (us ∷ ls) zero h = length_padded most_uses no_use us
uses_full (us ∷ ls) (suc k) h = uses_full ls k (omega arith)

arrays : (d : Board) (s : State) (l : List ℕ) → d ≡ board_of s l → length d.lines ≡ resources → length d.gaps ≡ cell_count → Arrays d
arrays d s l e lines gaps =
    let many : length s.lines ≡ resources = sym (ap (λ (x : Board). length x.lines) e ∙ length-map s.lines line_from) ∙ lines in
    record {
      jobs = ap (λ (x : Board). length x.jobs.jobs) e ∙ length_padded most_jobs no_job s.jobs;
      lines = lines;
      uses = λ k h. ap (λ (x : Board). length (get_or x.lines k no_line).uses) e ∙ uses_full s.lines k (omega (arith, many));
      gaps = gaps;
    }

fresh_arrays : (s : Settings) → Arrays (fresh_board s)
unfolding fresh_board fresh empty_lines fresh_cells
fresh_arrays s =
    arrays (fresh_board s) (fresh s).state fresh_cells refl refl
    (length-set (replicate cell_count 0) 0 bias ∙ length-replicate {A = ℕ} cell_count 0)

-- ---- accepted calls

-- an accepted answer comes from a sound board
sound_first : (b : Board) (r : Ruled) → (cond (not (sound b)) (refusal b 6) r).ruling ≡ Accepted → sound b ≡ true
sound_first b r = go (sound b)
  where
    go : (t : Bool) → (cond (not t) (refusal b 6) r).ruling ≡ Accepted → t ≡ true
    go true e = refl
    go false e = absurd (refused_no (plain 6) e)

planned_sound : (b : Board) (p o : List ℕ) → (planned b p o).ruling ≡ Accepted → sound b ≡ true
unfolding planned unless_refused
planned_sound b p o = go (plant_ruling p)
  where
    rest : Ruled
    rest = cond (not (sound b)) (refusal b 6) (heard b (reading_of (state_of b) p o))

    go : (r : Ruling) → (unless_refused r b rest).ruling ≡ Accepted → sound b ≡ true
    go Accepted e = sound_first b (heard b (reading_of (state_of b) p o)) e
    go (Refused c) e = absurd (refused_no c e)

read_shaped : (w : Words) → Shaped (board_read w)
read_shaped w = record { jobs = build_length (job_at w) most_jobs; lines = build_length (line_at w) resources; gaps = build_length (cell_at w) cell_count }

-- the words of a sound board stand for it
words_stand : (b : Board) → Arrays b → Sound b → lent_board (words_of b) ≡ b
words_stand b holds is = lent_is (words_of b) (length_words b) ∙ board_back b holds is.marked

module _ (w : List ℕ) where
  shaped : Shaped (lent_board w)
  unfolding lent_board
  shaped = go (eqb (length w) board_size)
    where
      go : (t : Bool) → Shaped (cond t (board_in w) (board_read zeros))
      go true = read_shaped (word_in w)
      go false = read_shaped zeros

  call_stands :
      (call : Call) (r : Ruled) → r ≡ call_ruled (lent_board w) call → sound (lent_board w) ≡ true → Made r → r.ruling ≡ Accepted
      → lent_board (words_of r.board) ≡ r.board
  call_stands call r is passes made e =
      let q = call_sound (lent_board w) shaped (sound_to (lent_board w) shaped.lines passes) call r is in
      let m = made e in
      words_stand r.board (arrays r.board m.0 m.1 m.2 q.0.lines q.0.gaps) q.1

  back : (r : Ruled) → (r.ruling ≡ Accepted → lent_board (words_of r.board) ≡ r.board) → GivenBack w r
  unfolding words_after
  back r holds e = ap (λ (x : Ruling). lent_board (if_accepted x (words_of r.board) w)) e ∙ holds e

  pub plan_back : (p o : List ℕ) → GivenBack w (planned (lent_board w) p o)
  unfolding call_ruled
  plan_back p o =
      let b = lent_board w in
      back (planned b p o) (λ e. call_stands (plan p o) (planned b p o) refl (planned_sound b p o e) (made_planned b p o) e)

  pub send_back : (place : ℕ) → GivenBack w (sent (lent_board w) place)
  unfolding call_ruled sent
  send_back place =
      let b = lent_board w in
      back (sent b place) (λ e. call_stands (send place) (sent b place) refl (sound_first b _ e) (made_sent b place) e)

  pub clock_back : (c : ℕ) → GivenBack w (clocked (lent_board w) c)
  unfolding call_ruled clocked
  clock_back c =
      let b = lent_board w in
      back (clocked b c) (λ e. call_stands (clock c) (clocked b c) refl (sound_first b _ e) (made_clocked b c) e)

  pub retire_back : GivenBack w (retired (lent_board w))
  unfolding call_ruled retired
  retire_back =
      let b = lent_board w in back (retired b) (λ e. call_stands retire (retired b) refl (sound_first b _ e) (made_retired b) e)

  pub fresh_back : (s : Settings) → fresh_ruling s w ≡ Accepted → lent_board (fresh_words s w) ≡ (fresh_ruled s).board
  unfolding fresh_ruling fresh_words fresh_ruled
  fresh_back s = go (eqb (length w) board_size) (bad_settings s) refl
    where
      ruled : Bool → Ruled
      ruled t = cond t (record { ruling = refuse 5; board = zero_board }) (record { ruling = Accepted; board = fresh_board s })

      go : (t u : Bool) → bad_settings s ≡ u → cond t (ruled u).ruling (refuse 6) ≡ Accepted
          → lent_board (cond t (words_of (ruled u).board) w) ≡ (ruled u).board
      go false u q e = absurd (refused_no (plain 6) e)
      go true true q e = absurd (refused_no (plain 5) e)
      go true false q e = words_stand (fresh_board s) (fresh_arrays s) (fresh_sound s q)
