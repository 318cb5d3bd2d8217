-- Lists of calls, refused ones included, from any fresh board with settings in range: board and rule book agree (specs/Runs).
--   lists_sound    the board after a list of calls is sound, its arrays of their lengths
--   lists_6        no call of a list gets 6
--   lists_keep     every run of the rule book has the board's rulings, and its book is beside the board after;  lists_exist: there is one
--   fresh_beside   the board that fresh gives is beside the fresh book
--   reached        every run from the fresh book is beside the board after;  represented: which so represents its book
--   agreement      all that specs/Runs says
use mathlib.Core.Path.{◌≡◌, refl, sym, ap₂, ◌∙◌}
use mathlib.Core.Bool.{false}
use mathlib.Core.List.{List, [], ◌∷◌}
use Prim.Native.Nat.{ℕ, ◌<◌}
use native.Mathlib.Omega.{arith}
use lib.ListN.{length-set, length-replicate, replicate}
use Rattle.base_rulings.specs.declared.Ruling.{Ruling}
use Rattle.base_rulings.specs.declared.Ruling.TheVariants.{Accepted}
use Rattle.base_rulings.specs.Answer.{number_of}
use Rattle.spec_plain.specs.Limits.{most_jobs, cell_count}
use Rattle.spec_plain.specs.Plain.{total, live_count}
use Rattle.part_lines.specs.ArrayLists.{no_job}
use Rattle.part_lines.proofs.Padded.{length_padded}
use Rattle.spec_stn.specs.Table.{bias, soonest}
use Rattle.part_gaps.specs.Cells.{cell, table_of}
use Rattle.base_lists.specs.All.{All}
use Rattle.base_lists.proofs.All.{all_map}
use Rattle.spec_rulebook.specs.Book.{Book, Call, fresh, empty_lines, Runs}
use Rattle.part_boardwords.specs.Board.{Board}
use Rattle.part_sound.specs.Sound.{Sound}
use Rattle.spec_plain.specs.declared.Settings.{Settings}
use Rattle.call_board.specs.Boards.{state_of, bad_settings, fresh_cells, fresh_ruled, fresh_board}
use Rattle.call_board.proofs.FreshSound.{fresh_cells_lem, fresh_sound}
use Rattle.theorem_demands.specs.Model as Model
use Rattle.theorem_demands.specs.Beside.{Sim}
use Rattle.theorem_demands.proofs.Step.{fresh_sim}
use Rattle.theorem_demands.proofs.Runs.{book_some}
use Rattle.theorem_demands.proofs.Values.{sim_least, sim_greatest, sim_gap}
use Rattle.theorem_agreement.specs.Abstract.{Shaped, abstract_of}
use Rattle.theorem_agreement.specs.Runs.{started, opened, call_ruled, board_after, rulings, Represents, Agreement}
use Rattle.theorem_agreement.proofs.Keeps.{Answered}
use Rattle.theorem_agreement.proofs.Agreement.{carried, call_sound, call_agrees}
use Rattle.theorem_agreement.proofs.Exact.{sim_same}
use Rattle.theorem_agreement.proofs.Decided.{sound_minimal}
use Rattle.theorem_agreement.proofs.Six.{Not6, call_6}

-- ---- from any sound board

pub lists_sound : (cs : List Call) (b : Board) → Shaped b → Sound b → Shaped (board_after b cs) × Sound (board_after b cs)
unfolding board_after
lists_sound [] b w s = (w, s)
lists_sound (c ∷ cs) b w s =
    let q = call_sound b w s c (call_ruled b c) refl in
    lists_sound cs (call_ruled b c).board q.0 q.1

lists_6 : (cs : List Call) (b : Board) → Shaped b → Sound b → All Not6 (rulings b cs)
unfolding rulings
lists_6 [] b w s = tt
lists_6 (c ∷ cs) b w s =
    let q = call_sound b w s c (call_ruled b c) refl in
    (call_6 b w s c, lists_6 cs (call_ruled b c).board q.0 q.1)

pub lists_keep :
    (cs : List Call) (b : Board) (bk : Book) → Shaped b → Sound b → Sim (abstract_of b) bk → (rs : List Ruling) (k : Book)
    → Runs bk cs rs k → (rs ≡ rulings b cs) × Sim (abstract_of (board_after b cs)) k
unfolding Runs rulings board_after
lists_keep [] b bk w s x rs k p = (p.0, rw p.1 x)
lists_keep (c ∷ cs) b bk w s x rs k p =
    let q = call_sound b w s c (call_ruled b c) refl in
    let one = (call_agrees b w s bk x c (call_ruled b c) refl).keeps p.0 p.1 p.3 in
    let rest = lists_keep cs (call_ruled b c).board p.1 q.0 q.1 one.1 p.2 k p.5 in
    (p.4 ∙ ap₂ ◌∷◌ one.0 rest.0, rest.1)

pub lists_exist :
    (cs : List Call) (b : Board) (bk : Book) → Shaped b → Sound b → Sim (abstract_of b) bk → (k : Book) × Runs bk cs (rulings b cs) k
unfolding Runs rulings
lists_exist [] b bk w s x = (bk, (refl, refl))
lists_exist (c ∷ cs) b bk w s x =
    let q = call_sound b w s c (call_ruled b c) refl in
    let agreed = call_agrees b w s bk x c (call_ruled b c) refl in
    let out = agreed.exists in
    let y = (agreed.keeps (call_ruled b c).ruling out.0 out.1).1 in
    let rest = lists_exist cs (call_ruled b c).board out.0 q.0 q.1 y in
    (rest.0, ((call_ruled b c).ruling, out.0, rulings (call_ruled b c).board cs, out.1, refl, rest.1))

-- ---- from a fresh board

module _ (s : Settings) (good : bad_settings s ≡ false) where
  fresh_shaped : Shaped (fresh_board s)
  unfolding fresh_board fresh empty_lines fresh_cells
  fresh_shaped =
      record { jobs = length_padded most_jobs no_job []; lines = refl; gaps = length-set (replicate cell_count 0) 0 bias ∙ length-replicate {A = ℕ} cell_count 0 }

  -- what fresh answers is the abstract board at the start
  fresh_answered : Answered (fresh_ruled s) (record { ruling = Accepted; board = Model.fresh s })
  unfolding fresh_ruled Model.fresh
  fresh_answered =
      rw good
      (record {
        ruling = refl;
        state = held;
        cells = λ i j hi hj. live i j hi hj;
        shaped = fresh_shaped;
        sound = fresh_sound s good;
      })
    where
      held : state_of (fresh_board s) ≡ (fresh s).state
      held = unfold fresh_board fresh empty_lines in refl

      n : ℕ
      n = live_count (fresh s).state

      live : (i j : ℕ) → i < n → j < n → cell (fresh_board s).gaps i j ≡ bias
      live i j hi hj = unfold fresh_board fresh live_count total in
          let e : j ≡ i = omega arith in
          rw e ((fresh_cells_lem s.horizon).closed.diagonal i hi)

  pub fresh_beside : Sim (abstract_of (started s)) (opened s)
  unfolding fresh_board fresh
  fresh_beside =
      let few = (fresh_sound s good).horizon.1 in
      carried fresh_answered (opened s) (fresh_sim s few)

  -- every run's book is beside the board after the list
  pub reached :
      (cs : List Call) (rs : List Ruling) (k : Book) → Runs (opened s) cs rs k
      → (rs ≡ rulings (started s) cs) × Sim (abstract_of (board_after (started s) cs)) k
  reached cs rs k p = lists_keep cs (started s) (opened s) fresh_answered.shaped fresh_answered.sound fresh_beside rs k p

  -- the board after the list represents every run's book
  pub represented : (cs : List Call) (rs : List Ruling) (k : Book) → Runs (opened s) cs rs k → Represents (board_after (started s) cs) k
  represented cs rs k p =
      let b = board_after (started s) cs in
      let beside = (reached cs rs k p).1 in
      record {
        state = sym beside.state;
        timetables = sim_same b k beside;
        possible = book_some beside;
        gaps = sim_gap beside;
        earliests = sim_least beside;
        latests = sim_greatest beside;
      }

  pub agreement : (cs : List Call) → Agreement s cs
  agreement cs =
      let w = fresh_answered.shaped in
      let sn = fresh_answered.sound in
      let b = board_after (started s) cs in
      let end = lists_sound cs (started s) w sn in
      record {
        same_rulings_lem = λ rs k p. (reached cs rs k p).0;
        exists = lists_exist cs (started s) (opened s) w sn fresh_beside;
        represents = represented cs;
        same_timetables = λ rs qs k j p q u.
            let one = (represented cs rs k p).timetables u in
            let other = (represented cs qs j q).timetables u in
            (λ x. other.0 (one.1 x), λ x. one.0 (other.1 x));
        some = (soonest (table_of b.gaps), (sound_minimal b end.0 end.1).together);
        sound = end.1;
        shaped = end.0;
        never_6 = all_map Not6 (λ r. ¬ (number_of r ≡ 6)) (λ r n. n.no6) (rulings (started s) cs) (lists_6 cs (started s) w sn);
      }
