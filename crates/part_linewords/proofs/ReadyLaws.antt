-- Lines that are Ready.
--   words_tidy     a line of words has 0 in every place not in use;  words_size: it holds as many as its count says
--   stays_ready    lines stay Ready when a use is put into one of them, and which lines are held then
use Prim.Native.Nat.{ℕ, ◌<◌}
use mathlib.Core.Path.{◌≡◌, sym, ◌∙◌, ap, subst}
use mathlib.Core.List.{List, []}
use lib.ListN.{length, get_or, set, length-set, length-map}
use native.Mathlib.Omega.{arith}
use Rattle.spec_plain.specs.Limits.{resources}
use Rattle.spec_plain.specs.declared.Use.{Use}
use Rattle.spec_plain.specs.Plain.{inserted}
use Rattle.part_lines.specs.declared.Line.{Line}
use Rattle.part_lines.specs.ArrayLists.{line_of, line_from, lines_of, lines_from, no_line}
use Rattle.part_lines.specs.Asked.{Short, AllShort, Ready}
use Rattle.part_lines.proofs.Lists.{map_set, map_at, set_all}
use Rattle.part_lines.proofs.LineLaws.{line_back, length_inserted}
use Rattle.part_boardwords.specs.Layout.{line_start}
use Rattle.part_boardwords.specs.Words.{Words, line_at, lines_read}
use Rattle.part_boardwords.proofs.Boards.{line_of_lem, line_held}
use Rattle.part_linewords.specs.Beside.{Tidy}
use Rattle.part_lines.proofs.Inserted.{inserted_short}

module _ (w : Words) (ready : Ready (lines_read w)) (r : ℕ) (h : r < resources) where
  pub words_tidy : Tidy (line_at w r)
  words_tidy =
      sym (line_of_lem w r h)
      ∙ ap (λ (ls : List Line). get_or ls r no_line) ready.tidy
      ∙ map_at line_from (lines_of (lines_read w)) r [] no_line (omega (arith, length-map (lines_read w) line_of, ready.sixteen))
      ∙ ap line_from (line_held w r h)

  pub words_size : length (line_of (line_at w r)) ≡ w (line_start r)
  words_size = sym (ap (λ (q : Line). q.count) words_tidy)

pub stays_ready :
    (lines : List Line) (r p : ℕ) (u : Use) (new : Line) → Ready lines → Short u → length (get_or (lines_of lines) r []) < 32
    → new ≡ line_from (inserted p u (get_or (lines_of lines) r []))
    → (lines_of (set lines r new) ≡ set (lines_of lines) r (inserted p u (get_or (lines_of lines) r []))) × Ready (set lines r new)
stays_ready lines r p u new ready s room e =
    let old : List Use = get_or (lines_of lines) r [] in
    let l : List Use = inserted p u old in
    let back : line_of new ≡ l = ap line_of e ∙ line_back l (omega (arith, length_inserted p u old)) in
    let view : lines_of (set lines r new) ≡ set (lines_of lines) r l = map_set line_of lines r new ∙ ap (set (lines_of lines) r) back in (
      view,
      record {
        sixteen = length-set lines r new ∙ ready.sixteen;
        tidy =
            ap (λ (ls : List Line). set ls r new) ready.tidy
            ∙ ap (set (lines_from (lines_of lines)) r) e
            ∙ sym (map_set line_from (lines_of lines) r l)
            ∙ ap lines_from (sym view);
        short =
            subst (λ (ls : List (List Use)). (i : ℕ) → AllShort (get_or ls i [])) (sym view)
            (set_all AllShort (lines_of lines) r l [] (inserted_short old p u s (ready.short r)) ready.short);
      },
    )
