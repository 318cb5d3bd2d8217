-- Laws of lines.
--   line_back            a list laid into a Line is read back;  line_same: a tidied Line holds what it held
--   tidied, tidied_all   each line tidied
--   length_inserted      a use put in makes the line longer by one
use Prim.Native.Nat.{ℕ, zero, suc, ◌≤◌}
use mathlib.Core.Path.{◌≡◌, refl, ◌∙◌, ap}
use mathlib.Core.List.{List, [], ◌∷◌, map}
use lib.ListN.{length, length-take}
use native.Mathlib.Omega.{arith}
use Rattle.spec_plain.specs.Limits.{most_uses}
use Rattle.spec_plain.specs.Plain.{no_use, inserted}
use Rattle.part_lines.specs.ArrayLists.{line_of, line_from, lines_of, lines_from}
use Rattle.spec_plain.specs.declared.Use.{Use}
use Rattle.part_lines.specs.declared.Line.{Line}
use Rattle.part_lines.proofs.Padded.{take_padded}

pub line_back : (us : List Use) → length us ≤ most_uses → line_of (line_from us) ≡ us
line_back us h = take_padded most_uses no_use us h

pub line_same : (q next : Line) → next ≡ line_from (line_of q) → q.count ≤ most_uses → line_of next ≡ line_of q
line_same q next e h = ap line_of e ∙ line_back (line_of q) (omega (arith, length-take q.count q.uses))

abbrev pub tidied : Line → Line
tidied q = line_from (line_of q)

pub tidied_all : (ls : List Line) → map tidied ls ≡ lines_from (lines_of ls)
tidied_all [] = refl
tidied_all (q ∷ ls) = ap (◌∷◌ (tidied q)) (tidied_all ls)

pub length_inserted : (p : ℕ) (u : Use) (l : List Use) → length (inserted p u l) ≡ suc (length l)
unfolding inserted
length_inserted zero u l = refl
length_inserted (suc p) u [] = refl
length_inserted (suc p) u (b ∷ l) = ap suc (length_inserted p u l)
