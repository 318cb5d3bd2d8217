-- Laws of what a draft asks for.
--   within         not 14: there are fewer than 16 jobs, and the points stay within 64
--   tidied_ready   tidied lines hold what they held, and are Ready
use Prim.Native.Nat.{ℕ, suc, ◌+◌, ◌≤◌, ◌<◌}
use mathlib.Core.Path.{◌≡◌, refl, sym, ◌∙◌, ap, subst}
use mathlib.Core.Bool.{Bool, true, false, ◌||◌}
use mathlib.Core.List.{List, [], ◌∷◌}
use lib.Dec.{ltb, leb}
use lib.ListN.{length, get_or, length-map}
use native.Mathlib.Omega.{arith}
use borrow.Author.Tests.{leb-false, ltb-false}
use Rattle.spec_plain.specs.Limits.{most_jobs, most_points, resources, most_uses}
use Rattle.spec_plain.specs.Plain.{State, total, full}
use Rattle.part_lines.specs.ArrayLists.{line_of, line_from, lines_of, lines_from, no_line}
use Rattle.part_lines.specs.Asked.{AllShort, Lined, Ready}
use Rattle.spec_plain.specs.declared.Use.{Use}
use Rattle.part_lines.specs.declared.Line.{Line}
use Rattle.part_lines.proofs.LineLaws.{line_same}

pub within : (s : State) (n : ℕ) → full s n ≡ false → (length s.jobs < most_jobs) × (total s.jobs + n ≤ most_points)
unfolding full
within s n e = by (leb most_jobs (length s.jobs)) (ltb most_points (total s.jobs + n)) refl refl e
  where
    by :
        (many far : Bool) → leb most_jobs (length s.jobs) ≡ many → ltb most_points (total s.jobs + n) ≡ far → (many || far) ≡ false
        → (length s.jobs < most_jobs) × (total s.jobs + n ≤ most_points)
    by true far a b h = let z : ◌≡◌ {A = ℕ} 0 1 = cc in absurd (omega arith)
    by false true a b h = let z : ◌≡◌ {A = ℕ} 0 1 = cc in absurd (omega arith)
    by false false a b h = (leb-false most_jobs (length s.jobs) a, ltb-false most_points (total s.jobs + n) b)

lines_back : (lines : List Line) → ((k : ℕ) → (get_or lines k no_line).count ≤ most_uses) → lines_of (lines_from (lines_of lines)) ≡ lines_of lines
lines_back [] h = refl
lines_back (q ∷ lines) h =
    let back : line_of (line_from (line_of q)) ≡ line_of q = line_same q (line_from (line_of q)) refl (h 0) in
    ap (λ (us : List Use). us ∷ lines_of (lines_from (lines_of lines))) back ∙ ap (◌∷◌ (line_of q)) (lines_back lines (λ k. h (suc k)))

pub tidied_ready :
    (lines t : List Line) → Lined lines → length lines ≡ resources → t ≡ lines_from (lines_of lines) → (lines_of t ≡ lines_of lines) × Ready t
tidied_ready lines t lined n e =
    let view : lines_of t ≡ lines_of lines = ap lines_of e ∙ lines_back lines lined.counts in (
      view,
      record {
        sixteen = ap length e ∙ length-map (lines_of lines) line_from ∙ length-map lines line_of ∙ n;
        tidy = e ∙ ap lines_from (sym view);
        short = subst (λ (ls : List (List Use)). (i : ℕ) → AllShort (get_or ls i [])) (sym view) lined.short;
      },
    )
