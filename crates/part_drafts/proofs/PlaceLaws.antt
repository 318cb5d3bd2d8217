-- Laws of placing.
--   placed_far, placed_full, placed_on   the plain machine: the first allocation is stopped by 15, by 16, or is put in;  stops_far, stops_full: and so
--                        the code's answer
--   Going, goes_on, stops_here, all_placed   all allocations, one after the other
use Rattle.std.proofs.Common.{◌≡◌, ℕ, suc, ◌+◌, ◌-◌, ◌*◌, ◌≤◌, ◌<◌, Bool, true, false, cond, ltb, leb, List, [], ◌∷◌, ◌++◌, length, get_or, set, take, drop, refl, sym, ◌∙◌, ap, subst, add-one}
use Rattle.std.specs.Prelude.{⊤, Result, Ok, Err}
use borrow.Author.Tests.{lt-ltb, le-ltb, le-leb, lt-leb}
use Rattle.base_rulings.specs.Answer.{cause}
use Rattle.base_rulings.specs.declared.Cause.{Cause}
use Rattle.spec_plain.specs.Limits.{most_uses, most_allocations}
use Rattle.spec_plain.specs.Plain.{inserted, rule_before, rule_after, used_from, Placed, placed}
use Rattle.spec_plain.specs.declared.Settings.{Settings}
use Rattle.spec_plain.specs.declared.Use.{Use}
use Rattle.spec_plain.specs.declared.Allocation.{Allocation}
use Rattle.spec_plain.specs.declared.Rule.{Rule}
use Rattle.part_lines.specs.declared.rulelist.Rules.{Rules}
use Rattle.part_lines.specs.ArrayLists.{rules_of, answered}
use Rattle.part_lines.specs.Asked.{Room}
use Rattle.part_lines.specs.Placing.{line_for, lines_with, all_with, AllFit}
use Rattle.part_lines.proofs.Placing.{placed_done, with_more, fits_more}

-- ---- the plain machine's first step

module _ (s : Settings) (x i : ℕ) (p : Allocation) (ps : List Allocation) (ls : List (List Use)) (rs : List Rule) where
  placed_far : length (line_for ls p) < p.place → placed s x i (p ∷ ps) ls rs ≡ Placed.stop (cause 15 i)
  unfolding placed
  placed_far h = rw (lt-ltb (length (line_for ls p)) p.place h)

  placed_full : p.place ≤ length (line_for ls p) → 32 ≤ length (line_for ls p) → placed s x i (p ∷ ps) ls rs ≡ Placed.stop (cause 16 i)
  unfolding placed
  placed_full h full = rw (le-ltb (length (line_for ls p)) p.place h, le-leb most_uses (length (line_for ls p)) full)

  pub placed_on :
      p.place ≤ length (line_for ls p) → length (line_for ls p) < 32
      → placed s x i (p ∷ ps) ls rs
      ≡ placed s x (suc i) ps (lines_with x ls p)
      (rs ++ (rule_before s (line_for ls p) p.place (used_from x p) ++ rule_after s (line_for ls p) p.place (used_from x p)))
  unfolding placed
  placed_on h room = rw (le-ltb (length (line_for ls p)) p.place h, lt-leb most_uses (length (line_for ls p)) room)

  pub stops_far : (ms : List (List Use)) (qs : List Rule) → length (line_for ls p) < p.place → answered (Err (cause 15 i)) ms qs ≡ placed s x i (p ∷ ps) ls rs
  unfolding answered
  stops_far ms qs h = sym (placed_far h)

  pub stops_full :
      (ms : List (List Use)) (qs : List Rule) → p.place ≤ length (line_for ls p) → 32 ≤ length (line_for ls p)
      → answered (Err (cause 16 i)) ms qs ≡ placed s x i (p ∷ ps) ls rs
  unfolding answered
  stops_full ms qs h full = sym (placed_full h full)

-- ---- one allocation after the other

abbrev and_then : Placed → (List (List Use) → List Rule → Placed) → Placed
and_then (Placed.stop c) next = Placed.stop c
and_then (Placed.done ls rs) next = next ls rs

placed_then :
    (s : Settings) (x i : ℕ) (p : Allocation) (ps : List Allocation) (ls : List (List Use)) (rs : List Rule)
    → placed s x i (p ∷ ps) ls rs ≡ and_then (placed s x i (p ∷ []) ls rs) (placed s x (suc i) ps)
unfolding placed
placed_then s x i p ps ls rs =
    let line = get_or ls p.resource [] in
    by (ltb (length line) p.place) (leb most_uses (length line)) (set ls p.resource (inserted p.place (used_from x p) line))
    (rs ++ (rule_before s line p.place (used_from x p) ++ rule_after s line p.place (used_from x p)))
  where
    by :
        (far has32 : Bool) (new : List (List Use)) (more : List Rule)
        → cond far (Placed.stop (cause 15 i)) (cond has32 (Placed.stop (cause 16 i)) (placed s x (suc i) ps new more))
        ≡ and_then (cond far (Placed.stop (cause 15 i)) (cond has32 (Placed.stop (cause 16 i)) (Placed.done new more))) (placed s x (suc i) ps)
    by true has32 new more = refl
    by false true new more = refl
    by false false new more = refl

-- how placing stands after k allocations of ps, none of which was stopped; it began with the lines ls and the rules rs
pub record Going (s : Settings) (x : ℕ) (ps : List Allocation) (ls : List (List Use)) (rs : List Rule) (k : ℕ) (made : Rules) : Type 0 where
  -- the whole run is the rest of the run, from here
  pub runs : placed s x 0 ps ls rs ≡ placed s x k (drop k ps) (all_with x ls (take k ps)) (rules_of made)
  pub fits : AllFit x ls (take k ps)
  -- two rules for each that is left, and two more: for rule (e) and for the due time
  pub room : Room (2 * most_allocations + 2 - (k + k)) made

module _
    {s : Settings} {x k : ℕ} {ps : List Allocation} {ls : List (List Use)} {rs : List Rule} {made : Rules} (G : Going s x ps ls rs k made)
    (p : Allocation) (next : drop k ps ≡ p ∷ drop (k + 1) ps) (front : take (k + 1) ps ≡ take k ps ++ (p ∷ []))
    (i : ℕ) (is : i ≡ k) (out : Result ⊤ Cause) (new : Rules)
    (answer : answered out (lines_with x (all_with x ls (take k ps)) p) (rules_of new) ≡ placed s x i (p ∷ []) (all_with x ls (take k ps)) (rules_of made)) where
  abbrev now : List (List Use)
  now = all_with x ls (take k ps)

  runs_on : placed s x 0 ps ls rs ≡ and_then (answered out (lines_with x now p) (rules_of new)) (placed s x (suc k) (drop (k + 1) ps))
  runs_on =
      G.runs
      ∙ ap (λ (qs : List Allocation). placed s x k qs now (rules_of made)) next
      ∙ placed_then s x k p (drop (k + 1) ps) now (rules_of made)
      ∙ ap (λ (j : ℕ). and_then (placed s x j (p ∷ []) now (rules_of made)) (placed s x (suc k) (drop (k + 1) ps))) (sym is)
      ∙ ap (λ (q : Placed). and_then q (placed s x (suc k) (drop (k + 1) ps))) (sym answer)

  -- the lines then
  lines_on : lines_with x now p ≡ all_with x ls (take (k + 1) ps)
  lines_on = sym (ap (all_with x ls) front ∙ with_more x ls (take k ps) p)

  pub goes_on : out ≡ Ok tt → Room (2 * most_allocations + 2 - (k + 1 + (k + 1))) new → Going s x ps ls rs (k + 1) new
  unfolding answered AllFit
  goes_on e room =
      let done : placed s x i (p ∷ []) now (rules_of made) ≡ Placed.done (lines_with x now p) (rules_of new) =
      sym (ap (λ (o : Result ⊤ Cause). answered o (lines_with x now p) (rules_of new)) (sym e) ∙ answer) in
      let fit = (placed_done s x i (p ∷ []) now (lines_with x now p) (rules_of made) (rules_of new) done).0 in
      record {
        runs =
            runs_on
            ∙ ap (λ (o : Result ⊤ Cause). and_then (answered o (lines_with x now p) (rules_of new)) (placed s x (suc k) (drop (k + 1) ps))) e
            ∙ ap (λ (j : ℕ). placed s x j (drop (k + 1) ps) (lines_with x now p) (rules_of new)) (sym (add-one k))
            ∙ ap (λ (l : List (List Use)). placed s x (k + 1) (drop (k + 1) ps) l (rules_of new)) lines_on;
        fits = subst (AllFit x ls) (sym front) (fits_more x ls (take k ps) p G.fits fit.0 fit.1);
        room = room;
      }

  pub stops_here : (c : Cause) → out ≡ Err c → Placed.stop c ≡ placed s x 0 ps ls rs
  unfolding answered
  stops_here c e =
      sym (runs_on ∙ ap (λ (o : Result ⊤ Cause). and_then (answered o (lines_with x now p) (rules_of new)) (placed s x (suc k) (drop (k + 1) ps))) e)

pub all_placed :
    {s : Settings} {x k : ℕ} {ps : List Allocation} {ls : List (List Use)} {rs : List Rule} {made : Rules} → Going s x ps ls rs k made
    → drop k ps ≡ [] → take k ps ≡ ps → Placed.done (all_with x ls ps) (rules_of made) ≡ placed s x 0 ps ls rs
unfolding placed
all_placed {s = s} {x = x} {k = k} {ps = ps} {ls = ls} {made = made} G none all =
    sym (
    G.runs
    ∙ ap (λ (qs : List Allocation). placed s x k qs (all_with x ls (take k ps)) (rules_of made)) none
    ∙ ap (λ (qs : List Allocation). Placed.done (all_with x ls qs) (rules_of made)) all)
