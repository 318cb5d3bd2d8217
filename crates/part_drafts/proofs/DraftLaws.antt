-- Laws of drafts.
--   prefixed before p   what placing comes to, with these rules before those it makes
--   from_start          placing that starts with rules makes the same rules behind them
--   drafted_full        14
--   start_room          the rules (b) and (c) leave room for the others
--   drafted_stop, drafted_made   past 14: what placing came to decides;  stops_as: a refusal says its cause
use Prim.Native.Nat.{ℕ, suc, ◌+◌, ◌≤◌, ◌*◌}
use mathlib.Core.Path.{◌≡◌, refl, sym, ◌∙◌, ap, subst}
use mathlib.Core.Bool.{Bool, true, false, cond}
use mathlib.Core.List.{List, [], ◌∷◌, ◌++◌, append_assoc, append-nil}
use lib.Dec.{ltb, leb}
use lib.ListN.{length, get_or, set}
use native.Mathlib.Omega.{arith}
use Rattle.base_rulings.specs.Answer.{cause, plain}
use Rattle.base_rulings.specs.declared.Cause.{Cause}
use Rattle.std.specs.Prelude.{⊤, Result, Ok, Err}
use Rattle.spec_plain.specs.Limits.{most_uses, most_steps, most_allocations}
use Rattle.spec_plain.specs.Plain.{State, Offer, Placed, Draft, live_count, not_before, durations, inserted, rule_before, rule_after, used_from, placed, with_jobs}
use Rattle.spec_plain.specs.Plain.{with_lines, tray_gap, batch_rules, due_rules, last_point, full, new_points, job_from, joining, drafted}
use Rattle.part_lines.specs.ArrayLists.{rules_of, rules_from, answered}
use Rattle.part_lines.specs.Asked.{Room}
use Rattle.spec_plain.specs.declared.Settings.{Settings}
use Rattle.spec_plain.specs.declared.Use.{Use}
use Rattle.spec_plain.specs.declared.Allocation.{Allocation}
use Rattle.spec_plain.specs.declared.Step.{Step}
use Rattle.spec_plain.specs.declared.Rule.{Rule}
use Rattle.part_lines.specs.declared.rulelist.Rules.{Rules}
use Rattle.part_drafts.specs.DraftedAs.{DraftedAs}
use Rattle.part_lines.proofs.RuleLaws.{Room_of, rules_back}

-- ---- placing that starts with rules

abbrev prefixed : List Rule → Placed → Placed
prefixed before (Placed.stop c) = Placed.stop c
prefixed before (Placed.done ls rs) = Placed.done ls (before ++ rs)

placed_behind :
    (s : Settings) (x i : ℕ) (ps : List Allocation) (ls : List (List Use)) (before rs : List Rule)
    → placed s x i ps ls (before ++ rs) ≡ prefixed before (placed s x i ps ls rs)
unfolding placed
placed_behind s x i [] ls before rs = refl
placed_behind s x i (p ∷ ps) ls before rs =
    let line = get_or ls p.resource [] in
    let new = set ls p.resource (inserted p.place (used_from x p) line) in
    let more = rule_before s line p.place (used_from x p) ++ rule_after s line p.place (used_from x p) in
    by (ltb (length line) p.place) (leb most_uses (length line)) (placed s x (suc i) ps new ((before ++ rs) ++ more)) (placed s x (suc i) ps new (rs ++ more))
    (ap (placed s x (suc i) ps new) (append_assoc before rs more) ∙ placed_behind s x (suc i) ps new before (rs ++ more))
  where
    by :
        (far has32 : Bool) (a b : Placed) → a ≡ prefixed before b
        → cond far (Placed.stop (cause 15 i)) (cond has32 (Placed.stop (cause 16 i)) a)
        ≡ prefixed before (cond far (Placed.stop (cause 15 i)) (cond has32 (Placed.stop (cause 16 i)) b))
    by true has32 a b e = refl
    by false true a b e = refl
    by false false a b e = e

from_start :
    (s : Settings) (x : ℕ) (ps : List Allocation) (ls : List (List Use)) (before : List Rule)
    → placed s x 0 ps ls before ≡ prefixed before (placed s x 0 ps ls [])
from_start s x ps ls before = ap (placed s x 0 ps ls) (sym (append-nil before)) ∙ placed_behind s x 0 ps ls before []

-- ---- what the plain machine says

length_durations : (x : ℕ) (ss : List Step) → length (durations x ss) ≡ length ss + length ss
unfolding durations
length_durations x [] = omega arith
length_durations x (s ∷ ss) = omega (arith, length_durations (suc x) ss)

pub drafted_full : (s : State) (o : Offer) (n : ℕ) → n ≡ length o.steps → full s (n + 1) ≡ true → drafted s o ≡ Draft.stop (plain 14)
unfolding drafted
drafted_full s o n size e = let points : new_points o ≡ n + 1 = omega arith in rw (points, e)

-- the rules of the job's last point
abbrev last_rules : State → Offer → ℕ → List Rule
last_rules s o last = batch_rules (tray_gap s.settings) o.batch last s.jobs ++ due_rules o.due last

-- the job joins, where placing came to q, and so came to ls and rs when it started with the rules (b) and (c)
abbrev joined : State → Offer → List (List Use) → List Rule → Draft
joined s o ls rs =
    Draft.go
    (with_lines (with_jobs s (s.jobs ++ (job_from o ∷ []))) ls)
    (new_points o)
    (rs ++ last_rules s o (last_point s o))

abbrev begun : State → Offer → ℕ → List Rule
begun s o x = not_before x (s.clock + s.settings.lead) ∷ durations x o.steps

joining_stop : (s : State) (o : Offer) (before : List Rule) (q : Placed) (c : Cause) → Placed.stop c ≡ prefixed before q → joining s o q ≡ Draft.stop c
unfolding joining
joining_stop s o before (Placed.stop d) c e = cc
joining_stop s o before (Placed.done ls rs) c e = let z : ◌≡◌ {A = ℕ} 0 1 = cc in absurd (omega arith)

joining_go :
    (s : State) (o : Offer) (q : Placed) (ls : List (List Use)) (rs : List Rule) → Placed.done ls rs ≡ prefixed (begun s o (live_count s)) q
    → joining s o q ≡ joined s o ls rs
unfolding joining
joining_go s o (Placed.stop d) ls rs e = let z : ◌≡◌ {A = ℕ} 0 1 = cc in absurd (omega arith)
joining_go s o (Placed.done us ms) ls rs e =
    let lines : us ≡ ls = cc in
    let rules : begun s o (live_count s) ++ ms ≡ rs = cc in
    ap (λ (l : List (List Use)). joined s o l (begun s o (live_count s) ++ ms)) lines ∙ ap (joined s o ls) rules

-- ---- what the code did

begun_few : (x p : ℕ) (ss : List Step) → length ss ≤ 8 → length (not_before x p ∷ durations x ss) ≤ 17
begun_few x p ss h = omega (arith, length_durations x ss)

module _ (x p : ℕ) (ss : List Step) (b : Rules) (few : length ss ≤ 8) (is : b ≡ rules_from (not_before x p ∷ durations x ss)) where
  pub start_room : Room (2 * most_allocations + 2) b
  start_room = Room_of b (not_before x p ∷ durations x ss) (2 * most_allocations + 2) is (omega (arith, begun_few x p ss few))

  start_list : rules_of b ≡ not_before x p ∷ durations x ss
  start_list = rules_back b (not_before x p ∷ durations x ss) is (omega (arith, begun_few x p ss few))

module _
    (s : State) (o : Offer) (x n : ℕ) (first : x ≡ live_count s) (size : n ≡ length o.steps) (not_full : full s (n + 1) ≡ false)
    (few : length o.steps ≤ most_steps) (b : Rules) (is : b ≡ rules_from (begun s o x)) (came : Result ⊤ Cause) (ls : List (List Use)) (made : Rules)
    (answer : answered came ls (rules_of made) ≡ placed s.settings x 0 o.allocations s.lines (rules_of b)) where
  past_full : drafted s o ≡ joining s o (placed s.settings (live_count s) 0 o.allocations s.lines [])
  unfolding drafted
  past_full = let points : new_points o ≡ n + 1 = omega arith in rw (points, not_full)

  came_to :
      (y : Result ⊤ Cause) → came ≡ y
      → answered y ls (rules_of made) ≡ prefixed (begun s o (live_count s)) (placed s.settings (live_count s) 0 o.allocations s.lines [])
  came_to y e =
      sym (ap (λ (z : Result ⊤ Cause). answered z ls (rules_of made)) e)
      ∙ answer
      ∙ ap (placed s.settings x 0 o.allocations s.lines) (start_list x (s.clock + s.settings.lead) o.steps b few is)
      ∙ ap (λ (i : ℕ). placed s.settings i 0 o.allocations s.lines (begun s o i)) first
      ∙ from_start s.settings (live_count s) o.allocations s.lines (begun s o (live_count s))

  pub drafted_stop : (c : Cause) → came ≡ Err c → drafted s o ≡ Draft.stop c
  unfolding answered
  drafted_stop c e =
      past_full ∙ joining_stop s o (begun s o (live_count s)) (placed s.settings (live_count s) 0 o.allocations s.lines []) c (came_to (Err c) e)

  drafted_go : came ≡ Ok tt → drafted s o ≡ joined s o ls (rules_of made)
  unfolding answered
  drafted_go e =
      past_full
      ∙ joining_go s o (placed s.settings (live_count s) 0 o.allocations s.lines []) ls (rules_of made) (came_to (Ok tt) e)

  -- the rules are those of the plain machine
  pub drafted_made :
      (R : Rules) → came ≡ Ok tt → R ≡ rules_from (rules_of made ++ last_rules s o (x + n)) → DraftedAs (Ok R) (drafted s o)
  unfolding DraftedAs
  drafted_made R accepted eR =
      let rules : ℕ → Rules = λ last. rules_from (rules_of made ++ last_rules s o last) in
      subst (DraftedAs (Ok R)) (sym (drafted_go accepted))
      (ap Ok (eR ∙ ap (λ (i : ℕ). rules (i + n)) first ∙ ap (λ (i : ℕ). rules (live_count s + i)) size))

-- a refusal says its cause
pub stops_as : (c : Cause) (d : Draft) → d ≡ Draft.stop c → DraftedAs (Err c) d
unfolding DraftedAs
stops_as c d e = subst (DraftedAs (Err c)) (sym e) refl
