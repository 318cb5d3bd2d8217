-- A live job with a due time is in time, whatever was called: its rule was made when it was accepted, and the rule book forgets no rule. Assumes nothing.
--   moved              jobs in time by their old numbers are in time by their new ones
--   sent_in_time, joined_in_time   jobs that are sent are still in time; so are they with one more that is
--   made_possible      what is possible with rules made was possible without, and keeps them
--   due_kept           the rule of a due time: the job is in time
--   step_in_time       every call;  runs_in_time: every list of calls;  in_time: from the fresh book on
use mathlib.Core.Path.{◌≡◌, refl, sym, ap, subst, ◌∙◌}
use mathlib.Core.Bool.{Bool, cond}
use mathlib.Core.List.{List, [], ◌∷◌, ◌++◌, map}
use Prim.Native.Nat.{ℕ, zero, suc, ◌+◌, ◌<◌}
use native.Mathlib.Omega.{arith}
use lib.IntN.{ℤ, pos}
use lib.ListN.{length}
use lib.Signed.{◌≤ℤ◌}
use borrow.Author.Tests.{ne_eqb}
use Rattle.base_rulings.specs.declared.Ruling.{Ruling}
use Rattle.spec_plain.specs.declared.Settings.{Settings}
use Rattle.spec_plain.specs.declared.Job.{Job}
use Rattle.spec_plain.specs.declared.Rule.{Rule}
use Rattle.spec_plain.specs.Plain
use Rattle.spec_plain.specs.Rules.{Times, named, AllKept, KeepsAll}
use Rattle.spec_plain.proofs.Rules.{kept_append, kept_named, keeps_append, keeps_to}
use Rattle.spec_plain.proofs.Whole.{up, dn, of_below}
use Rattle.spec_rulebook.specs.Reading.{offer_of, plan_check, reading_of}
use Rattle.spec_rulebook.specs.Book.{Book, live, completed, Possible, Call, plan, send, clock, retire, fresh, made, reindexed}
use Rattle.spec_rulebook.specs.Book.{Plans, Sends, Step, Runs}
use Rattle.spec_rulebook.specs.InTime.{EndsInTime, InTime, AllInTime}
use Rattle.spec_rulebook.proofs.Kept.{retired, reindexed_stays, carried_possible}
use Rattle.spec_rulebook.proofs.Outcome.{left, refused, accepted, settled, guarded, planned, retiring}

-- ---- jobs

-- u are the times of the points that stay, by their new numbers; by the old ones, which were m higher, they are w. The origin, at 0, is always in time
module _ (w u : Times) (m : ℕ) (origin : u 0 ≡ pos 0) (same : (y : ℕ) → 0 < y → w (y + m) ≡ u y) where
  moved_end : (j : Job) (y : ℕ) → EndsInTime w j (y + m) → EndsInTime u j y
  moved_end j zero h some = subst (λ (v : ℤ). v ≤ℤ pos j.due) (sym origin) (of_below (pos 0) (pos j.due) (omega arith))
  moved_end j (suc y) h some = subst (λ (v : ℤ). v ≤ℤ pos j.due) (same (suc y) (omega arith)) (h some)

  moved : (js : List Job) (x : ℕ) → InTime w (x + m) js → InTime u x js
  moved [] x h = tt
  moved (j ∷ js) x h =
      let e : x + m + j.points ≡ x + j.points + m = omega arith in (
        moved_end j (x + j.points) (subst (EndsInTime w j) e h.0),
        moved js (x + j.points) (subst (λ (y : ℕ). InTime w y js) e h.1),
      )

sent_in_time : (u : Times) (n : ℕ) (js : List Job) (x : ℕ) → InTime u x js → InTime u x (Plain.sent_up_to n js)
unfolding Plain.sent_up_to
sent_in_time u zero js x h = h
sent_in_time u (suc n) [] x h = tt
sent_in_time u (suc n) (j ∷ js) x h = (h.0, sent_in_time u n js (x + j.points) h.1)

-- the job n comes last, and y is its last point
joined_in_time :
    (u : Times) (n : Job) (y : ℕ) → EndsInTime u n y → (js : List Job) (x : ℕ) → y ≡ x + Plain.total js + n.points → InTime u x js
    → InTime u x (js ++ (n ∷ []))
unfolding Plain.total
joined_in_time u n y end [] x e h = (subst (EndsInTime u n) {x = y} {y = x + n.points} (omega arith) end, tt)
joined_in_time u n y end (j ∷ js) x e h = (h.0, joined_in_time u n y end js (x + j.points) (omega arith) h.1)

-- ---- rules made

made_possible : (s : Plain.State) (b : Book) (rs : List Rule) (u : Times) → Possible (made s b rs) u → Possible b u × KeepsAll u rs
unfolding Possible made completed
made_possible s b rs u p =
    let t = completed u p.1.0 in
    let both = (kept_append t b.rules (map (named live) rs)).0 p.1.1 in
    ((p.0, (p.1.0, both.0)), (kept_named live t rs).0 both.1)

made_in_time :
    (s : Plain.State) (b : Book) (rs : List Rule) → AllInTime b
    → ((u : Times) → u 0 ≡ pos 0 → KeepsAll u rs → InTime u 0 b.state.jobs → InTime u 0 s.jobs)
    → AllInTime (made s b rs)
unfolding Possible made
made_in_time s b rs all next u p = let q = made_possible s b rs u p in next u p.0 q.1 (all u q.0)

-- y is the job's last point
due_kept : (u : Times) (j : Job) (y : ℕ) → u 0 ≡ pos 0 → KeepsAll u (Plain.due_rules j.due y) → EndsInTime u j y
unfolding Plain.due_rules Plain.not_after AllKept
due_kept u j y origin kept some =
    let rule : KeepsAll u (Plain.not_after y j.due ∷ []) =
    subst (λ (t : Bool). KeepsAll u (cond t [] (Plain.not_after y j.due ∷ []))) (ne_eqb j.due 0 some) kept in
    of_below (u y) (pos j.due) (omega (arith, keeps_to u (Plain.not_after y j.due) rule.0, ap up origin, ap dn origin))

-- ---- the steps

-- however a call is ruled
abbrev Timely : Ruling → Book → Type 0
Timely r k = AllInTime k

-- the rule of the due time is the last of those made
joining : (b k : Book) (r : Ruling) (o : Plain.Offer) → AllInTime b → (x : Plain.Placed) → Plans b (Plain.joining b.state o x) r k → AllInTime k
unfolding Plans Plain.joining Plain.live_count
joining b k r o all (Plain.Placed.stop c) p = refused Timely b k r (λ x. all) c p
joining b k r o all (Plain.Placed.done ls rs) p =
    settled Timely b k r (λ x. all) _ 17
    (made_in_time _ b _ all
    (λ u origin kept old.
    let last : ℕ = Plain.live_count b.state + length o.steps in
    let past-bounds = ((keeps_append u (Plain.bounds _ _ _) _).0 kept).1 in
    let past-others = ((keeps_append u (Plain.not_before _ _ ∷ Plain.durations _ _ ++ rs) _).0 past-bounds).1 in
    let due = ((keeps_append u (Plain.batch_rules _ _ _ _) _).0 past-others).1 in
    joined_in_time u (Plain.job_from o) last (due_kept u (Plain.job_from o) last origin due) b.state.jobs 0 (omega arith) old))
    p

-- the oldest job, of m points, leaves: the others' points had numbers that were m higher
stay : (b : Book) (m : ℕ) (s : Plain.State) → ((w : Times) → Possible b w → InTime w (0 + m) s.jobs) → AllInTime (left b m s)
unfolding Possible
stay b m s old u p =
    let before = carried_possible (reindexed 1 m) b (left b m s) (retired m b (left b m s) refl) u p in
    let number : (y : ℕ) → 0 < y → reindexed 1 m (live (y + m)) ≡ live y =
    λ y h. reindexed_stays 1 m (y + m) (omega arith) ∙ ap live (omega arith) in
    let same : (y : ℕ) → 0 < y → before.0 (y + m) ≡ u y = λ y h. before.2 (y + m) y (number y h) in
    moved before.0 u m p.0 same s.jobs 0 (old before.0 before.1)

pub step_in_time : (b k : Book) (c : Call) (r : Ruling) → AllInTime b → Step b c r k → AllInTime k
unfolding Step Sends reading_of Plain.sent_state Plain.clock_state Plain.leaving Plain.without
step_in_time b k (plan p o) r all q =
    planned Timely b k r (λ x. all) (plan_check b.state p o) (offer_of p o) (joining b k r (offer_of p o) all) q
step_in_time b k (send place) r all q =
    guarded Timely b k r (λ x. all) _ 18 _
    (λ s. accepted Timely b k r (λ x. all) _
    (made_in_time _ b _ all (λ u origin kept old. sent_in_time u (suc place) b.state.jobs 0 old))
    s.2 s.3)
    q
step_in_time b k (clock c) r all q =
    guarded Timely b k r (λ x. all) _ 19 _
    (λ s. settled Timely b k r (λ x. all) _ 20 (made_in_time _ b _ all (λ u origin kept old. old)) s)
    q
step_in_time b k retire r all q =
    retiring Timely b k r (λ x. all) b.state.jobs
    (λ j rest e. stay b j.points _ (λ w h. (subst (InTime w 0) e (all w h)).1))
    q

pub runs_in_time : (b : Book) (cs : List Call) (rs : List Ruling) (k : Book) → AllInTime b → Runs b cs rs k → AllInTime k
unfolding Runs
runs_in_time b [] rs k all p = subst AllInTime (sym p.1) all
runs_in_time b (c ∷ cs) rs k all p = runs_in_time p.1 cs p.2 k (step_in_time b p.1 c p.0 all p.3) p.5

pub in_time : (s : Settings) (cs : List Call) (rs : List Ruling) (k : Book) → Runs (fresh s) cs rs k → AllInTime k
unfolding fresh
in_time s cs rs k p = runs_in_time (fresh s) cs rs k (λ u q. tt) p
