-- Tidy runs are runs: only the cells of live points count, and a tidied table has the same.
--   holds_agree    what holds of a table holds of every table with the same cells of live points
--   tidy_agree     a tidied table has the same cells
--   runs_keep      every run of the rule book has the rulings of the tidy run, and is beside its board
--   runs_exist     there is a run with these rulings;  fresh_exists, fresh_keeps: from the fresh book
--   fresh_runs     so the rule book runs to P (RunsTo), where the tidy run has these rulings and P holds of every book beside its board
use mathlib.Core.Path.{◌≡◌, refl, ap, ap₂, sym, subst, ◌∙◌}
use mathlib.Core.List.{List, [], ◌∷◌}
use Prim.Native.Nat.{ℕ, ◌≤◌, ◌<◌}
use native.Mathlib.Omega.{arith}
use lib.ListN.{get_or}
use Rattle.base_rulings.specs.declared.Ruling.{Ruling}
use Rattle.spec_plain.specs.declared.Settings.{Settings}
use Rattle.spec_plain.specs.Plain
use Rattle.spec_plain.specs.Rules.{RuleOn}
use Rattle.base_lists.specs.Loops.{build}
use Rattle.base_lists.proofs.Build.{build_at}
use Rattle.spec_stn.specs.Table.{bias, Table, earliest, latest, Still, Agree}
use Rattle.spec_stn.proofs.Agree.{agree_closed, agree_fits}
use Rattle.spec_rulebook.specs.Book.{Book, Point, Call, Runs}
use Rattle.spec_rulebook.specs.Book as Rulebook
use Rattle.theorem_demands.specs.Model.{Board, step}
use Rattle.theorem_demands.specs.Model as Model
use Rattle.theorem_demands.specs.Beside.{StandsFor, Sim}
use Rattle.theorem_demands.specs.Tidy.{tidy, tidied, board_after, rulings}
use Rattle.theorem_demands.specs.Cases.{RunsTo}
use Rattle.theorem_demands.proofs.Jobs.{still_jobs}
use Rattle.theorem_demands.proofs.Tries.{live_positive}
use Rattle.theorem_demands.proofs.Step.{sim_keeps, sim_exists, fresh_sim}

pub holds_agree : {s : Plain.State} {c : Table} {rs : List (RuleOn Point)} (d : Table) → Agree (Plain.live_count s) c d → StandsFor s c rs → StandsFor s d rs
unfolding Plain.live_count earliest latest
holds_agree {s} {c} d e h =
    record {
      closed = agree_closed n c d e (live_positive s) h.closed;
      same = λ u. (
        λ f. (h.same u).0 (f.0, agree_fits n d c (λ i j hi hj. sym (e i j hi hj)) u f.1),
        λ p. let f = (h.same u).1 p in (f.0, agree_fits n c d e u f.1),
      );
      still = still_jobs c d n still s.jobs 1 (omega arith) h.still;
      lines = h.lines;
      jobs = h.jobs;
      small = h.small;
    }
  where
    n : ℕ
    n = Plain.live_count s

    still : (i : ℕ) → i < n → Still c i → Still d i
    still i h was = omega (arith, e 0 i (live_positive s) h, e i 0 h (live_positive s))

-- ---- the cells of a tidied table

pub tidy_agree : (n : ℕ) (c : Table) → Agree n c (tidy n c)
unfolding tidy
tidy_agree n c i j hi hj = sym (ap (λ (l : List ℕ). get_or l j 0) (build_at (λ i. build (c i) n) n i [] hi) ∙ build_at (c i) n j 0 hj)

pub sim_tidied : {bd : Board} {bk : Book} → Sim bd bk → Sim (tidied bd) bk
unfolding tidied
sim_tidied {bd} m =
    record {
      state = m.state;
      holds = holds_agree (tidy (Plain.live_count bd.state) bd.table) (tidy_agree (Plain.live_count bd.state) bd.table) m.holds;
    }

-- ---- runs

pub runs_keep :
    {bd : Board} {bk : Book} → Sim bd bk → (cs : List Call) (rs : List Ruling) (k : Book) → Runs bk cs rs k
    → (rs ≡ rulings bd cs) × Sim (board_after bd cs) k
unfolding Runs rulings board_after
runs_keep {bd = bd} {bk = bk} m [] rs k p = (p.0, rw p.1 m)
runs_keep {bd = bd} {bk = bk} m (c ∷ cs) rs k p =
    let q = sim_keeps m c p.0 p.1 p.3 in
    let t = runs_keep {bd = tidied (step bd c).board} {bk = p.1} (sim_tidied q.1) cs p.2 k p.5 in
    (p.4 ∙ ap₂ ◌∷◌ q.0 t.0, t.1)

pub runs_exist : {bd : Board} {bk : Book} → Sim bd bk → (cs : List Call) → (k : Book) × Runs bk cs (rulings bd cs) k
unfolding Runs rulings
runs_exist {bd = bd} {bk = bk} m [] = (bk, (refl, refl))
runs_exist {bd = bd} {bk = bk} m (c ∷ cs) =
    let e = sim_exists m c in
    let q = sim_keeps m c (step bd c).ruling e.0 e.1 in
    let t = runs_exist {bd = tidied (step bd c).board} {bk = e.0} (sim_tidied q.1) cs in
    (t.0, ((step bd c).ruling, e.0, rulings (tidied (step bd c).board) cs, e.1, refl, t.1))

pub fresh_exists : (s : Settings) → s.horizon ≤ bias → (cs : List Call) → (k : Book) × Runs (Rulebook.fresh s) cs (rulings (Model.fresh s) cs) k
fresh_exists s le cs = runs_exist (fresh_sim s le) cs

pub fresh_keeps :
    (s : Settings) → s.horizon ≤ bias → (cs : List Call) (rs : List Ruling) (k : Book) → Runs (Rulebook.fresh s) cs rs k
    → (rs ≡ rulings (Model.fresh s) cs) × Sim (board_after (Model.fresh s) cs) k
fresh_keeps s le cs rs k p = runs_keep (fresh_sim s le) cs rs k p

pub fresh_runs :
    (s : Settings) → s.horizon ≤ bias → (cs : List Call) (rs : List Ruling) → rulings (Model.fresh s) cs ≡ rs → (P : Book → Type 0)
    → ((k : Book) → Sim (board_after (Model.fresh s) cs) k → P k) → RunsTo s cs rs P
fresh_runs s le cs rs e P h =
    let some = fresh_exists s le cs in (
      (some.0, subst (λ (qs : List Ruling). Runs (Rulebook.fresh s) cs qs some.0) e some.1),
      λ qs k run. let m = fresh_keeps s le cs qs k run in (m.0 ∙ e, h k m.1),
    )
