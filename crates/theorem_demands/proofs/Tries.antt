-- A call whose rules are tried: the rule book asks whether some timetable keeps them, the board adds them to its table.
--   beside h          board and book by their parts are side by side
--   turned m          the book beside a board, with the board's state for its own
--   some_holds h      the book beside a board has a timetable: that of the earliest times
--   possible_made     possible after rules were made: possible before, and keeping them
--   refuse_mirrors    a refusal mirrors the board's
--   Chooses           a call that is accepted where something holds, and else refused;  chosen, not_chosen: it mirrors the board's
--   Tries             what a call whose rules are tried brings: the state to be, its points' table, and the rules
--   Outcome           what the outcome of adding the rules says of the rule book;  tried shows it
--   try_mirrors       such a call mirrors the board's
use mathlib.Core.Path.{◌≡◌, refl}
use mathlib.Core.Logic.{◌↔◌, ◌⊎◌, inl, inr}
use mathlib.Core.List.{List, ◌++◌, map}
use mathlib.Core.Option.{Option, some, none}
use Prim.Native.Nat.{ℕ, ◌≤◌, ◌<◌}
use native.Mathlib.Omega.{arith}
use lib.IntN.{pos}
use Rattle.base_rulings.specs.declared.Cause.{Cause}
use Rattle.base_rulings.specs.declared.Ruling.{Ruling}
use Rattle.base_rulings.specs.declared.Ruling.TheVariants.{Accepted}
use Rattle.base_rulings.specs.Answer.{plain}
use Rattle.spec_plain.specs.declared.Rule.{Rule}
use Rattle.spec_plain.specs.Plain
use Rattle.spec_plain.specs.Rules.{Times, RuleOn, named, KeepsAll}
use Rattle.spec_plain.proofs.Rules.{keeps_append, kept_append, kept_named}
use Rattle.spec_stn.specs.Table.{bias, Table, Closed, Fits, soonest, add_all, Within}
use Rattle.spec_stn.proofs.Fits.{soonest_fits, soonest_origin}
use Rattle.spec_stn.proofs.Add.{Added, add_all_added}
use Rattle.spec_rulebook.specs.Book.{Book, Point, live, completed, Possible, Consistent, made, Settles, Refuses}
use Rattle.theorem_demands.specs.Model.{Board, book, board, refused_with, settled}
use Rattle.theorem_demands.specs.Beside.{StillJobs, LinesOfLive, AllHavePoints, StandsFor, Sim, Mirrors}

pub live_positive : (s : Plain.State) → 0 < Plain.live_count s
unfolding Plain.live_count
live_positive s = omega arith

pub turned : {bd : Board} {bk : Book} → Sim bd bk → bk ≡ book bd.state bk.rules
turned {bd} {bk} m = λ i. book (m.state i) bk.rules

pub possible_made :
    (s next : Plain.State) (rs : List (RuleOn Point)) (qs : List Rule) (u : Times)
    → Possible (made next (book s rs) qs) u ↔ (Possible (book s rs) u × KeepsAll u qs)
unfolding Possible made completed
possible_made s next rs qs u = (
  λ p.
      let t = completed u p.1.0 in
      let k = (kept_append t rs (map (named live) qs)).0 p.1.1 in
      ((p.0, (p.1.0, k.0)), (kept_named live t qs).0 k.1),
  λ q.
      let t = completed u q.0.1.0 in
      (q.0.0, (q.0.1.0, (kept_append t rs (map (named live) qs)).1 (q.0.1.1, (kept_named live t qs).1 q.1))),
)

module _ {s : Plain.State} {c : Table} {rs : List (RuleOn Point)} (h : StandsFor s c rs) where
  pub beside : Sim (board s c) (book s rs)
  beside = record { state = refl; holds = h }

  pub soonest_possible : Possible (book s rs) (soonest c)
  soonest_possible =
      (h.same (soonest c)).0
      (soonest_origin (Plain.live_count s) c h.closed (live_positive s), soonest_fits (Plain.live_count s) c h.closed (live_positive s))

  pub some_holds : Consistent (book s rs)
  unfolding Consistent
  some_holds = (soonest c, soonest_possible)

  pub refuse_mirrors : (q : Cause) → Mirrors (Refuses (book s rs) q) (refused_with (board s c) q)
  unfolding Refuses refused_with
  refuse_mirrors q = record { keeps = λ r k p. (p.0, rw p.1 beside); exists = (book s rs, (refl, refl)) }

-- ---- accepted or refused

abbrev Chooses : Type 0 → Book → Book → Cause → Ruling → Book → Type 0
Chooses Y b next q r k = (Y × (r ≡ Accepted) × (k ≡ next)) ⊎ (¬ Y × Refuses b q r k)

pub chosen :
    {Y : Type 0} {bd : Board} {next : Book} (b : Book) (q : Cause) → Y → Sim bd next
    → Mirrors (Chooses Y b next q) (record { ruling = Accepted; board = bd })
chosen {Y} {bd} {next} b q y m = record { keeps = keeps; exists = (next, inl (y, refl, refl)) }
  where
    keeps : (r : Ruling) (k : Book) → Chooses Y b next q r k → (r ≡ Accepted) × Sim bd k
    keeps r k (inl p) = (p.1, rw p.2 m)
    keeps r k (inr p) = absurd (p.0 y)

pub not_chosen :
    {Y : Type 0} {s : Plain.State} {c : Table} {rs : List (RuleOn Point)} (next : Book) (q : Cause) → ¬ Y → StandsFor s c rs
    → Mirrors (Chooses Y (book s rs) next q) (refused_with (board s c) q)
not_chosen {Y} {s} {c} {rs} next q n h = record { keeps = keeps; exists = let e = (refuse_mirrors h q).exists in (e.0, inr (n, e.1)) }
  where
    keeps :
        (r : Ruling) (k : Book) → Chooses Y (book s rs) next q r k
        → (r ≡ (refused_with (board s c) q).ruling) × Sim (refused_with (board s c) q).board k
    keeps r k (inl p) = absurd (n p.0)
    keeps r k (inr p) = (refuse_mirrors h q).keeps r k p.1

-- ---- rules tried

pub record Tries (s next : Plain.State) (c wide : Table) (olds news : List Rule) : Type 0 where
  -- the table `wide` of the points to be has the rules olds, which making points brings; the rules news are added to it
  pub fits : (t : Times) → Fits (Plain.live_count next) wide t ↔ (Fits (Plain.live_count s) c t × KeepsAll t olds)
  -- in a table that keeps all of these the points of sent jobs stand still
  pub still :
      (d : Table) → Closed (Plain.live_count next) d
      → ((t : Times) → t 0 ≡ pos 0 → Fits (Plain.live_count next) d t → Fits (Plain.live_count s) c t × KeepsAll t (olds ++ news))
      → StillJobs d 1 next.jobs
  pub lines : LinesOfLive (Plain.live_count next) next.lines
  pub jobs : AllHavePoints next.jobs
  pub small : next.settings.horizon ≤ bias

unfoldable pub Outcome : Plain.State → Plain.State → List (RuleOn Point) → List Rule → Option Table → Type 0
Outcome s next rs qs (some d) = StandsFor next d (rs ++ map (named live) qs)
Outcome s next rs qs none = ¬ (Consistent (made next (book s rs) qs))

module _
    {s next : Plain.State} {c wide : Table} {rs : List (RuleOn Point)} {olds news : List Rule}
    (h : StandsFor s c rs) (tries : Tries s next c wide olds news)
  where
    -- The table with the rules added has the timetables of `wide` that keep news, and these are those of c that keep olds and news
    pub tried : (o : Option Table) → Added (Plain.live_count next) wide news o → Outcome s next rs (olds ++ news) o
    unfolding Outcome Added made Consistent
    tried (some d) a =
        record {
          closed = a.0;
          same = λ u. (to u, of u);
          still = tries.still d a.0 (λ t o f. kept t f);
          lines = tries.lines;
          jobs = tries.jobs;
          small = tries.small;
        }
      where
        kept : (t : Times) → Fits (Plain.live_count next) d t → Fits (Plain.live_count s) c t × KeepsAll t (olds ++ news)
        kept t f =
            let q = (a.1 t).0 f in
            let g = (tries.fits t).0 q.0 in
            (g.0, (keeps_append t olds news).1 (g.1, q.1))

        to : (u : Times) → (u 0 ≡ pos 0) × Fits (Plain.live_count next) d u → Possible (made next (book s rs) (olds ++ news)) u
        to u f =
            let q = kept u f.1 in
            (possible_made s next rs (olds ++ news) u).1 ((h.same u).0 (f.0, q.0), q.1)

        of : (u : Times) → Possible (made next (book s rs) (olds ++ news)) u → (u 0 ≡ pos 0) × Fits (Plain.live_count next) d u
        of u p =
            let q = (possible_made s next rs (olds ++ news) u).0 p in
            let k = (keeps_append u olds news).0 q.1 in
            let f = (h.same u).1 q.0 in
            (f.0, (a.1 u).1 ((tries.fits u).1 (f.1, k.0), k.1))
    tried none a = λ p.
        let q = (possible_made s next rs (olds ++ news) p.0).0 p.1 in
        let k = (keeps_append p.0 olds news).0 q.1 in
        a p.0 ((tries.fits p.0).1 (((h.same p.0).1 q.0).1, k.0)) k.1

    settle_mirrors :
        (n : ℕ) (o : Option Table) → Outcome s next rs (olds ++ news) o
        → Mirrors (Settles (book s rs) (made next (book s rs) (olds ++ news)) n) (settled (board s c) n next o)
    unfolding Outcome Settles settled made
    settle_mirrors n (some d) a = chosen (book s rs) (plain n) (some_holds a) (beside a)
    settle_mirrors n none a = not_chosen (made next (book s rs) (olds ++ news)) (plain n) a h

    pub try_mirrors :
        (n : ℕ) → Closed (Plain.live_count next) wide → Within (Plain.live_count next) news
        → Mirrors (Settles (book s rs) (made next (book s rs) (olds ++ news)) n) (settled (board s c) n next (add_all news wide))
    try_mirrors n cl w = settle_mirrors n (add_all news wide) (tried (add_all news wide) (add_all_added (Plain.live_count next) wide news cl w))
