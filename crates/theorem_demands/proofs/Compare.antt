-- Demand 3's heart: of two boards with the same number of live points, beside their books, all cells are equal exactly when the same
-- timetables are possible.
--   SameTables n c d      the same cells among the first n points
--   compare               each exactly when the other;  sim_compare: of boards and books that are side by side
use mathlib.Core.Path.{◌≡◌, sym}
use mathlib.Core.Logic.{◌↔◌}
use mathlib.Core.List.{List}
use Prim.Native.Nat.{ℕ}
use native.Mathlib.Omega.{arith}
use lib.IntN.{pos}
use Rattle.spec_plain.specs.Plain
use Rattle.spec_plain.specs.Rules.{Times, RuleOn}
use Rattle.spec_stn.specs.Table.{Table, Closed, Fits, Agree}
use Rattle.spec_stn.proofs.Fits.{tight}
use Rattle.spec_stn.proofs.Agree.{agree_fits}
use Rattle.spec_rulebook.specs.Book.{Book, Point, Possible}
use Rattle.theorem_demands.specs.Model.{Board, book}
use Rattle.theorem_demands.specs.Cases.{SameTimetables}
use Rattle.theorem_demands.specs.Beside.{StandsFor, Sim}
use Rattle.theorem_demands.proofs.Tries.{turned}

abbrev pub SameTables : ℕ → Table → Table → Type 0
SameTables n c d = Agree n c d

-- Equal cells allow the same timetables. The other way: each cell is attained, so it is no larger than the other table's
pub compare :
    {s other : Plain.State} {c d : Table} {rs qs : List (RuleOn Point)} → StandsFor s c rs → StandsFor other d qs → Plain.live_count s ≡ Plain.live_count other
    → SameTables (Plain.live_count s) c d ↔ SameTimetables (book s rs) (book other qs)
compare {s} {other} {c} {d} {rs} {qs} h g e = (to, of)
  where
    n : ℕ
    n = Plain.live_count s

    same : (u : Times) → ((u 0 ≡ pos 0) × Fits n d u) ↔ Possible (book other qs) u
    same u = rw e (g.same u)

    closed : Closed n d
    closed = rw e g.closed

    to : SameTables n c d → SameTimetables (book s rs) (book other qs)
    to t u = (
      λ p. let f = (h.same u).1 p in (same u).0 (f.0, agree_fits n c d t u f.1),
      λ p. let f = (same u).1 p in (h.same u).0 (f.0, agree_fits n d c (λ i j hi hj. sym (t i j hi hj)) u f.1),
    )

    of : SameTimetables (book s rs) (book other qs) → SameTables n c d
    of t i j hi hj =
        omega (
          arith,
          tight n n c d h.closed (omega arith) (λ u o f. ((same u).1 ((t u).0 ((h.same u).0 (o, f)))).1) i j hi hj,
          tight n n d c closed (omega arith) (λ u o f. ((h.same u).1 ((t u).1 ((same u).0 (o, f)))).1) i j hi hj,
        )

pub sim_compare :
    {bd other : Board} {bk alt : Book} → Sim bd bk → Sim other alt → Plain.live_count bd.state ≡ Plain.live_count other.state
    → SameTables (Plain.live_count bd.state) bd.table other.table ↔ SameTimetables bk alt
sim_compare m n e = rw (turned m, turned n) (compare m.holds n.holds e)
