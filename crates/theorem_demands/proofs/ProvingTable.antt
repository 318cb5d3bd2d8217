-- The proving table holds: one theorem over one table (specs/ProvingTable), from bytes, of the rule book and the fact definition.
-- Its test is computed over the whole table on the abstract board (proofs/Computed), and one law turns it into what each case says: that the
-- rule book has such a run, and that every run of it comes to the same. Assumes nothing.
--   proving_table   document 01's cases;  further_table_lem: cases of our own;  due_table_lem: those on due times
use mathlib.Core.List.{List, [], ◌∷◌}
use borrow.Author.Tests.{leb-true}
use Rattle.spec_stn.specs.Table.{bias}
use Rattle.spec_rulebook.specs.Book.{Book}
use Rattle.theorem_demands.specs.Model as Model
use Rattle.theorem_demands.specs.Tidy as Tidy
use Rattle.theorem_demands.specs.Cases.{Case, AllMeet, Comes, AllCome}
use Rattle.theorem_demands.specs.ProvingTable.{table}
use Rattle.theorem_demands.specs.FurtherTable.{further_table}
use Rattle.theorem_demands.specs.DueTable.{due_table}
use Rattle.theorem_demands.proofs.Tidy.{fresh_runs}
use Rattle.theorem_demands.proofs.Shown.{all_meet}
use Rattle.theorem_demands.proofs.Computed.{Computes, AllCompute, computed, further_computed, dues_computed}

comes : (c : Case) → Computes c → Comes c
comes c e =
    let s = c.settings in
    fresh_runs s (leb-true s.horizon bias e.0) c.calls c.rulings e.1 (λ (k : Book). AllMeet k c.expects)
    (λ k m. all_meet (Tidy.board_after (Model.fresh s) c.calls) k m c.expects e.2)

all_come : (cs : List Case) → AllCompute cs → AllCome cs
all_come [] e = tt
all_come (c ∷ cs) e = (comes c e.0, all_come cs e.1)

pub proving_table : AllCome table
proving_table = all_come table computed

pub further_table_lem : AllCome further_table
further_table_lem = all_come further_table further_computed

pub due_table_lem : AllCome due_table
due_table_lem = all_come due_table dues_computed
