-- Beside a board, the rule book has a timetable.
use Rattle.spec_rulebook.specs.Book.{Book, Consistent}
use Rattle.theorem_demands.specs.Model.{Board}
use Rattle.theorem_demands.specs.Beside.{Sim}
use Rattle.theorem_demands.proofs.Tries.{turned, some_holds}

pub book_some : {bd : Board} {bk : Book} → Sim bd bk → Consistent bk
book_some m = rw (turned m) (some_holds m.holds)
