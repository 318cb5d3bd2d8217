-- What a case of the proving table says: a board's settings, calls, their rulings, and what else must come of it.
--   Expect               one thing that must hold at the end
--   SameTimetables k j   the same timetables are possible on both books
--   EqualTables k j      the gap tables of both books are equal: as many live points, and each entry the same
--   RunsTo s cs rs P     from the fresh book of these settings the calls cs have the rulings rs and come to a book with P: the rule book has a run with these
--                        rulings, and whatever run is taken has them and ends in such a book
--   Meets k x            what x expects holds of the book k;  AllMeet: each of a list
--   Case                 a row of the table
--   Comes c              the case comes true: its calls have its rulings and come to a book that meets what it expects;  AllCome: each of a list
use Rattle.std.specs.Prelude.{◌≡◌, ◌↔◌, List, [], ◌∷◌, ℕ, ◌<◌, ℤ, length, get_or}
use Rattle.base_rulings.specs.declared.Ruling.{Ruling}
use Rattle.read_facts.specs.Forward.{AllRun}
use Rattle.read_offer.specs.Offer.{known_of, goal_of, chain_of}
use Rattle.spec_plain.specs.declared.Settings.{Settings}
use Rattle.spec_plain.specs.Plain.{live_count, new_job}
use Rattle.spec_plain.specs.Rules.{Times}
use Rattle.spec_rulebook.specs.Book.{Book, Call, Possible, Least, Greatest, Gap, Runs, fresh}

pub data Expect : Type 0 where
  -- the point's least value over the possible timetables, and its greatest
  earliest : ℕ → ℕ → Expect
  latest : ℕ → ℕ → Expect
  -- by the forward definition of facts the offer's chain reaches its goal from every full state that fits, on this plant; or not
  runs : List ℕ → List ℕ → Expect
  fails : List ℕ → List ℕ → Expect
  -- the record of the job at this place of the list keeps this due time
  due : ℕ → ℕ → Expect
  -- on a board with these settings these calls have these rulings, and come to an equal table
  same : Settings → List Call → List Ruling → Expect

abbrev pub SameTimetables : Book → Book → Type 0
SameTimetables k other = (u : Times) → Possible k u ↔ Possible other u

-- "Entry (i, j) of the gap table is the largest time of j minus time of i over the possible timetables": of each two live points the same on both
abbrev pub EqualTables : Book → Book → Type 0
EqualTables k other =
    (live_count k.state ≡ live_count other.state)
    × ((i j : ℕ) → i < live_count k.state → j < live_count k.state → (d : ℤ) × Gap k i j d × Gap other i j d)

abbrev pub RunsTo : Settings → List Call → List Ruling → (Book → Type 0) → Type 0
RunsTo s cs rs P =
    ((k : Book) × Runs (fresh s) cs rs k)
    × ((qs : List Ruling) (k : Book) → Runs (fresh s) cs qs k → (qs ≡ rs) × P k)

abbrev pub Meets : Book → Expect → Type 0
Meets k (earliest x v) = Least k x v
Meets k (latest x v) = Greatest k x v
Meets k (runs p o) = AllRun (known_of o) (chain_of p o) (goal_of o)
Meets k (fails p o) = ¬ (AllRun (known_of o) (chain_of p o) (goal_of o))
Meets k (due place q) = (place < length k.state.jobs) × ((get_or k.state.jobs place (new_job 0 0 0)).due ≡ q)
Meets k (same s cs rs) = RunsTo s cs rs (EqualTables k)

abbrev pub AllMeet : Book → List Expect → Type 0
AllMeet k [] = Unit {0}
AllMeet k (x ∷ xs) = Meets k x × AllMeet k xs

pub record Case : Type 0 where
  pub settings : Settings
  pub calls : List Call
  pub rulings : List Ruling
  pub expects : List Expect

abbrev pub Comes : Case → Type 0
Comes c = RunsTo c.settings c.calls c.rulings (λ (k : Book). AllMeet k c.expects)

abbrev pub AllCome : List Case → Type 0
AllCome [] = Unit {0}
AllCome (c ∷ cs) = Comes c × AllCome cs
