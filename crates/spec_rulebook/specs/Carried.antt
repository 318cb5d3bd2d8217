-- The rule book "never forgets a rule": after a call its rules are still there, their points renamed where a job retired, and new ones only come behind.
--   leaving_names x r    what each point is called where x is what leaving comes to and the retirement is ruled r
--   renaming b c r      what each point of the book b is called after the call c that is ruled r: only an accepted retirement gives new names
--   Carries names b k   the rules of b are still in k, each point under the name that `names` gives it
use Rattle.std.specs.Prelude.{◌≡◌, List, ◌++◌, map}
use Rattle.base_rulings.specs.declared.Ruling.{Ruling}
use Rattle.base_rulings.specs.declared.Ruling.TheVariants.{Accepted, Refused}
use Rattle.spec_plain.specs.Plain
use Rattle.spec_plain.specs.Rules.{RuleOn, renamed}
use Rattle.spec_rulebook.specs.Book.{Book, Point, live, Call, plan, send, clock, retire, reindexed}

unfoldable pub leaving_names : Plain.Leaving → Ruling → Point → Point
leaving_names Plain.Leaving.stop r x = x
leaving_names (Plain.Leaving.go m rs s) Accepted x = reindexed 1 m x
leaving_names (Plain.Leaving.go m rs s) (Refused c) x = x

unfoldable pub renaming : Book → Call → Ruling → Point → Point
renaming b (plan p o) r x = x
renaming b (send place) r x = x
renaming b (clock c) r x = x
renaming b retire r x = leaving_names (Plain.leaving b.state) r x

pub record Carries (names : Point → Point) (b k : Book) : Type 0 where
  -- no two points get one name, and the origin keeps its own
  pub apart : (x y : Point) → names x ≡ names y → x ≡ y
  pub origin : names (live 0) ≡ live 0
  -- the rules that came
  pub news : List (RuleOn Point)
  pub kept : k.rules ≡ map (renamed names) b.rules ++ news
