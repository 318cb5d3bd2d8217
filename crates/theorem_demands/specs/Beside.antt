-- Board and rule book side by side: what holds between them after every list of calls.
--   Each P x js       P of each job's points; x is the first point of the list's first job
--   StillJobs c x js  each point of a sent job stands still
--   LineOfLive, LinesOfLive  a line, all lines, name only the first n points
--   AllHavePoints js  every job has a point
--   StandsFor s c rs  the table c stands for the rules rs, over the state s
--   Sim bd bk         the same state, and so
--   Mirrors R a       R, a call's outcomes in the rule book, and the board's answer a agree
use Rattle.std.specs.Prelude.{◌≡◌, ◌↔◌, List, [], ◌∷◌, ℕ, ◌+◌, ◌≤◌, ◌<◌, T, pos}
use Rattle.base_rulings.specs.declared.Ruling.{Ruling}
use Rattle.spec_plain.specs.declared.Job.{Job}
use Rattle.spec_plain.specs.declared.Use.{Use}
use Rattle.spec_plain.specs.Plain
use Rattle.spec_plain.specs.Rules.{Times, RuleOn}
use Rattle.spec_stn.specs.Table.{bias, Table, Closed, Fits, Still}
use Rattle.spec_rulebook.specs.Book.{Book, Point, Possible}
use Rattle.theorem_demands.specs.Model.{Board, AbstractRuled, book}

unfoldable pub Each : (Job → ℕ → Type 0) → ℕ → List Job → Type 0
Each P x [] = Unit {0}
Each P x (j ∷ js) = ((i : ℕ) → x ≤ i → i < x + j.points → P j i) × Each P (x + j.points) js

abbrev pub StillJobs : Table → ℕ → List Job → Type 0
StillJobs c x js = Each (λ j i. T j.sent → Still c i) x js

unfoldable pub LineOfLive : ℕ → List Use → Type 0
LineOfLive n [] = Unit {0}
LineOfLive n (u ∷ us) = (u.point < n) × LineOfLive n us

unfoldable pub LinesOfLive : ℕ → List (List Use) → Type 0
LinesOfLive n [] = Unit {0}
LinesOfLive n (l ∷ ls) = LineOfLive n l × LinesOfLive n ls

unfoldable pub AllHavePoints : List Job → Type 0
AllHavePoints [] = Unit {0}
AllHavePoints (j ∷ js) = (0 < j.points) × AllHavePoints js

pub record StandsFor (s : Plain.State) (c : Table) (rs : List (RuleOn Point)) : Type 0 where
  -- no entry exceeds the sum by way of a third point
  pub closed : Closed (Plain.live_count s) c
  -- what the table allows is what the rule book calls possible
  pub same : (u : Times) → ((u 0 ≡ pos 0) × Fits (Plain.live_count s) c u) ↔ Possible (book s rs) u
  -- a sent job's points have one time each, so a retired point's time is known
  pub still : StillJobs c 1 s.jobs
  -- rules between uses are rules between live points
  pub lines : LinesOfLive (Plain.live_count s) s.lines
  -- so each job has a first and a last point
  pub jobs : AllHavePoints s.jobs
  -- a gap plus the bias is not negative
  pub small : s.settings.horizon ≤ bias

pub record Sim (bd : Board) (bk : Book) : Type 0 where
  -- jobs, lines, clock and settings are the same
  pub state : bk.state ≡ bd.state
  -- the table stands for the book's rules
  pub holds : StandsFor bd.state bd.table bk.rules

pub record Mirrors (R : Ruling → Book → Type 0) (a : AbstractRuled) : Type 0 where
  -- every outcome has the board's ruling, and its book is beside the board's
  pub keeps : (r : Ruling) (k : Book) → R r k → (r ≡ a.ruling) × Sim a.board k
  -- there is an outcome
  pub exists : (k : Book) × R a.ruling k
