-- Timetables and rules (document 01, "Points, rules, timetables"). Times are whole numbers, ℤ of the library, and so is their order.
--   Times          a timetable over point numbers: "A timetable gives each point a whole number"
--   RuleOn P       a rule over points of the kind P; the plain machine's rules are over point numbers
--   named f r      a rule of the plain machine, its points named by f;  renamed f r: a rule with its points renamed
--   Kept t r       the times t keep the rule r;  AllKept t rs: every rule of a list
--   Keeps, KeepsAll   the same of the plain machine's rules, whose points are numbers
use Rattle.std.specs.Prelude.{List, [], ◌∷◌, map, ℕ, ℤ, pos, ◌+ℤ◌, ◌≤ℤ◌}
use Rattle.spec_plain.specs.declared.Rule.{Rule}

abbrev pub Times : Type 0
Times = ℕ → ℤ

-- "A rule says that one point's time minus another's is at most a number": early − late ≤ slack − more
pub record RuleOn (P : Type 0) : Type 0 where
  pub early : P
  pub more : ℕ
  pub late : P
  pub slack : ℕ

unfoldable pub named : {P : Type 0} → (ℕ → P) → Rule → RuleOn P
named f r = record { early = f r.early; more = r.more; late = f r.late; slack = r.slack }

unfoldable pub renamed : {P Q : Type 0} → (P → Q) → RuleOn P → RuleOn Q
renamed f r = record { early = f r.early; more = r.more; late = f r.late; slack = r.slack }

-- "A rule with the same point on both sides is just true or false": it needs no clause of its own
unfoldable pub Kept : {P : Type 0} → (P → ℤ) → RuleOn P → Type 0
Kept t r = (t r.early +ℤ pos r.more) ≤ℤ (t r.late +ℤ pos r.slack)

unfoldable pub AllKept : {P : Type 0} → (P → ℤ) → List (RuleOn P) → Type 0
AllKept t [] = Unit {0}
AllKept t (r ∷ rs) = Kept t r × AllKept t rs

-- the points of the plain machine's rules are their own names
abbrev pub Keeps : Times → Rule → Type 0
Keeps t r = Kept t (named (λ x. x) r)

abbrev pub KeepsAll : Times → List Rule → Type 0
KeepsAll t rs = AllKept t (map (named (λ x. x)) rs)
