-- The rule book (document 01): "the plain machine. It is fed what the fresh board was made with and then each call's arguments except the
-- board, and none of the answers." It "never forgets a rule", and "finds out what exists by the definition, with no table".
--   Call               a call's arguments: raw bytes and numbers
--   Point              a live point by its number, the origin 0; or a retired one
--   Book               the plain machine's state, and every rule made so far;  fresh s: the first one;  made: with more rules
--   Possible b u       the timetable u over the live points is possible, `completed` by numbers for the retired ones
--   Consistent b               some timetable is possible
--   LeastTime Y x v    v is the least time of x over the timetables Y: attained, and never below;  GreatestTime: the greatest, never above
--   LargestGap Y i j d d is the largest time of j minus time of i over the timetables Y: attained, and never passed
--   Least, Greatest    the least and the greatest value of a point over the possible timetables
--   Gap b i j d        d is the largest time of j minus time of i over the possible timetables: entry (i, j) of the gap table
--   Entails b rs       every possible timetable keeps these rules
--   Refuses, Settles, Guarded   a refusal; rules that are made if some timetable keeps them; a test before a step
--   Step b c r k       the call c on the book b is ruled r and leaves the book k, by Reads and Plans, Sends (AllLeast) and Retires (reindexed)
--   Runs b cs rs k     a list of calls, their rulings, and the book at the end
-- Step is a relation, since what exists is not computed here; that each call has one outcome is proved through the board.
use Rattle.std.specs.Prelude.{◌≡◌, ◌⊎◌, Bool, true, false, cond, List, [], ◌∷◌, ◌++◌, map, ℕ, zero, suc, ◌+◌, ◌-◌, ℤ, pos, ◌+ℤ◌, ◌≤ℤ◌}
use Rattle.base_rulings.specs.declared.Cause.{Cause}
use Rattle.base_rulings.specs.declared.Ruling.{Ruling}
use Rattle.base_rulings.specs.declared.Ruling.TheVariants.{Accepted, Refused}
use Rattle.base_rulings.specs.Answer.{plain}
use Rattle.spec_plain.specs.Limits.{resources}
use Rattle.spec_plain.specs.declared.Settings.{Settings}
use Rattle.spec_plain.specs.declared.Use.{Use}
use Rattle.spec_plain.specs.declared.Rule.{Rule}
use Rattle.spec_plain.specs.Plain
use Rattle.spec_plain.specs.Rules.{Times, RuleOn, named, renamed, AllKept, KeepsAll}
use Rattle.spec_rulebook.specs.Reading.{Reading, bad, good, reading_of}

-- plan takes a plant file's bytes and an offer's
pub data Call : Type 0 where
  plan : List ℕ → List ℕ → Call
  send : ℕ → Call
  clock : ℕ → Call
  retire : Call

-- a retired point keeps its rules; the latest retired come first
pub data Point : Type 0 where
  live : ℕ → Point
  gone : ℕ → Point

pub record Book : Type 0 where
  pub state : Plain.State
  pub rules : List (RuleOn Point)

-- "It starts empty, with clock 0 and the origin": sixteen empty lines
unfoldable pub empty_lines : ℕ → List (List Use)
empty_lines zero = []
empty_lines (suc n) = [] ∷ empty_lines n

unfoldable pub fresh : Settings → Book
fresh s = record { state = record { jobs = []; lines = empty_lines resources; clock = 0; settings = s }; rules = [] }

-- ---- what is possible

-- times for the live points, completed by numbers for the retired ones
unfoldable pub completed : Times → (ℕ → ℤ) → Point → ℤ
completed u g (live x) = u x
completed u g (gone x) = g x

-- "A timetable gives each point a whole number, the origin 0." It "is possible if some numbers for the retired points complete it so that
-- every rule is kept". What u gives to numbers without a live point does not matter, since no rule names them
unfoldable pub Possible : Book → Times → Type 0
Possible b u = (u 0 ≡ pos 0) × ((g : ℕ → ℤ) × AllKept (completed u g) b.rules)

unfoldable pub Consistent : Book → Type 0
Consistent b = (u : Times) × Possible b u

-- ---- least and greatest values, over a set Y of timetables

pub record LeastTime (Y : Times → Type 0) (x v : ℕ) : Type 0 where
  pub attained : (u : Times) × Y u × (u x ≡ pos v)
  pub least : (u : Times) → Y u → pos v ≤ℤ u x

pub record GreatestTime (Y : Times → Type 0) (x v : ℕ) : Type 0 where
  pub attained : (u : Times) × Y u × (u x ≡ pos v)
  pub most : (u : Times) → Y u → u x ≤ℤ pos v

-- the largest time of j minus time of i
pub record LargestGap (Y : Times → Type 0) (i j : ℕ) (d : ℤ) : Type 0 where
  pub attained : (u : Times) × Y u × (u j ≡ u i +ℤ d)
  pub most : (u : Times) → Y u → u j ≤ℤ (u i +ℤ d)

-- the least and the greatest value of a point; by rule (a) neither is below 0
abbrev pub Least : Book → ℕ → ℕ → Type 0
Least b x v = LeastTime (Possible b) x v

abbrev pub Greatest : Book → ℕ → ℕ → Type 0
Greatest b x v = GreatestTime (Possible b) x v

-- "Entry (i, j) of the gap table is the largest time of j minus time of i over the possible timetables."
abbrev pub Gap : Book → ℕ → ℕ → ℤ → Type 0
Gap b i j d = LargestGap (Possible b) i j d

-- in every possible timetable these rules are kept
unfoldable pub Entails : Book → List Rule → Type 0
Entails b rs = (u : Times) → Possible b u → KeepsAll u rs

-- ---- the steps

-- "a refused call changes nothing in it"
unfoldable pub Refuses : Book → Cause → Ruling → Book → Type 0
Refuses b c r k = (r ≡ Refused c) × (k ≡ b)

-- the book with these rules made
unfoldable pub made : Plain.State → Book → List Rule → Book
made s b rs = record { state = s; rules = b.rules ++ map (named live) rs }

-- the rules are made if some timetable then keeps all, and else the call is refused with the number n: 17 for plan, 20 for clock
unfoldable pub Settles : Book → Book → ℕ → Ruling → Book → Type 0
Settles b next n r k = (Consistent next × (r ≡ Accepted) × (k ≡ next)) ⊎ (¬ (Consistent next) × Refuses b (plain n) r k)

-- where the test fails the call is refused with the number n
unfoldable pub Guarded : Bool → ℕ → Book → (Ruling → Book → Type 0) → Ruling → Book → Type 0
Guarded true n b R r k = R r k
Guarded false n b R r k = Refuses b (plain n) r k

-- (a) comes before the draft's (b) to (e) and the due time's rule
unfoldable pub Plans : Book → Plain.Draft → Ruling → Book → Type 0
Plans b (Plain.Draft.stop c) r k = Refuses b c r k
Plans b (Plain.Draft.go s n rs) r k =
    Settles b (made s b (Plain.bounds (Plain.upper_bound b.state.settings) (Plain.live_count b.state) n ++ rs)) 17 r k

unfoldable pub Reads : Book → Reading → Ruling → Book → Type 0
Reads b (bad c) r k = Refuses b c r k
Reads b (good o) r k = Plans b (Plain.drafted b.state o) r k

-- each of these points has its least value
unfoldable pub AllLeast : Book → (ℕ → ℕ) → List ℕ → Type 0
AllLeast b v [] = Unit {0}
AllLeast b v (x ∷ xs) = Least b x (v x) × AllLeast b v xs

-- the points are set equal to their least values
unfoldable pub Sends : Book → ℕ → List ℕ → Ruling → Book → Type 0
Sends b place xs r k =
    (v : ℕ → ℕ) × AllLeast b v xs × (r ≡ Accepted) × (k ≡ made (Plain.sent_state b.state place) b (Plain.freeze v xs))

-- the m points from f on leave, and those behind them are renumbered down
unfoldable pub reindexed : ℕ → ℕ → Point → Point
reindexed f m (gone x) = gone (x + m)
reindexed f m (live x) = cond (Plain.goes f m x) (gone (x - f)) (live (Plain.new_number f m x))

-- 21: "or its last point or an allocation ends after the clock". "The rule book keeps its rules."
unfoldable pub Retires : Book → Plain.Leaving → Ruling → Book → Type 0
Retires b Plain.Leaving.stop r k = Refuses b (plain 21) r k
Retires b (Plain.Leaving.go m rs s) r k =
    (Entails b rs × (r ≡ Accepted) × (k ≡ record { state = s; rules = map (renamed (reindexed 1 m)) b.rules }))
    ⊎ (¬ (Entails b rs) × Refuses b (plain 21) r k)

unfoldable pub Step : Book → Call → Ruling → Book → Type 0
Step b (plan p o) r k = Reads b (reading_of b.state p o) r k
Step b (send place) r k = Guarded (Plain.unsent_at place b.state.jobs) 18 b (Sends b place (Plain.unsent_points 1 (suc place) b.state.jobs)) r k
Step b (clock c) r k =
    Guarded (Plain.clock_ok b.state c) 19 b
    (Settles b (made (Plain.clock_state b.state c) b (Plain.starts (c + b.state.settings.lead) 1 b.state.jobs)) 20) r k
Step b retire r k = Retires b (Plain.leaving b.state) r k

unfoldable pub Runs : Book → List Call → List Ruling → Book → Type 0
Runs b [] rs k = (rs ≡ []) × (k ≡ b)
Runs b (c ∷ cs) rs k = (r : Ruling) × (m : Book) × (rest : List Ruling) × Step b c r m × (rs ≡ r ∷ rest) × Runs m cs rest k
