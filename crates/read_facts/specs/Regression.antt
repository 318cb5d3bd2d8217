-- "What must hold is worked back from the last step to the first, beginning with the goal": refusals 11 to 13.
--   undoes a l       action a makes false a fact that l has true, or true one that l has false
--   regressed a l    what must hold before a, where l must hold after it
--   back_over a k l   step k, whose action is a: 11, 12, or what must hold before it
--   work_back chain k goal   the chain whose first step is number k, last step first;  then_back: one step more
--   lacking known l  the facts of l that are not known so
--   at_start known l  13, where l must hold at the start;  on_need: what the chain worked back comes to there
--   fact_ruling known goal chain   the ruling: 11 and 12 step by step, then 13 with the lowest lacking fact
use Rattle.std.specs.Prelude.{ℕ, ◌+◌, List, [], ◌∷◌, Bool, cond, ◌||◌, eqb, Result, Ok, Err}
use Rattle.base_masks.specs.Mask.{share, join, strike, lowest}
use Rattle.base_rulings.specs.declared.Cause.{Cause}
use Rattle.base_rulings.specs.declared.Ruling.{Ruling}
use Rattle.base_rulings.specs.declared.Ruling.TheVariants.{Accepted, Refused}
use Rattle.base_rulings.specs.Answer.{cause, refused}
use Rattle.read_facts.specs.declared.Literals.{Literals}
use Rattle.read_facts.specs.declared.Action.{Action}

-- "A step that makes false a fact needed true, or true one needed false, is refusal 11."
unfoldable pub undoes : Action → Literals → Bool
undoes a l = share l.pos a.makes.neg || share l.neg a.makes.pos

-- "Otherwise facts it makes as needed are struck, and its own needs added"
unfoldable pub regressed : Action → Literals → Literals
regressed a l =
    record {
      pos = join (strike l.pos a.makes.pos) a.needs.pos;
      neg = join (strike l.neg a.makes.neg) a.needs.neg;
    }

-- "a fact then needed both ways is refusal 12"
unfoldable pub back_over : Action → ℕ → Literals → Result Literals Cause
back_over a k l =
    cond (undoes a l) (Err (cause 11 k))
    (cond (share (regressed a l).pos (regressed a l).neg) (Err (cause 12 k))
    (Ok (regressed a l)))

abbrev pub then_back : Action → ℕ → Result Literals Cause → Result Literals Cause
then_back a k (Ok l) = back_over a k l
then_back a k (Err c) = Err c

abbrev pub work_back : List Action → ℕ → Literals → Result Literals Cause
work_back [] k goal = Ok goal
work_back (a ∷ rest) k goal = then_back a k (work_back rest (k + 1) goal)

-- "At the start each needed fact must be known so. An unknown fact is neither."
unfoldable pub lacking : Literals → Literals → ℕ
lacking known l = join (strike l.pos known.pos) (strike l.neg known.neg)

unfoldable pub at_start : Literals → Literals → Ruling
at_start known l = cond (eqb (lacking known l) 0) Accepted (refused 13 (lowest (lacking known l)))

abbrev pub on_need : Literals → Result Literals Cause → Ruling
on_need known (Ok l) = at_start known l
on_need known (Err c) = Refused c

unfoldable pub fact_ruling : Literals → Literals → List Action → Ruling
fact_ruling known goal chain = on_need known (work_back chain 0 goal)
