-- Laws of the list of rules. Each function puts rules behind those that are there; the laws say what is held then, and that room is left.
--   rules_back          a list laid into the array is read back;  held_count: how many rules are held
--   Room_of             rules that hold a short list have room;  Room_less: and so for less
--   added               after more rules: what is held, and the room that is left
--   unchanged           no rule put behind
--   pushed              one more rule stored;  extended: one came, where there is one
--   Growing, grows, grown   a loop that puts rules behind: what is held and what is to come are all that is wanted
--   grows_one, grows_some   one rule came; one came, where there is one
--   before_none, before_at, after_none, after_at   (d): the rules with the neighbours of a place;  before_few, after_few: at most one each
--   starts_next         clock: the rules of a first job, and then of the others;  start_rule: of one job
--   newest-*            (e): the search for the newest job of a batch, from the front;  search_from: what it comes to
use Prim.Native.Nat.{ℕ, zero, suc, ◌+◌, ◌-◌, ◌≤◌, ◌<◌}
use mathlib.Core.Path.{◌≡◌, refl, sym, ◌∙◌, ap}
use mathlib.Core.Bool.{Bool, true, false, cond}
use mathlib.Core.List.{List, [], ◌∷◌, ◌++◌, append_assoc, append-nil}
use lib.Dec.{ltb}
use lib.ListN.{length, get_or, set, length-append}
use native.Mathlib.Omega.{arith}
use borrow.Author.Tests.{lt-ltb, le-ltb, eq-eqb, ne_eqb}
use Rattle.spec_plain.specs.Plain.{in_order, no_use, rule_before, rule_after, or_else, after_newest, not_before, starts}
use Rattle.std.specs.Prelude.{Option, Some, None, option_to_list}
use Rattle.part_lines.specs.ArrayLists.{rules_of, rules_from, no_rule, end_rule, most_rules}
use Rattle.part_lines.specs.Asked.{Room}
use Rattle.spec_plain.specs.declared.Job.{Job}
use Rattle.spec_plain.specs.declared.Settings.{Settings}
use Rattle.spec_plain.specs.declared.Use.{Use}
use Rattle.spec_plain.specs.declared.Rule.{Rule}
use Rattle.part_lines.specs.declared.rulelist.Rules.{Rules}
use Rattle.part_lines.proofs.Padded.{padded_push, take_padded}

pub rules_back : (r : Rules) (l : List Rule) → r ≡ rules_from l → length l ≤ most_rules → rules_of r ≡ l
rules_back r l e h = ap rules_of e ∙ take_padded most_rules no_rule l h

pub Room_of : (r : Rules) (l : List Rule) (n : ℕ) → r ≡ rules_from l → length l + n ≤ most_rules → Room n r
Room_of r l n e h =
    record {
      fits = omega (arith, ap (λ (q : Rules). q.count) e);
      tidy = e ∙ ap rules_from (sym (rules_back r l e (omega arith)));
    }

module _ {n : ℕ} {q : Rules} (room : Room n q) where
  pub held_count : q.count ≡ length (rules_of q)
  held_count = ap (λ (x : Rules). x.count) room.tidy

  pub Room_less : (m : ℕ) → m ≤ n → Room m q
  Room_less m h = record { fits = omega (arith, room.fits); tidy = room.tidy }

  pub unchanged : q ≡ rules_from (rules_of q ++ [])
  unchanged = room.tidy ∙ ap rules_from (sym (append-nil (rules_of q)))

  -- the rules `more` came, m places at most
  pub added :
      (r : Rules) (more : List Rule) (m left : ℕ) → r ≡ rules_from (rules_of q ++ more) → length more ≤ m → m + left ≤ n
      → Room left r × (rules_of r ≡ rules_of q ++ more)
  added r more m left e few h =
      let len : length (rules_of q ++ more) ≡ length (rules_of q) + length more = length-append (rules_of q) more in
      let fits : length (rules_of q ++ more) + left ≤ most_rules = omega (arith, held_count, room.fits) in
      (Room_of r (rules_of q ++ more) left e fits, rules_back r (rules_of q ++ more) e (omega arith))

pub pushed :
    (q : Rules) (x : Rule) → Room 1 q
    → ◌≡◌ {A = Rules} (record { count = q.count + 1; rules = set q.rules q.count x }) (rules_from (rules_of q ++ (x ∷ [])))
pushed q x room =
    let l : List Rule = rules_of q in
    let short : length l < most_rules = omega (arith, held_count room, room.fits) in
    let n : length l + 1 ≡ length (l ++ (x ∷ [])) = simp length-append in
    ap one room.tidy ∙ cc (padded_push most_rules no_rule l x short)
  where
    one : Rules → Rules
    one r = record { count = r.count + 1; rules = set r.rules r.count x }

pub extended :
    {n : ℕ} {q : Rules} (r : Rules) (o : Option Rule) → Room (1 + n) q → r ≡ rules_from (rules_of q ++ option_to_list o)
    → Room n r × (rules_of r ≡ rules_of q ++ option_to_list o)
extended {n = n} r None room is = added room r [] 1 n is (omega arith) (omega arith)
extended {n = n} r (Some x) room is = added room r (x ∷ []) 1 n is (omega arith) (omega arith)

pub record Growing (all : List Rule) (q : Rules) (rest : List Rule) (left : ℕ) : Type 0 where
  pub runs : all ≡ rules_of q ++ rest
  pub room : Room left q

pub grows :
    {all rest : List Rule} {q : Rules} {n : ℕ} (r : Rules) (first later : List Rule) (m left : ℕ) → Growing all q rest n → rest ≡ first ++ later
    → r ≡ rules_from (rules_of q ++ first) → length first ≤ m → m + left ≤ n → Growing all r later left
grows {q = q} r first later m left g e is few h =
    let both = added g.room r first m left is few h in
    record {
      runs =
          g.runs ∙ ap (◌++◌ (rules_of q)) e ∙ sym (append_assoc (rules_of q) first later) ∙ ap (λ (l : List Rule). l ++ later) (sym both.1);
      room = both.0;
    }

pub grown : {all rest : List Rule} {q : Rules} {n : ℕ} → Growing all q rest n → rest ≡ [] → q ≡ rules_from all
grown {q = q} g e = unchanged g.room ∙ ap rules_from (sym (g.runs ∙ ap (◌++◌ (rules_of q)) e))

pub grows_one :
    {all rest later : List Rule} {q : Rules} {n left : ℕ} (r : Rules) (x : Rule) → Growing all q rest n → rest ≡ x ∷ later
    → r ≡ rules_from (rules_of q ++ (x ∷ [])) → 1 + left ≤ n → Growing all r later left
grows_one {later = later} {left = left} r x g e is h = grows r (x ∷ []) later 1 left g e is (omega arith) h

pub grows_some :
    {all rest later : List Rule} {q : Rules} {n left : ℕ} (r : Rules) (o : Option Rule) → Growing all q rest n → rest ≡ option_to_list o ++ later
    → r ≡ rules_from (rules_of q ++ option_to_list o) → 1 + left ≤ n → Growing all r later left
grows_some {later = later} {left = left} r None g e is h = grows r [] later 1 left g e is (omega arith) h
grows_some {later = later} {left = left} r (Some x) g e is h = grows r (x ∷ []) later 1 left g e is (omega arith) h

-- ---- (d)

module _ (s : Settings) where
  pub before_none : (l : List Use) (p : ℕ) (u : Use) → p ≡ 0 → [] ≡ rule_before s l p u
  unfolding rule_before
  before_none l p u e = ap (λ (i : ℕ). rule_before s l i u) (sym e)

  pub before_at : (l : List Use) (p j : ℕ) (u : Use) → p ≡ suc j → in_order s (get_or l j no_use) u ∷ [] ≡ rule_before s l p u
  unfolding rule_before
  before_at l p j u e = ap (λ (i : ℕ). rule_before s l i u) (sym e)

  pub after_none : (l : List Use) (p : ℕ) (u : Use) → length l ≤ p → [] ≡ rule_after s l p u
  unfolding rule_after
  after_none l p u h = rw (le-ltb p (length l) h)

  pub after_at : (l : List Use) (p : ℕ) (u : Use) → p < length l → in_order s u (get_or l p no_use) ∷ [] ≡ rule_after s l p u
  unfolding rule_after
  after_at l p u h = rw (lt-ltb p (length l) h)

  pub before_few : (l : List Use) (p : ℕ) (u : Use) → length (rule_before s l p u) ≤ 1
  unfolding rule_before
  before_few l zero u = omega arith
  before_few l (suc p) u = omega arith

  pub after_few : (l : List Use) (p : ℕ) (u : Use) → length (rule_after s l p u) ≤ 1
  unfolding rule_after
  after_few l p u = few (ltb p (length l))
    where
      few : (b : Bool) → length (cond b (in_order s u (get_or l p no_use) ∷ []) []) ≤ 1
      few true = omega arith
      few false = omega arith

-- ---- clock

-- the rule of one job, by whether it is sent
abbrev pub start_rule : ℕ → ℕ → Bool → List Rule
start_rule p x sent = cond sent [] (not_before x p ∷ [])

pub starts_next : (p x : ℕ) (j : Job) (js : List Job) → starts p x (j ∷ js) ≡ start_rule p x j.sent ++ starts p (x + j.points) js
unfolding starts
starts_next p x j js = refl

-- ---- (e)

or_else_none : (rs : List Rule) → or_else rs [] ≡ rs
unfolding or_else
or_else_none [] = refl
or_else_none (r ∷ rs) = refl

-- what the search gives in the end, where `found` was found before the jobs js, of which the first starts at the point x
abbrev pub search_from : ℕ → ℕ → ℕ → ℕ → List Job → Option ℕ → List Rule
search_from d b last x js found = or_else (after_newest d b last x js) (end_rule d last found)

pub newest_start : (d b last x : ℕ) (js : List Job) → search_from d b last x js None ≡ after_newest d b last x js
unfolding end_rule
newest_start d b last x js = or_else_none (after_newest d b last x js)

module _ (d b last x : ℕ) (j : Job) (js : List Job) (found : Option ℕ) where
  or_else_here : (r : Rule) (rs ss : List Rule) → or_else (or_else rs (r ∷ [])) ss ≡ or_else rs (r ∷ [])
  unfolding or_else
  or_else_here r [] ss = refl
  or_else_here r (q ∷ rs) ss = refl

  pub newest_here : j.batch ≡ b → search_from d b last (x + j.points) js (Some (x + j.points - 1)) ≡ search_from d b last x (j ∷ js) found
  unfolding after_newest end_rule
  newest_here e = rw (eq-eqb j.batch b e) (sym (or_else_here _ (after_newest d b last (x + j.points) js) (end_rule d last found)))

  pub newest_not : (j.batch ≡ b → ⊥) → search_from d b last (x + j.points) js found ≡ search_from d b last x (j ∷ js) found
  unfolding after_newest
  newest_not ne =
      rw (ne_eqb j.batch b ne)
      (ap (λ (l : List Rule). or_else l (end_rule d last found)) (sym (or_else_none (after_newest d b last (x + j.points) js))))

pub newest_over : (d b last x : ℕ) (found : Option ℕ) → search_from d b last x [] found ≡ end_rule d last found
unfolding after_newest or_else
newest_over d b last x found = refl
