-- The rule book "never forgets a rule": whatever is called, the rules of the book before are still there, their points renamed where a job
-- retired, and new ones only come behind them. No two points ever get one name, and the origin keeps its own. Assumes nothing.
--   back, back_reindexed   the point that got this name when the m points from f on left: it undoes `reindexed`
--   reindexed_apart, reindexed_before   so `reindexed` gives no two points one name; a point before f keeps its own
--   reindexed_stays    a point behind those that leave gets a number that is m lower;  retired: where the oldest job leaves the rules are carried so
--   carried_possible, carried_apart   what that gives: a timetable possible after was possible before; different rules stay different
--   step_carries       every call, under the names of `renaming`;  runs_carry: every list of calls, under names that come of them
use mathlib.Core.Path.{◌≡◌, refl, sym, ap, subst, ◌∙◌}
use mathlib.Core.Logic.{⊎_elim}
use mathlib.Core.Bool.{Bool, true, false, cond}
use mathlib.Core.List.{List, [], ◌∷◌, ◌++◌, map, map-id, map-map, map-append, append_assoc, append-nil}
use Prim.Native.Nat.{ℕ, ◌+◌, ◌-◌, ◌≤◌, ◌<◌}
use native.Mathlib.Decide.{dec_lt}
use native.Mathlib.Omega.{arith}
use lib.Dec.{ltb}
use lib.IntN.{ℤ}
use borrow.Author.Tests.{lt-ltb, le-ltb, le-leb, lt-leb}
use Rattle.base_rulings.specs.declared.Ruling.{Ruling}
use Rattle.base_rulings.specs.declared.Cause.{Cause}
use Rattle.spec_plain.specs.declared.Rule.{Rule}
use Rattle.spec_plain.specs.Plain
use Rattle.spec_plain.specs.Rules.{Times, RuleOn, named, renamed, AllKept}
use Rattle.spec_plain.proofs.Rules.{kept_append, kept_ext, kept_renamed}
use Rattle.spec_rulebook.specs.Reading.{Reading, bad, good, reading_of}
use Rattle.spec_rulebook.specs.Book.{Book, Point, live, gone, completed, Possible, Call, plan, send, clock, retire, made, reindexed, Refuses, Settles, Guarded, Plans}
use Rattle.spec_rulebook.specs.Book.{Reads, Sends, Retires, Step, Runs}
use Rattle.spec_rulebook.specs.Carried.{leaving_names, renaming, Carries}

-- ---- where the m points from f on left

-- those that left last are the first m of the retired
unfoldable back : ℕ → ℕ → Point → Point
back f m (gone k) = cond (ltb k m) (live (k + f)) (gone (k - m))
back f m (live k) = cond (ltb k f) (live k) (live (k + m))

module _ (f m : ℕ) where
  -- one that was retired already
  back_gone : (k : ℕ) → back f m (reindexed f m (gone k)) ≡ gone k
  unfolding back reindexed
  back_gone k = rw (le-ltb (k + m) m (omega arith)) (ap gone (omega arith))

  -- one before those that leave
  reindexed_before : (k : ℕ) → k < f → reindexed f m (live k) ≡ live k
  unfolding reindexed Plain.goes Plain.new_number
  reindexed_before k h = simp (lt-leb f k h, lt-ltb k f h)

  -- one of the m that leave
  reindexed_leaves : (k : ℕ) → f ≤ k → k < f + m → reindexed f m (live k) ≡ gone (k - f)
  unfolding reindexed Plain.goes
  reindexed_leaves k lo hi = simp (le-leb f k lo, lt-ltb k (f + m) hi)

  -- one behind them
  pub reindexed_stays : (k : ℕ) → f + m ≤ k → reindexed f m (live k) ≡ live (k - m)
  unfolding reindexed Plain.goes Plain.new_number
  reindexed_stays k h = simp (le-leb f k (omega arith), le-ltb k (f + m) h, le-ltb k f (omega arith))

  back_live : (k : ℕ) → back f m (reindexed f m (live k)) ≡ live k
  unfolding back
  back_live k = go (dec_lt k f) (dec_lt k (f + m))
    where
      go : Dec (k < f) → Dec (k < f + m) → back f m (reindexed f m (live k)) ≡ live k
      go (yes lt) d = ap (back f m) (reindexed_before k lt) ∙ rw (lt-ltb k f lt)
      go (no ge) (yes lt) =
          ap (back f m) (reindexed_leaves k (omega arith) lt) ∙ rw (lt-ltb (k - f) m (omega arith)) (ap live (omega arith))
      go (no ge) (no past) =
          ap (back f m) (reindexed_stays k (omega arith)) ∙ rw (le-ltb (k - m) f (omega arith)) (ap live (omega arith))

  back_reindexed : (x : Point) → back f m (reindexed f m x) ≡ x
  back_reindexed (live k) = back_live k
  back_reindexed (gone k) = back_gone k

  reindexed_apart : (x y : Point) → reindexed f m x ≡ reindexed f m y → x ≡ y
  reindexed_apart x y e = sym (back_reindexed x) ∙ ap (back f m) e ∙ back_reindexed y

-- ---- the steps

same_names : (rs : List (RuleOn Point)) → map (renamed (λ x. x)) rs ≡ rs
unfolding renamed
same_names rs = map-id rs

unchanged : (b k : Book) → k ≡ b → Carries (λ x. x) b k
unchanged b k e =
    record {
      apart = λ x y h. h;
      origin = refl;
      news = [];
      kept = ap (λ (z : Book). z.rules) e ∙ sym (append-nil _ ∙ same_names b.rules);
    }

more : (s : Plain.State) (b k : Book) (rs : List Rule) → k ≡ made s b rs → Carries (λ x. x) b k
unfolding made
more s b k rs e =
    record {
      apart = λ x y h. h;
      origin = refl;
      news = map (named live) rs;
      kept = ap (λ (z : Book). z.rules) e ∙ sym (ap (λ (l : List (RuleOn Point)). l ++ map (named live) rs) (same_names b.rules));
    }

refuses : (b k : Book) (c : Cause) (r : Ruling) → Refuses b c r k → Carries (λ x. x) b k
unfolding Refuses
refuses b k c r p = unchanged b k p.1

settles : (s : Plain.State) (b k : Book) (rs : List Rule) (n : ℕ) (r : Ruling) → Settles b (made s b rs) n r k → Carries (λ x. x) b k
unfolding Settles
settles s b k rs n r p = ⊎_elim (λ a. more s b k rs a.2) (λ f. refuses b k _ r f.1) p

plans : (b k : Book) (d : Plain.Draft) (r : Ruling) → Plans b d r k → Carries (λ x. x) b k
unfolding Plans
plans b k (Plain.Draft.stop c) r p = refuses b k c r p
plans b k (Plain.Draft.go s n rs) r p = settles s b k _ 17 r p

reads : (b k : Book) (x : Reading) (r : Ruling) → Reads b x r k → Carries (λ x. x) b k
unfolding Reads
reads b k (bad c) r p = refuses b k c r p
reads b k (good o) r p = plans b k (Plain.drafted b.state o) r p

guarded :
    (t : Bool) (n : ℕ) (b k : Book) (R : Ruling → Book → Type 0) (r : Ruling) → (R r k → Carries (λ x. x) b k) → Guarded t n b R r k
    → Carries (λ x. x) b k
unfolding Guarded
guarded true n b k R r h p = h p
guarded false n b k R r h p = refuses b k _ r p

pub retired : (m : ℕ) (b k : Book) → k.rules ≡ map (renamed (reindexed 1 m)) b.rules → Carries (reindexed 1 m) b k
retired m b k e =
    record {
      apart = reindexed_apart 1 m;
      origin = reindexed_before 1 m 0 (omega arith);
      news = [];
      kept = e ∙ sym (append-nil _);
    }

retires : (b k : Book) (x : Plain.Leaving) (r : Ruling) → Retires b x r k → Carries (leaving_names x r) b k
unfolding Retires Refuses leaving_names
retires b k Plain.Leaving.stop r p = refuses b k _ r p
retires b k (Plain.Leaving.go m rs s) r p =
    ⊎_elim (λ a. rw a.1 (retired m b k (ap (λ (z : Book). z.rules) a.2))) (λ f. rw f.1.0 (unchanged b k f.1.1)) p

pub step_carries : (b k : Book) (c : Call) (r : Ruling) → Step b c r k → Carries (renaming b c r) b k
unfolding Step Sends renaming
step_carries b k (plan p o) r q = reads b k (reading_of b.state p o) r q
step_carries b k (send place) r q = guarded _ 18 b k _ r (λ s. more _ b k _ s.3) q
step_carries b k (clock c) r q = guarded _ 19 b k _ r (λ s. settles _ b k _ 20 r s) q
step_carries b k retire r q = retires b k (Plain.leaving b.state) r q

-- names after names, and what came first is renamed with the rest
carried : (f g : Point → Point) (b m k : Book) → Carries f b m → Carries g m k → Carries (λ x. g (f x)) b k
unfolding renamed
carried f g b m k p q =
    record {
      apart = λ x y e. p.apart x y (q.apart (f x) (f y) e);
      origin = ap g p.origin ∙ q.origin;
      news = map (renamed g) p.news ++ q.news;
      kept =
          q.kept
          ∙ ap (λ (l : List (RuleOn Point)). map (renamed g) l ++ q.news) p.kept
          ∙ ap (λ (l : List (RuleOn Point)). l ++ q.news) (map-append (renamed g) (map (renamed f) b.rules) p.news)
          ∙ append_assoc (map (renamed g) (map (renamed f) b.rules)) (map (renamed g) p.news) q.news
          ∙ ap (λ (l : List (RuleOn Point)). l ++ (map (renamed g) p.news ++ q.news)) (map-map (renamed g) (renamed f) b.rules);
    }

pub runs_carry : (b : Book) (cs : List Call) (rs : List Ruling) (k : Book) → Runs b cs rs k → (names : Point → Point) × Carries names b k
unfolding Runs
runs_carry b [] rs k p = (λ x. x, unchanged b k p.1)
runs_carry b (c ∷ cs) rs k p =
    let first = step_carries b p.1 c p.0 p.3 in
    let rest = runs_carry p.1 cs p.2 k p.5 in
    (λ x. rest.0 (renaming b c p.0 x), carried (renaming b c p.0) rest.0 b p.1 k first rest.1)

-- ---- what it is for

same_rule : (r s : RuleOn Point) → r.early ≡ s.early → r.more ≡ s.more → r.late ≡ s.late → r.slack ≡ s.slack → r ≡ s
same_rule r s a m b n = rw (a, m, b, n) refl

at_names : (names : Point → Point) (t : Point → ℤ) (x : Point) → t (names x) ≡ completed (λ k. t (names (live k))) (λ k. t (names (gone k))) x
unfolding completed
at_names names t (live k) = refl
at_names names t (gone k) = refl

at_live : (u : Times) (g : ℕ → ℤ) (k : ℕ) → completed u g (live k) ≡ u k
unfolding completed
at_live u g k = refl

module _ (names : Point → Point) (b k : Book) (c : Carries names b k) where
  -- whatever timetable is possible after the call, one with the same times was possible before it: the live points that stay live have them
  pub carried_possible :
      (u : Times) → Possible k u → (w : Times) × Possible b w × ((x y : ℕ) → names (live x) ≡ live y → w x ≡ u y)
  unfolding Possible
  carried_possible u p =
      let g = p.1.0 in
      let t : Point → ℤ = completed u g in
      let all : AllKept t (map (renamed names) b.rules ++ c.news) = subst (λ (l : List (RuleOn Point)). AllKept t l) c.kept p.1.1 in
      let old : AllKept (λ x. t (names x)) b.rules =
      (kept_renamed names t b.rules).0 ((kept_append t (map (renamed names) b.rules) c.news).0 all).0 in (
        λ x. t (names (live x)),
        (ap t c.origin ∙ at_live u g 0 ∙ p.0, ((λ x. t (names (gone x))), kept_ext (λ x. t (names x)) _ (at_names names t) b.rules old)),
        λ x y e. ap t e ∙ at_live u g y,
      )

  -- different rules stay different
  pub carried_apart : (r s : RuleOn Point) → renamed names r ≡ renamed names s → r ≡ s
  unfolding renamed
  carried_apart r s e =
      let early : r.early ≡ s.early = c.apart r.early s.early (ap (λ (q : RuleOn Point). q.early) e) in
      let late : r.late ≡ s.late = c.apart r.late s.late (ap (λ (q : RuleOn Point). q.late) e) in
      let more : r.more ≡ s.more = ap (λ (q : RuleOn Point). q.more) e in
      let slack : r.slack ≡ s.slack = ap (λ (q : RuleOn Point). q.slack) e in
      same_rule r s early more late slack
