-- What a call comes to, whatever is said of it: where P is true of each refusal with the book before, and of an acceptance with the book to be, it is true of
-- the ruling r and the book k that the call leaves. So each law of all calls says only what is its own. Assumes nothing.
--   refused, accepted, settled, guarded   a refusal; an acceptance; by Settles and Guarded
--   planned            plan, where P is true of what the offer comes to once it is read and there is room
--   left b m s         the book b after the oldest job, of m points, left, where s is the state to be;  retiring: retire, where P is true of it
use mathlib.Core.Path.{◌≡◌, refl}
use mathlib.Core.Logic.{⊎_elim}
use mathlib.Core.Bool.{Bool, true, false, cond}
use mathlib.Core.List.{List, [], ◌∷◌, map}
use Prim.Native.Nat.{ℕ}
use Rattle.base_rulings.specs.declared.Ruling.{Ruling}
use Rattle.base_rulings.specs.declared.Ruling.TheVariants.{Accepted, Refused}
use Rattle.base_rulings.specs.declared.Cause.{Cause}
use Rattle.base_rulings.specs.Answer.{plain}
use Rattle.spec_plain.specs.declared.Job.{Job}
use Rattle.spec_plain.specs.declared.Rule.{Rule}
use Rattle.spec_plain.specs.Plain
use Rattle.spec_plain.specs.Rules.{renamed}
use Rattle.spec_rulebook.specs.Reading.{good, past}
use Rattle.spec_rulebook.specs.Book.{Book, reindexed, Refuses, Settles, Guarded, Plans, Reads, Retires}

abbrev pub left : Book → ℕ → Plain.State → Book
left b m s = record { state = s; rules = map (renamed (reindexed 1 m)) b.rules }

module _ (P : Ruling → Book → Type 0) (b k : Book) (r : Ruling) (old : (c : Cause) → P (Refused c) b) where
  pub refused : (c : Cause) → Refuses b c r k → P r k
  unfolding Refuses
  refused c p = rw (p.0, p.1) (old c)

  pub accepted : (next : Book) → P Accepted next → r ≡ Accepted → k ≡ next → P r k
  accepted next h ruled leaves = rw (ruled, leaves) h

  pub settled : (next : Book) (n : ℕ) → P Accepted next → Settles b next n r k → P r k
  unfolding Settles
  settled next n h p = ⊎_elim (λ a. accepted next h a.1 a.2) (λ f. refused _ f.1) p

  pub guarded : (t : Bool) (n : ℕ) (R : Ruling → Book → Type 0) → (R r k → P r k) → Guarded t n b R r k → P r k
  unfolding Guarded
  guarded true n R h p = h p
  guarded false n R h p = refused _ p

  -- ---- plan

  drafting : (t : Bool) (d : Plain.Draft) → (Plans b d r k → P r k) → Plans b (cond t (Plain.Draft.stop (plain 14)) d) r k → P r k
  unfolding Plans
  drafting true d h p = refused (plain 14) p
  drafting false d h p = h p

  -- t is what the tests of the bytes come to, o the offer that the bytes spell, x what placing it comes to
  pub planned : (t : Ruling) (o : Plain.Offer) → ((x : Plain.Placed) → Plans b (Plain.joining b.state o x) r k → P r k)
      → Reads b (past t (good o)) r k → P r k
  unfolding Reads past Plain.drafted
  planned (Refused c) o h p = refused c p
  planned Accepted o h p = drafting (Plain.full b.state (Plain.new_points o)) _ (h _) p

  -- ---- retire

  leaving : (t : Bool) (m : ℕ) (rs : List Rule) (s : Plain.State) → P Accepted (left b m s)
      → Retires b (cond t (Plain.Leaving.go m rs s) Plain.Leaving.stop) r k → P r k
  unfolding Retires
  leaving true m rs s h p = ⊎_elim (λ a. accepted (left b m s) h a.1 a.2) (λ f. refused _ f.1) p
  leaving false m rs s h p = refused _ p

  -- js are the jobs, the oldest first
  pub retiring : (js : List Job)
      → ((j : Job) (rest : List Job) → js ≡ j ∷ rest → P Accepted (left b j.points (Plain.without 1 j.points rest b.state)))
      → Retires b (Plain.leaving_from b.state js) r k → P r k
  unfolding Retires Plain.leaving_from
  retiring [] h p = refused _ p
  retiring (j ∷ rest) h p = leaving j.sent j.points _ _ (h j rest refl) p
