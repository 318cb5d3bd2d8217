-- Due times in the job records (document 02, Note 2: "The job record keeps it."): each is its offer's, and stays until its job leaves.
--   dues_of js, dues k   the due times that the records of these jobs have, oldest job first; of the jobs of the book k
--   Turns c was now     the call c, if accepted, turns the due times `was` into `now`
--   Records b c r k     so does the call c on the book b that is ruled r and leaves the book k; a refused one changes none
use Rattle.std.specs.Prelude.{◌≡◌, List, [], ◌∷◌, ◌++◌, map, ℕ}
use Rattle.base_rulings.specs.declared.Ruling.{Ruling}
use Rattle.base_rulings.specs.declared.Ruling.TheVariants.{Accepted, Refused}
use Rattle.read_offer.specs.Offer.{due_of}
use Rattle.spec_plain.specs.declared.Job.{Job}
use Rattle.spec_rulebook.specs.Book.{Book, Call, plan, send, clock, retire}

abbrev pub dues_of : List Job → List ℕ
dues_of js = map (λ (j : Job). j.due) js

abbrev pub dues : Book → List ℕ
dues k = dues_of k.state.jobs

-- the new job comes last, with the due time in its offer's header; the oldest job leaves, with its own
abbrev pub Turns : Call → List ℕ → List ℕ → Type 0
Turns (plan p o) was now = now ≡ was ++ (due_of o ∷ [])
Turns (send place) was now = now ≡ was
Turns (clock c) was now = now ≡ was
Turns retire was now = (q : ℕ) × (was ≡ q ∷ now)

abbrev pub Records : Book → Call → Ruling → Book → Type 0
Records b c Accepted k = Turns c (dues b) (dues k)
Records b c (Refused x) k = dues k ≡ dues b
