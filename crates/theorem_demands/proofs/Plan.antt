-- Plan mirrors the board's: new points come with rule (a), and then the draft's rules are tried.
--   plan_mirrors     a draft
--   read_mirrors     what a plan call's bytes come to: an early refusal, or an offer
use mathlib.Core.Path.{◌≡◌}
use mathlib.Core.List.{List, ◌++◌}
use Prim.Native.Nat.{ℕ}
use native.Mathlib.Omega.{arith}
use lib.IntN.{pos}
use Rattle.base_rulings.specs.declared.Ruling.{Ruling}
use Rattle.base_rulings.specs.declared.Ruling.TheVariants.{Accepted, Refused}
use Rattle.spec_plain.specs.declared.Rule.{Rule}
use Rattle.spec_plain.specs.Plain
use Rattle.spec_plain.specs.Rules.{Times, RuleOn}
use Rattle.spec_stn.specs.Table.{Table, Closed, Fits, add_all, grow_all}
use Rattle.spec_stn.proofs.Grow.{grow_all_closed, grow_all_fits}
use Rattle.spec_rulebook.specs.Reading.{Reading, good, offer_of, plan_check, past, reading_of}
use Rattle.spec_rulebook.specs.Book.{Point, made, Settles, Plans, Reads}
use Rattle.theorem_demands.specs.Model.{book, board, settled, decided, heard}
use Rattle.theorem_demands.specs.Beside.{StillJobs, StandsFor, Mirrors}
use Rattle.theorem_demands.proofs.Jobs.{still_tight, still_jobs}
use Rattle.theorem_demands.proofs.Tries.{live_positive, refuse_mirrors, Tries, try_mirrors}
use Rattle.theorem_demands.proofs.Draft.{Joins, DraftIn, drafted_in, offer_in}

module _ {s : Plain.State} {c : Table} {rs : List (RuleOn Point)} (h : StandsFor s c rs) where
  -- the latest time of a new point
  abbrev top : ℕ
  top = Plain.upper_bound s.settings

  joins_mirrors :
      (next : Plain.State) (n : ℕ) (news : List Rule) → Joins s next n news
      → Mirrors (Settles (book s rs) (made next (book s rs) (Plain.bounds top (Plain.live_count s) n ++ news)) 17)
      (settled (board s c) 17 next (add_all news (grow_all top (Plain.live_count s) n c)))
  joins_mirrors next n news j =
      try_mirrors h tries 17
      (grow_all_closed top (Plain.live_count s) n (Plain.live_count next) c j.points h.closed (live_positive s) h.small) j.within
    where
      -- the sent jobs' points stand still among more points
      still :
          (d : Table) → Closed (Plain.live_count next) d → ((t : Times) → t 0 ≡ pos 0 → Fits (Plain.live_count next) d t → Fits (Plain.live_count s) c t)
          → StillJobs d 1 s.jobs
      still d cl f =
          let keep = still_tight (Plain.live_count next) (Plain.live_count s) c d cl (live_positive s) (omega (arith, j.points)) f in
          still_jobs c d (Plain.live_count s) keep s.jobs 1 (unfold Plain.live_count in omega arith) h.still

      tries : Tries s next c (grow_all top (Plain.live_count s) n c) (Plain.bounds top (Plain.live_count s) n) news
      tries =
          record {
            fits = grow_all_fits top (Plain.live_count s) n (Plain.live_count next) c j.points h.closed (live_positive s) h.small;
            still = λ d cl f. j.still d (still d cl (λ t o g. (f t o g).0));
            lines = j.lines;
            jobs = j.jobs;
            small = j.small;
          }

  pub plan_mirrors : (q : Plain.Draft) → DraftIn s q → Mirrors (Plans (book s rs) q) (decided (board s c) q)
  unfolding DraftIn Plans decided
  plan_mirrors (Plain.Draft.stop x) a = refuse_mirrors h x
  plan_mirrors (Plain.Draft.go next n news) a = joins_mirrors next n news a

  -- a reading and the board's answer to it
  abbrev Read : Reading → Type 0
  Read x = Mirrors (Reads (book s rs) x) (heard (board s c) x)

  pub read_mirrors : (p o : List ℕ) → Read (reading_of s p o)
  unfolding reading_of past Reads heard
  read_mirrors p o = go (plan_check s p o)
    where
      go : (r : Ruling) → Read (past r (good (offer_of p o)))
      go Accepted = plan_mirrors (Plain.drafted s (offer_of p o)) (drafted_in s (offer_of p o) h.lines h.jobs h.small (offer_in p o))
      go (Refused x) = refuse_mirrors h x
