-- The clock call mirrors the board's: its rules name points that are there.
--   starts_within    they do;  clock_mirrors: the call
use mathlib.Core.Bool.{Bool, true, false, cond}
use mathlib.Core.List.{List, [], ◌∷◌, ◌++◌}
use Prim.Native.Nat.{ℕ, ◌+◌, ◌≤◌, ◌<◌}
use native.Mathlib.Omega.{arith}
use Rattle.spec_plain.specs.declared.Job.{Job}
use Rattle.spec_plain.specs.Plain
use Rattle.spec_plain.specs.Rules.{RuleOn, AllKept}
use Rattle.spec_stn.specs.Table.{Table, Within}
use Rattle.spec_rulebook.specs.Book.{Point, made, Settles}
use Rattle.theorem_demands.specs.Model.{book, board, clocking}
use Rattle.theorem_demands.specs.Beside.{AllHavePoints, StandsFor, Mirrors}
use Rattle.theorem_demands.proofs.Jobs.{still_tight, still_jobs}
use Rattle.theorem_demands.proofs.Tries.{live_positive, Tries, try_mirrors}

pub starts_within : (n p : ℕ) (js : List Job) (x : ℕ) → AllHavePoints js → 0 < n → x + Plain.total js ≤ n → Within n (Plain.starts p x js)
unfolding AllHavePoints Within Plain.starts Plain.total Plain.not_before
starts_within n p [] x j z le = tt
starts_within n p (j ∷ js) x jobs z le = go j.sent (starts_within n p js (x + j.points) jobs.1 z (omega arith))
  where
    go :
        (b : Bool) → Within n (Plain.starts p (x + j.points) js)
        → Within n (cond b [] (Plain.not_before x p ∷ []) ++ Plain.starts p (x + j.points) js)
    go true rest = rest
    go false rest = (z, omega (arith, jobs.0), rest)

module _ {s : Plain.State} {c : Table} {rs : List (RuleOn Point)} (h : StandsFor s c rs) (m : ℕ) where
  pub clock_mirrors :
      Mirrors (Settles (book s rs) (made (Plain.clock_state s m) (book s rs) (Plain.starts (m + s.settings.lead) 1 s.jobs)) 20)
      (clocking (board s c) m)
  unfolding Plain.clock_state Plain.live_count AllKept
  clock_mirrors = try_mirrors h tries 20 h.closed (starts_within n (m + s.settings.lead) s.jobs 1 h.jobs (live_positive s) (omega arith))
    where
      n : ℕ
      n = Plain.live_count s

      tries : Tries s (Plain.clock_state s m) c c [] (Plain.starts (m + s.settings.lead) 1 s.jobs)
      tries =
          record {
            fits = λ t. (λ f. (f, tt), λ p. p.0);
            still = λ d cl f.
                let keep = still_tight n n c d cl (live_positive s) (omega arith) (λ t o g. (f t o g).0) in
                still_jobs c d n keep s.jobs 1 (omega arith) h.still;
            lines = h.lines;
            jobs = h.jobs;
            small = h.small;
          }
