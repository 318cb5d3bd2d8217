-- Whether sent jobs come first, looked at job by job.
--   sent_pairs   they do where each job but the first is unsent, or behind one that was sent
use Prim.Native.Nat.{ℕ, ◌+◌, ◌-◌, ◌<◌}
use mathlib.Core.Path.{◌≡◌, refl, sym, ◌∙◌, ap}
use mathlib.Core.Bool.{Bool, true, false, not, ◌&&◌, ◌||◌}
use mathlib.Core.List.{List, [], ◌∷◌}
use native.Mathlib.Omega.{arith}
use native.Mathlib.Numerals.{add-one}
use lib.ListN.{length, get_or}
use Rattle.base_lists.specs.Loops.{all_below}
use Rattle.spec_plain.specs.declared.Job.{Job}
use Rattle.part_lines.specs.ArrayLists.{no_job}
use Rattle.part_sound.specs.Sound.{sent_from}
use Rattle.part_sound.proofs.Flags.{first_apart}

abbrev pub sent_pair : (ℕ → Bool) → ℕ → Bool
sent_pair s k = s k || not (s (k + 1))

-- where a job is in order, whether all up to it were sent is whether it was
step : (p q : Bool) (after : Bool → Bool) → ((p || not q) && after (p && q)) ≡ ((p || not q) && after q)
step true q after = refl
step false true after = refl
step false false after = refl

-- s 0 says whether all jobs before the first were sent, and s (k + 1) whether job k was
sent_rest : (js : List Job) (s : ℕ → Bool) → ((k : ℕ) → k < length js → (get_or js k no_job).sent ≡ s (k + 1)) → sent_from (s 0) js ≡ all_below (sent_pair s) (length js)
unfolding sent_from all_below
sent_rest [] s is = refl
sent_rest (j ∷ js) s is =
    let here : j.sent ≡ s 1 = is 0 (omega arith) in
    let rest = sent_rest js (λ k. s (k + 1)) (λ k h. ap (λ (i : ℕ). (get_or (j ∷ js) i no_job).sent) (sym (add-one k)) ∙ is (k + 1) (omega arith)) in
    step (s 0) j.sent (λ q. sent_from q js) ∙ rw here (ap (λ (b : Bool). (s 0 || not (s 1)) && b) rest ∙ sym (first_apart (sent_pair s) (length js)))

pub sent_pairs :
    (js : List Job) (s : ℕ → Bool) (n : ℕ) → length js ≡ n → ((k : ℕ) → k < n → (get_or js k no_job).sent ≡ s k)
    → all_below (sent_pair s) (n - 1) ≡ sent_from true js
unfolding sent_from all_below
sent_pairs [] s n e is = rw (sym e) refl
sent_pairs (j ∷ js) s n e is =
    let here : j.sent ≡ s 0 = is 0 (omega arith) in
    let many : n - 1 ≡ length js = omega arith in
    rw (many, here) (sym (sent_rest js s (λ k h. ap (λ (i : ℕ). (get_or (j ∷ js) i no_job).sent) (sym (add-one k)) ∙ is (k + 1) (omega arith))))
