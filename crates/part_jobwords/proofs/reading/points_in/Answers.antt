-- What the chain yields is the points of each job, and their sum is the total, which is small.
use Rattle.std.proofs.Common.{ℕ, ◌+◌, ◌*◌, ◌^◌, ◌<◌, ◌≤◌, ◌≡◌, List, [], ◌∷◌, length, get_or, refl, sym, ap, ◌∙◌, rules, arith, add-one}
use Rattle.std.specs.List.{sum_by, range_with_len}
use Rattle.std.proofs.lemmas.List.Sums.{sum_by-cons}
use Rattle.std.proofs.lemmas.Iterator.{YieldsList-from_range, YieldsList-from_map}
use Rattle.std.proofs.lemmas.Iterator.Consumers.{fits_by_from_yields_list, sum_by_from_yields_List}
use Rattle.base_lists.specs.All.{All}
use Rattle.spec_plain.specs.declared.Job.{Job}
use Rattle.spec_plain.specs.Plain.{total}
use Rattle.part_lines.specs.ArrayLists.{jobs_of, no_job}
use Rattle.part_boardwords.specs.Layout.{count_at}
use Rattle.part_boardwords.specs.Words.{Words, word_in, job_at, held_jobs}
use Rattle.part_boardwords.proofs.Boards.{held_jobs_lem, held_job}
use Rattle.part_jobwords.specs.Counted.{FewPoints}
use Rattle.part_jobwords.proofs.reading.points_in.Goals as goal

abbrev points_at : Words → ℕ → ℕ
points_at w k = (job_at w k).points

sum_from : (w : Words) (a : ℕ) (js : List Job) → ((k : ℕ) → k < length js → get_or js k no_job ≡ job_at w (a + k))
    → sum_by (points_at w) (range_with_len a (length js)) ≡ total js
unfolding total
sum_from w a [] is = refl
sum_from w a (j ∷ js) is =
    sum_by-cons (points_at w) a (range_with_len (a + 1) (length js))
    ∙ (λ i. (here i).points + sum_from w (a + 1) js (λ k h. next k h) i)
  where
    here : job_at w a ≡ j
    here = ap (job_at w) (omega arith) ∙ sym (is 0 (omega arith))

    next : (k : ℕ) → k < length js → get_or js k no_job ≡ job_at w (a + 1 + k)
    next k h = (rw (add-one k) at (is (k + 1) (omega arith))) ∙ ap (job_at w) (omega arith)

few_total : (js : List Job) → All FewPoints js → total js ≤ 9 * length js
unfolding total
few_total [] few = omega arith
few_total (j ∷ js) few = omega (arith, few.0, few_total js few.1)

sum_is : (w : Words) → w count_at ≤ 16 → sum_by (points_at w) (range_with_len 0 (w count_at)) ≡ total (jobs_of (held_jobs w))
sum_is w few =
    ap (λ n. sum_by (points_at w) (range_with_len 0 n)) (sym (held_jobs_lem w few))
    ∙ sum_from w 0 (jobs_of (held_jobs w)) (λ k h. held_job w few k (omega (arith, h, held_jobs_lem w few)) ∙ ap (job_at w) (omega arith))

pub sum-requires-clause-fits : goal.sum-requires-clause-fits
sum-requires-clause-fits c =
    let w = word_in c.args.w.now in
    fits_by_from_yields_list (points_at w) (range_with_len 0 (w count_at)) c.map.result (2 ^ 32)
    (YieldsList-from_map _ (points_at w) (YieldsList-from_range 0 (w count_at) (w count_at) c.map.ensures.source (omega arith)) c.map.ensures.closure (λ x r q k. search rules))
    (omega (arith, sum_is w c.requires.1, few_total (jobs_of (held_jobs w)) c.requires.2, held_jobs_lem w c.requires.1))

pub returns : goal.returns
returns c =
    let w = word_in c.args.w.now in
    sum_by_from_yields_List (points_at w) (range_with_len 0 (w count_at)) c.map.result c.sum.result c.sum.ensures.ran
    (YieldsList-from_map _ (points_at w) (YieldsList-from_range 0 (w count_at) (w count_at) c.map.ensures.source (omega arith)) c.map.ensures.closure (λ x r q k. search rules))
    ∙ sum_is w c.requires.1
