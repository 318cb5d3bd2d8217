-- What the chain yields is the points of each job, and their sum is the total.
use Rattle.std.proofs.Common.{ℕ, ◌+◌, ◌^◌, ◌≡◌, List, [], ◌∷◌, refl, ap, ◌∙◌, rules, tests, arith}
use Rattle.std.specs.List.{sum_by}
use Rattle.std.proofs.lemmas.List.Sums.{sum_by-cons}
use Rattle.std.proofs.lemmas.Iterator.{YieldsList-from_slice, YieldsList-from_map}
use Rattle.std.proofs.lemmas.Iterator.Consumers.{fits_by_from_yields_list, sum_by_from_yields_List}
use Rattle.spec_plain.specs.declared.Job.{Job}
use Rattle.spec_plain.specs.Plain.{total}
use Rattle.part_lines.specs.ArrayLists.{jobs_of}
use Rattle.part_lines.proofs.Jobs.points.Goals as goal

abbrev points_of : Job → ℕ
points_of j = j.points

total_sum : (js : List Job) → sum_by points_of js ≡ total js
unfolding total
total_sum [] = refl
total_sum (j ∷ js) = sum_by-cons points_of j js ∙ ap (λ n. j.points + n) (total_sum js)

pub sum-requires-clause-fits : goal.sum-requires-clause-fits
sum-requires-clause-fits c =
    fits_by_from_yields_list points_of (jobs_of c.args.self.now) c.map.result (2 ^ 32)
    (YieldsList-from_map _ points_of (YieldsList-from_slice (jobs_of c.args.self.now) (search rules)) c.map.ensures.closure (λ x r q k. search (rules, tests)))
    (omega (arith, total_sum (jobs_of c.args.self.now)))

pub returns : goal.returns
returns c =
    sum_by_from_yields_List points_of (jobs_of c.args.self.now) c.map.result c.sum.result c.sum.ensures.ran
    (YieldsList-from_map _ points_of (YieldsList-from_slice (jobs_of c.args.self.now) (search rules)) c.map.ensures.closure (λ x r q k. search (rules, tests)))
    ∙ total_sum (jobs_of c.args.self.now)
