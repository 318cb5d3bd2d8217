-- Laws of the rows.
--   row_here, row_on   row k of a list of jobs is one of the first job's, or one of the others'
--   length_rows        there is a row for each point but the origin
--   found              row k is that of point k, in number order
use Prim.Native.Nat.{ℕ, zero, suc, ◌+◌, ◌-◌, ◌≤◌, ◌<◌}
use mathlib.Core.Path.{◌≡◌, refl, ◌∙◌, ap}
use mathlib.Core.List.{List, [], ◌∷◌, ◌++◌}
use native.Mathlib.Omega.{arith}
use native.Mathlib.Decide.{dec_lt}
use lib.ListN.{length, get_or, take}
use Rattle.spec_plain.specs.declared.Job.{Job}
use Rattle.spec_plain.specs.Plain.{total}
use Rattle.part_lines.specs.ArrayLists.{no_job}
use Rattle.spec_stn.specs.Table.{Table}
use Rattle.call_report.specs.declared.Row.{Row}
use Rattle.call_report.specs.Rows.{row_of, job_rows, rows_from, rows_in, no_row}

-- ---- rows

pub same_row : (c : Table) (p : ℕ) {k m x y : ℕ} → k ≡ m → x ≡ y → row_of c p k x ≡ row_of c p m y
same_row c p e f i = row_of c p (e i) (f i)

job_row : (c : Table) (p k x n d : ℕ) (more : List Row) → d < n → get_or (job_rows c p k x n ++ more) d no_row ≡ row_of c p (k + d) (x + d)
unfolding job_rows
job_row c p k x zero d more h = absurd (omega arith)
job_row c p k x (suc n) zero more h = same_row c p (omega arith) (omega arith)
job_row c p k x (suc n) (suc d) more h = job_row c p (suc k) (suc x) n d more (omega arith) ∙ same_row c p (omega arith) (omega arith)

job_past : (c : Table) (p k x n d : ℕ) (more : List Row) → n ≤ d → get_or (job_rows c p k x n ++ more) d no_row ≡ get_or more (d - n) no_row
unfolding job_rows
job_past c p k x zero d more h = ap (λ (m : ℕ). get_or more m no_row) (omega arith)
job_past c p k x (suc n) zero more h = absurd (omega arith)
job_past c p k x (suc n) (suc d) more h =
    job_past c p (suc k) (suc x) n d more (omega arith) ∙ ap (λ (m : ℕ). get_or more m no_row) (omega arith)

module _ (c : Table) (p x : ℕ) (j : Job) (js : List Job) (k : ℕ) where
  pub row_here : k < j.points → get_or (rows_from c p x (j ∷ js)) k no_row ≡ row_of c p k (x + k)
  unfolding rows_from
  row_here h = job_row c p 0 x j.points k _ h ∙ same_row c p (omega arith) refl

  pub row_on : j.points ≤ k → get_or (rows_from c p x (j ∷ js)) k no_row ≡ get_or (rows_from c (suc p) (x + j.points) js) (k - j.points) no_row
  unfolding rows_from
  row_on h = job_past c p 0 x j.points k _ h

pub length_from : (c : Table) (p x : ℕ) (js : List Job) → length (rows_from c p x js) ≡ total js
unfolding job_rows rows_from total
length_from c p x [] = refl
length_from c p x (j ∷ js) = job_length c p 0 x j.points _ ∙ ap (λ (m : ℕ). j.points + m) (length_from c (suc p) (x + j.points) js)
  where
    job_length : (c : Table) (p k x n : ℕ) (more : List Row) → length (job_rows c p k x n ++ more) ≡ n + length more
    job_length c p k x zero more = omega arith
    job_length c p k x (suc n) more = ap suc (job_length c p (suc k) (suc x) n more) ∙ omega arith

pub length_rows : (l : List ℕ) (js : List Job) → length (rows_in l js) ≡ total js
unfolding rows_in
length_rows l js = length_from _ 0 1 js

-- Row k of a list of jobs is that of its point k, in number order: so many points come in the jobs before, and in its own job before it.
pub record Found (c : Table) (p x : ℕ) (js : List Job) (k : ℕ) : Type 0 where
  pub place : ℕ
  pub point : ℕ
  pub row : get_or (rows_from c p x js) k no_row ≡ row_of c (p + place) point (x + k)
  pub number : total (take place js) + point ≡ k
  pub inside : point < (get_or js place no_job).points

pub found : (c : Table) (p x : ℕ) (js : List Job) (k : ℕ) → k < total js → Found c p x js k
unfolding total
found c p x [] k h = absurd (omega arith)
found c p x (j ∷ js) k h = go (λ ge. found c (suc p) (x + j.points) js (k - j.points) (omega arith)) (dec_lt k j.points)
  where
    go : (j.points ≤ k → Found c (suc p) (x + j.points) js (k - j.points)) → Dec (k < j.points) → Found c p x (j ∷ js) k
    go later (yes lt) =
        let same : p ≡ p + 0 = omega arith in
        record {
          place = 0;
          point = k;
          row = row_here c p x j js k lt ∙ (λ i. row_of c (same i) k (x + k));
          number = omega arith;
          inside = lt;
        }
    go later (no ge) =
        let r = later (omega arith) in
        let place : suc p + r.place ≡ p + suc r.place = omega arith in
        let number : x + j.points + (k - j.points) ≡ x + k = omega arith in
        record {
          place = suc r.place;
          point = r.point;
          row = row_on c p x j js k (omega arith) ∙ r.row ∙ (λ i. row_of c (place i) r.point (number i));
          number = let rest = r.number in omega (arith, rest);
          inside = r.inside;
        }
