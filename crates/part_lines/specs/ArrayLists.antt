-- Arrays as lists, and lists laid into arrays. The plain machine is over lists; the code holds each in an array with a count. Only these
-- names stand between the two.
--   jobs_of, line_of, lines_of, rules_of                    the list that is held: the first `count` places
--   jobs_from, line_from, lines_from, rules_from            the list laid into an array, 0 in every place not in use
--   most_rules                                           the most rules that one call makes: a plan makes 1 by rule (b), two for each step by (c), two for
--                                                       each allocation by (d), 1 by (e) and 1 by its due time
--   no_job, no_rule, no_line                                what a place not in use holds; `no_use` is the plain machine's
-- Answers of the code as answers of the plain machine:
--   end_rule d last e   rule (e) with a job whose last point is e, if there is one
--   answered c ls rs   what placing came to, by its answer: the lines and rules are left out where it is a refusal
use Rattle.std.specs.Prelude.{ℕ, ◌+◌, ◌*◌, List, [], ◌∷◌, map, length, take, ⊤, Option, Some, None, Result, Ok, Err}
use Rattle.base_rulings.specs.declared.Cause.{Cause}
use Rattle.part_lines.specs.Padded.{padded}
use Rattle.spec_plain.specs.Limits.{most_jobs, most_uses, most_steps, most_allocations}
use Rattle.spec_plain.specs.Plain.{Placed, new_job, no_use}
use Rattle.spec_plain.specs.declared.Job.{Job}
use Rattle.part_lines.specs.declared.Jobs.{Jobs}
use Rattle.spec_plain.specs.declared.Use.{Use}
use Rattle.part_lines.specs.declared.Line.{Line}
use Rattle.spec_plain.specs.declared.Rule.{Rule}
use Rattle.part_lines.specs.declared.rulelist.Rules.{Rules}

abbrev pub no_job : Job
no_job = new_job 0 0 0

abbrev pub no_rule : Rule
no_rule = record { early = 0; more = 0; late = 0; slack = 0 }

-- no array of lines has it; it is what reading past their end would give
abbrev pub no_line : Line
no_line = record { count = 0; uses = [] }

abbrev pub most_rules : ℕ
most_rules = 1 + 2 * most_steps + 2 * most_allocations + 2

abbrev pub jobs_of : Jobs → List Job
jobs_of j = take j.count j.jobs

abbrev pub jobs_from : List Job → Jobs
jobs_from js = record { count = length js; jobs = padded most_jobs no_job js }

abbrev pub line_of : Line → List Use
line_of l = take l.count l.uses

abbrev pub line_from : List Use → Line
line_from us = record { count = length us; uses = padded most_uses no_use us }

abbrev pub lines_of : List Line → List (List Use)
lines_of = map line_of

abbrev pub lines_from : List (List Use) → List Line
lines_from = map line_from

abbrev pub rules_of : Rules → List Rule
rules_of r = take r.count r.rules

abbrev pub rules_from : List Rule → Rules
rules_from rs = record { count = length rs; rules = padded most_rules no_rule rs }

unfoldable pub end_rule : ℕ → ℕ → Option ℕ → List Rule
end_rule d last None = []
end_rule d last (Some e) = record { early = e; more = d; late = last; slack = 0 } ∷ []

unfoldable pub answered : Result ⊤ Cause → List (List Use) → List Rule → Placed
answered (Ok u) ls rs = Placed.done ls rs
answered (Err c) ls rs = Placed.stop c
