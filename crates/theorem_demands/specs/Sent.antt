-- Which jobs are sent.
--   AllSent js   every job is (plain's specs/Sent: none is, and sent ones first)
--   newest js    the place of the newest job
use Rattle.std.specs.Prelude.{List, [], ◌∷◌, ℕ, suc, T}
use Rattle.spec_plain.specs.declared.Job.{Job}

unfoldable pub AllSent : List Job → Type 0
AllSent [] = Unit {0}
AllSent (j ∷ js) = T j.sent × AllSent js

unfoldable pub newest : List Job → ℕ
newest [] = 0
newest (j ∷ []) = 0
newest (j ∷ i ∷ js) = suc (newest (i ∷ js))
