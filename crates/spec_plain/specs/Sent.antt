-- Which jobs are sent.
--   NoneSent js     no job is
--   SentFirst js    "sent jobs come before unsent ones" (document 01, on soundness)
use Rattle.std.specs.Prelude.{◌≡◌, false, List, [], ◌∷◌}
use Rattle.spec_plain.specs.declared.Job.{Job}

abbrev pub NoneSent : List Job → Type 0
NoneSent [] = Unit {0}
NoneSent (j ∷ js) = (j.sent ≡ false) × NoneSent js

abbrev pub SentFirst : List Job → Type 0
SentFirst [] = Unit {0}
SentFirst (j ∷ js) = (j.sent ≡ false → NoneSent js) × SentFirst js
