-- Sent jobs come before unsent ones: with an unsent job behind (first_append), and with the first ones sent (first_marked).
use mathlib.Core.Path.{◌≡◌}
use mathlib.Core.Bool.{false, true≢false}
use mathlib.Core.List.{List, [], ◌∷◌, ◌++◌}
use Prim.Native.Nat.{ℕ, zero, suc}
use Rattle.spec_plain.specs.declared.Job.{Job}
use Rattle.spec_plain.specs.Plain
use Rattle.spec_plain.specs.Sent.{NoneSent, SentFirst}

none_append : (js : List Job) (j : Job) → j.sent ≡ false → NoneSent js → NoneSent (js ++ (j ∷ []))
none_append [] j u a = (u, tt)
none_append (i ∷ js) j u a = (a.0, none_append js j u a.1)

pub first_append : (js : List Job) (j : Job) → j.sent ≡ false → SentFirst js → SentFirst (js ++ (j ∷ []))
first_append [] j u a = ((λ t. tt), tt)
first_append (i ∷ js) j u a = ((λ t. none_append js j u (a.0 t)), first_append js j u a.1)

pub first_marked : (n : ℕ) (js : List Job) → SentFirst js → SentFirst (Plain.sent_up_to n js)
unfolding Plain.sent_up_to
first_marked zero js a = a
first_marked (suc n) [] a = tt
first_marked (suc n) (j ∷ js) a = ((λ e. absurd (true≢false e)), first_marked n js a.1)
