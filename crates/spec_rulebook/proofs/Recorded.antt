-- The job record keeps the due time, whatever was called. Assumes nothing.
--   sent_dues          jobs that are sent keep theirs
--   joined_dues        the job that plan makes comes last, with its offer's
--   step_records       every call
use mathlib.Core.Path.{◌≡◌, refl, ap}
use mathlib.Core.List.{List, [], ◌∷◌, map-append}
use Prim.Native.Nat.{ℕ, zero, suc}
use Rattle.base_rulings.specs.declared.Ruling.{Ruling}
use Rattle.spec_plain.specs.declared.Job.{Job}
use Rattle.spec_plain.specs.Plain
use Rattle.spec_rulebook.specs.Reading.{offer_of, plan_check, reading_of}
use Rattle.spec_rulebook.specs.Book.{Book, Call, plan, send, clock, retire, made, Plans, Sends, Step}
use Rattle.spec_rulebook.specs.Recorded.{dues_of, Records}
use Rattle.spec_rulebook.proofs.Outcome.{refused, accepted, settled, guarded, planned, retiring}

sent_dues : (n : ℕ) (js : List Job) → dues_of (Plain.sent_up_to n js) ≡ dues_of js
unfolding Plain.sent_up_to
sent_dues zero js = refl
sent_dues (suc n) [] = refl
sent_dues (suc n) (j ∷ js) = ap (λ (l : List ℕ). j.due ∷ l) (sent_dues n js)

joined_dues : (b k : Book) (p o : List ℕ) (r : Ruling) (x : Plain.Placed)
    → Plans b (Plain.joining b.state (offer_of p o) x) r k → Records b (plan p o) r k
unfolding Plans Plain.joining offer_of made
joined_dues b k p o r (Plain.Placed.stop c) q = refused (Records b (plan p o)) b k r (λ x. refl) c q
joined_dues b k p o r (Plain.Placed.done ls rs) q =
    settled (Records b (plan p o)) b k r (λ x. refl) _ 17 (map-append _ b.state.jobs _) q

pub step_records : (b k : Book) (c : Call) (r : Ruling) → Step b c r k → Records b c r k
unfolding Step Sends made reading_of Plain.sent_state Plain.clock_state Plain.leaving Plain.without
step_records b k (plan p o) r q = planned (Records b (plan p o)) b k r (λ x. refl) (plan_check b.state p o) (offer_of p o) (joined_dues b k p o r) q
step_records b k (send place) r q =
    let P = Records b (send place) in
    guarded P b k r (λ x. refl) _ 18 _ (λ s. accepted P b k r (λ x. refl) _ (sent_dues (suc place) b.state.jobs) s.2 s.3) q
step_records b k (clock c) r q =
    let P = Records b (clock c) in
    guarded P b k r (λ x. refl) _ 19 _ (λ s. settled P b k r (λ x. refl) _ 20 refl s) q
step_records b k retire r q = retiring (Records b retire) b k r (λ x. refl) b.state.jobs (λ j rest e. (j.due, ap dues_of e)) q
