-- Words that are moved by one place, as the words that they were. Assumes nothing.
--   moved   what `copy_within` writes from p on and before q, where f says where each word comes from
use Prim.Native.Nat.{ℕ, ◌+◌, ◌-◌, ◌≤◌, ◌<◌}
use mathlib.Core.Path.{◌≡◌, ◌∙◌, ap}
use mathlib.Core.List.{List}
use lib.ListN.{length, get_or, drop}
use lib.Seq.{paste}
use Rattle.base_lists.specs.Loops.{rewritten}
use Rattle.base_lists.proofs.Parts.{cells_moved}
use Rattle.base_lists.proofs.Rewritten.{rewritten_length, rewritten_in, rewritten_below, rewritten_from, rewritten_is}

pub moved :
    (f : ℕ → ℕ) (w : List ℕ) (i p n q : ℕ) → i + n ≤ length w → p + n ≤ length w → q ≡ p + n
    → ((k : ℕ) → p ≤ k → k < q → i + (k - p) ≡ f k) → paste w p (drop i w) n ≡ rewritten (λ k. get_or w (f k) 0) w p q
moved f w i p n q there room end from =
    let g : ℕ → ℕ = λ k. get_or w (i + (k - p)) 0 in
    cells_moved w i p n q there room end
    ∙ rewritten_is (λ k. get_or w (f k) 0) w (rewritten g w p q) p q (rewritten_length g w p q)
    (λ k lo hi h. rewritten_in g w p q k lo hi h ∙ ap (λ (j : ℕ). get_or w j 0) (from k lo hi)) (rewritten_below g w p q) (rewritten_from g w p q)
