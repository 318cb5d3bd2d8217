-- A list laid into an array of n places, with z in every place not in use. An array that holds a list this way is a function of the list
-- alone, so equal lists give equal arrays.
--   padded n z l   the list l in n places, z in the places past its end; what does not fit is left out
use Rattle.std.specs.Prelude.{ℕ, zero, suc, List, [], ◌∷◌}

module _ {A : Type 0} where
  unfoldable pub padded : ℕ → A → List A → List A
  padded zero z l = []
  padded (suc n) z [] = z ∷ padded n z []
  padded (suc n) z (a ∷ l) = a ∷ padded n z l
