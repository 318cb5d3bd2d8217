-- What is said of a ruling. Assumes nothing.
--   said r   nothing where it is accepted; no words of a refusal are stated
use Rattle.std.specs.Prelude.{ℕ, List, [], Option, Some, None}
use Rattle.base_rulings.specs.declared.Ruling.{Ruling}
use Rattle.base_rulings.specs.declared.Ruling.TheVariants.{Accepted, Refused}

abbrev pub said : Ruling → Option (List ℕ)
said Accepted = Some []
said (Refused c) = None
