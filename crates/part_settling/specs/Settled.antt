-- Rules settled on a table: added to it one after the other.
--   AllUsable n rs    each rule names the first n points, and its numbers keep sums within 32 bits
--   added_all rs n l   the cells with the rules added, or none where a rule does not agree with those before it
--   added_each rs n l  the cells with the rules added, where they are known to agree
--   outcome ok l      the answer of the code that adds them: the cells, or none
use Rattle.std.specs.Prelude.{ℕ, Bool, true, false, List, [], ◌∷◌}
use Rattle.std.proofs.Math.Option.{Option, some, none}
use Rattle.spec_plain.specs.declared.Rule.{Rule}
use Rattle.base_lists.specs.All.{All}
use Rattle.spec_stn.specs.Table.{is_consistent}
use Rattle.part_gaps.specs.Cells.{table_of, added, Usable}

abbrev pub AllUsable : ℕ → List Rule → Type 0
AllUsable n rs = All (Usable n) rs

unfoldable pub added_all : List Rule → ℕ → List ℕ → Option (List ℕ)
added_all [] n l = some l
added_all (r ∷ rs) n l = elim (is_consistent r (table_of l)) [ true ↦ added_all rs n (added l n r) | false ↦ none ]

unfoldable pub added_each : List Rule → ℕ → List ℕ → List ℕ
added_each [] n l = l
added_each (r ∷ rs) n l = added_each rs n (added l n r)

unfoldable pub outcome : Bool → List ℕ → Option (List ℕ)
outcome true l = some l
outcome false l = none
