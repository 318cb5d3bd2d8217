-- What a draft says.
--   DraftedAs r d   the answer r is the plain machine's d; the lines and jobs to be are not in it, for the plan writes them where it is accepted
use Rattle.std.specs.Prelude.{◌≡◌, Result, Ok, Err}
use Rattle.base_rulings.specs.declared.Cause.{Cause}
use Rattle.spec_plain.specs.Plain.{Draft}
use Rattle.part_lines.specs.declared.rulelist.Rules.{Rules}
use Rattle.part_lines.specs.ArrayLists.{rules_from}

unfoldable pub DraftedAs : Result Rules Cause → Draft → Type 0
DraftedAs r (Draft.stop c) = r ≡ Err c
DraftedAs r (Draft.go s n rs) = r ≡ Ok (rules_from rs)
