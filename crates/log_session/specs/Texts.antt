-- The text of what ends a log. Assumes nothing.
--   unreadable name      the log of that name cannot be read
--   Tells error name P   P holds of the text that tells of the error in the log of that name, where it is said here
use Rattle.std.specs.Prelude.{ℕ, List, ◌++◌, codes}
use Rattle.log_session.specs.declared.LogError.{LogError}
use Rattle.log_session.specs.declared.LogError.TheVariants.{Line, Unreadable}

abbrev pub unreadable : List ℕ → List ℕ
unreadable name =
    codes "0 cannot read " ++ name ++ codes ": see that it is a file that may be read, with a name of at most 4095 bytes\n"

abbrev pub Tells : LogError → List ℕ → (List ℕ → Type 0) → Type 0
Tells (Line row fault) name P = Unit {0}
Tells Unreadable name P = P (unreadable name)
