-- A board as its words: what specs/Words reads, written.
--   words_of b      the words of a board: its frame, and its cells
--   frame_words b   those before the cells: its head, its jobs, its lines
--   settings_words s, job_words j, use_words u, line_words l   those of settings, of a job, of a use, of a line;  mark_of: of a mark
--   head_words b    settings, clock and job count
--   jobs_words, uses_words, lines_words, cells_words   of all of them
--   joined f n     f 0, .., f (n - 1), one behind the other
--   overwritten w at l  the list w with the elements of l written over it, from place `at` on
-- That reading and writing are inverse is proved in proofs/Inverse and proofs/Back.
use Rattle.std.specs.Prelude.{ℕ, zero, suc, Bool, cond, List, [], ◌∷◌, ◌++◌, get_or, set}
use Rattle.spec_plain.specs.Limits.{most_jobs, resources, most_uses, cell_count}
use Rattle.spec_plain.specs.declared.Settings.{Settings}
use Rattle.spec_plain.specs.declared.Job.{Job}
use Rattle.spec_plain.specs.declared.Use.{Use}
use Rattle.spec_plain.specs.Plain.{no_use}
use Rattle.part_lines.specs.declared.Line.{Line}
use Rattle.part_lines.specs.ArrayLists.{no_job, no_line}
use Rattle.part_boardwords.specs.Board.{Board}
use Rattle.base_lists.specs.Loops.{build}

unfoldable pub joined : (ℕ → List ℕ) → ℕ → List ℕ
joined f zero = []
joined f (suc n) = joined f n ++ f n

abbrev pub settings_words : Settings → List ℕ
settings_words s = s.horizon ∷ s.lead ∷ []

abbrev pub mark_of : Bool → ℕ
mark_of s = cond s 1 0

abbrev pub job_words : Job → List ℕ
job_words j = j.points ∷ j.batch ∷ mark_of j.sent ∷ j.due ∷ []

abbrev pub use_words : Use → List ℕ
use_words u = u.point ∷ u.offset ∷ u.length ∷ []

abbrev pub uses_words : List Use → List ℕ
uses_words us = joined (λ k. use_words (get_or us k no_use)) most_uses

abbrev pub line_words : Line → List ℕ
line_words l = l.count ∷ uses_words l.uses

abbrev pub jobs_words : List Job → List ℕ
jobs_words js = joined (λ k. job_words (get_or js k no_job)) most_jobs

abbrev pub lines_words : List Line → List ℕ
lines_words ls = joined (λ k. line_words (get_or ls k no_line)) resources

abbrev pub cells_words : List ℕ → List ℕ
cells_words l = build (λ k. get_or l k 0) cell_count

abbrev pub head_words : Board → List ℕ
head_words b = settings_words b.settings ++ (b.clock ∷ b.jobs.count ∷ [])

unfoldable pub frame_words : Board → List ℕ
frame_words b = head_words b ++ (jobs_words b.jobs.jobs ++ lines_words b.lines)

unfoldable pub words_of : Board → List ℕ
words_of b = frame_words b ++ cells_words b.gaps

unfoldable pub overwritten : List ℕ → ℕ → List ℕ → List ℕ
overwritten w at [] = w
overwritten w at (x ∷ l) = overwritten (set w at x) (suc at) l
