-- `is_over` meets its contract: the settings are the first words of the board, and its cells lie behind its frame.
use Rattle.std.proofs.Common.{ℕ, ◌+◌, ◌-◌, List, sym, ◌∙◌, subst, rules}
use mathlib.Core.Path.{ap₂}
use Rattle.spec_plain.specs.declared.Settings.{Settings}
use Rattle.spec_stn.specs.Table.{entails_all}
use Rattle.part_gaps.specs.Cells.{table_of}
use Rattle.part_boardwords.specs.Layout.{clock_at}
use Rattle.part_boardwords.specs.Words.{word_in, lines_read}
use Rattle.part_boardwords.proofs.Lent.{cells_lent}
use Rattle.call_retiring.specs.Ending.{InReach}
use Rattle.call_retiring.proofs.Retired.{ends}
use Rattle.call_retiring.proofs.is_over.Goals as goal

pub invariant_of-leaving : goal.invariant_of-leaving
invariant_of-leaving c =
    let W = c.args.w.now in
    let reach = subst (λ (l : List ℕ). InReach l (word_in W clock_at) 1 c.args.m) (sym (cells_lent W c.requires.w_len)) c.requires.in_reach.0 in
    record { reach = reach }

pub are_over-requires : goal.are_over-requires
are_over-requires c = (c.requires.in_reach.1, search rules, c.requires.in_reach.2)

pub returns : goal.returns
returns c =
    let W = c.args.w.now in
    c.are_over.ensures
    ∙ ap₂ (λ (l : List ℕ) (s : Settings). entails_all (table_of l) (ends s (1 + c.args.m - 1) (word_in W clock_at) c.args.m (lines_read (word_in W))))
    (cells_lent W c.requires.w_len) c.settings_in.ensures
