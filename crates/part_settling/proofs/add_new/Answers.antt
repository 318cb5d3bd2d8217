-- A rule that is known already changes no cell, and one that agrees cuts no way off.
use Rattle.std.proofs.Common.{sym, ◌∙◌}
use borrow.Author.Tests.{leb-true}
use Rattle.part_gaps.proofs.Added.{added_known, agrees_whole}
use Rattle.part_settling.proofs.add_new.Goals as goal

pub add-requires-clause-whole : goal.add-requires-clause-whole
add-requires-clause-whole c =
    let u = c.requires.t_len.2 in
    agrees_whole _ _ _ c.requires.closed.0 u.early_live u.late_live c.requires.closed.1

pub returns-else-not-entails : goal.returns-else-not-entails
returns-else-not-entails c =
    let p = c.requires.t_len in
    let u = p.2 in
    sym (added_known c.args.t.now _ _ p.0 p.1 c.requires.closed.0 u.early_live u.late_live (leb-true _ _ (sym c.entails.ensures ∙ c.if-not-entails.false)))
