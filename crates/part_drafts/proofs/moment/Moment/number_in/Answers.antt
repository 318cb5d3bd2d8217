-- The line is longer by each allocation of its resource (`then_long`), and those are counted.
use Rattle.std.proofs.Common.{◌≡◌, ap, ◌∙◌, arith, rules, tests}
use Rattle.std.specs.List.{count_by}
use Rattle.std.proofs.lemmas.List.Sums.{length-filter}
use Rattle.std.proofs.lemmas.Iterator.{YieldsList-from_slice}
use Rattle.std.proofs.lemmas.Iterator.Consumers.{YieldsList-from_filter, count_from_yields_List}
use Rattle.part_boardwords.specs.Words.{word_in}
use Rattle.part_drafts.proofs.Moments.{into, then_long}
use Rattle.part_drafts.proofs.moment.Moment.number_in.Goals as goal

pub returns : goal.returns
returns c =
    let list = c.args.self.earlier.list.now in
    let counted : c.count-more.result ≡ count_by (into c.args.resource) list =
    count_from_yields_List c.filter.result c.count-more.result c.count-more.ensures.ran
    (YieldsList-from_filter _ (into c.args.resource) (YieldsList-from_slice list (search rules)) c.filter.ensures.closure (λ x r q k. search (rules, tests)))
    ∙ length-filter (into c.args.resource) list in
    omega (arith, counted, then_long c.args.self.first c.args.self.w.now list c.args.resource c.requires c.args.self.lined, ap (word_in c.args.self.w.now) c.line_start.ensures)
