-- Each line feed before the place begins a line.
use Rattle.std.proofs.Common.{◌≡◌, take, rules, tests, arith, ◌∙◌}
use Rattle.std.proofs.lemmas.Iterator.{YieldsList-from_slice}
use Rattle.std.proofs.lemmas.Iterator.Consumers.{YieldsList-from_filter, count_from_yields_List}
use Rattle.reader.specs.Lines.{line_feeds}
use Rattle.reader.proofs.Ahead.{feeds}
use Rattle.reader.proofs.Feeds.{filtered}
use Rattle.reader.proofs.line.line_of.Goals as goal

pub returns : goal.returns
returns c =
    let before = take c.start_of.result c.args.text.now in
    let counted : c.count.result ≡ line_feeds before =
    count_from_yields_List c.filter.result _ c.count.ensures.ran
    (YieldsList-from_filter _ feeds (YieldsList-from_slice before cc) c.filter.ensures.closure (λ x b q k. search (rules, tests)))
    ∙ filtered before in
    (c.start_of.result, c.start_of.ensures.says, omega arith)
