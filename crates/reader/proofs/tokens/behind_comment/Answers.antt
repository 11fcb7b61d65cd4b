-- The first line feed, or the end of the text, ends the comment.
use Rattle.std.proofs.Common.{rules, tests, sym, ◌∙◌}
use Rattle.std.proofs.lemmas.Iterator.{YieldsList-from_slice}
use Rattle.std.proofs.lemmas.Iterator.Search.{position_from_yields_List}
use Rattle.reader.proofs.Ahead.{feeds, comment_some, comment_none}
use Rattle.reader.proofs.tokens.behind_comment.Goals as goal

pub returns-in-Some : goal.returns-in-Some
returns-in-Some c =
    comment_some c.args.text.now c.in-Some.end
    (sym (position_from_yields_List feeds _ _ c.position.result c.position.ensures.ran (YieldsList-from_slice _ c.iter.ensures.rest)
    (λ x b q k. search (rules, tests))) ∙ c.in-Some.is)

pub returns-in-None : goal.returns-in-None
returns-in-None c =
    comment_none c.args.text.now
    (sym (position_from_yields_List feeds _ _ c.position.result c.position.ensures.ran (YieldsList-from_slice _ c.iter.ensures.rest)
    (λ x b q k. search (rules, tests))) ∙ c.in-None.is)
