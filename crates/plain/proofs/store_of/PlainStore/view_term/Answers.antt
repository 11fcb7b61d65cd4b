use Rattle.nodes.specs.Meaning.{items}
use Rattle.nodes.specs.Table.{rows_of}
use Rattle.plain.proofs.Showing.{term_says, no_term}
use Rattle.plain.proofs.store_of.PlainStore.view_term.Goals as goal

pub returns : goal.returns
returns c =
    term_says (items (rows_of c.args.self.now.nodes.now)) c.args.n c.in_ok-get.field-0 c.in_ok-get.ensures.shows
    c.as_term.result c.as_term.ensures

pub returns-in_err-get : goal.returns-in_err-get
returns-in_err-get c = rw c.from_residual.ensures (no_term (items (rows_of c.args.self.now.nodes.now)) c.args.n c.in_err-get.ensures.shows)
