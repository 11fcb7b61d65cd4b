use Rattle.nodes.specs.Meaning.{items}
use Rattle.nodes.specs.Table.{rows_of}
use Rattle.plain.proofs.Showing.{type_says, no_type}
use Rattle.plain.proofs.store_of.PlainStore.view_type.Goals as goal

pub returns : goal.returns
returns c =
    type_says (items (rows_of c.args.self.now.nodes.now)) c.args.n c.in_ok-get.field-0 c.in_ok-get.ensures.shows
    c.as_type.result c.as_type.ensures

pub returns-in_err-get : goal.returns-in_err-get
returns-in_err-get c = rw c.from_residual.ensures (no_type (items (rows_of c.args.self.now.nodes.now)) c.args.n c.in_err-get.ensures.shows)
