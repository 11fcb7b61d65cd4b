use Rattle.std.proofs.Common.{sym, ap, ◌∙◌}
use Rattle.nodes.specs.Meaning.{items, state_of}
use Rattle.nodes.specs.Table.{rows_of}
use Rattle.nodes.proofs.Made.{some_inj}
use Rattle.nodes.proofs.Naming.{zero_terms}
use Rattle.plain.proofs.Showing.{terms_says, no_terms}
use Rattle.plain.proofs.store_of.PlainStore.view_terms.Goals as goal

pub returns-then-n-eq-EMPTY : goal.returns-then-n-eq-EMPTY
returns-then-n-eq-EMPTY c w h =
    let s = c.args.self.now.nodes.now in
    some_inj (sym h ∙ ap (state_of s).contents.terms c.if-n-eq-EMPTY.true ∙ zero_terms s.words.now s.used)

pub returns : goal.returns
returns c =
    terms_says (items (rows_of c.args.self.now.nodes.now)) c.args.n c.in_ok-get.field-0 c.in_ok-get.ensures.shows
    c.as_terms.result c.as_terms.ensures

pub returns-in_err-get : goal.returns-in_err-get
returns-in_err-get c w h =
    absurd (no_terms (items (rows_of c.args.self.now.nodes.now)) c.args.n c.in_err-get.ensures.shows c.if-n-eq-EMPTY.false w h)
