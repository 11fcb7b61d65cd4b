use Rattle.nodes.proofs.Growing.{builds_so}
use Rattle.plain.proofs.Building.{is_terms}
use Rattle.plain.proofs.store_of.PlainStore.cons_term.Goals as goal

pub returns : goal.returns
returns c = builds_so 1 _ _ _ _ c.put.result c.put.ensures (is_terms _ c.args.t c.args.rest)
