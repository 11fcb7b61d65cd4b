use Rattle.nodes.proofs.Growing.{builds_so}
use Rattle.plain.proofs.Building.{is_types}
use Rattle.plain.proofs.store_of.PlainStore.cons_type.Goals as goal

pub returns : goal.returns
returns c = builds_so 1 _ _ _ _ c.put.result c.put.ensures (is_types _ c.args.a c.args.rest)
