use Rattle.nodes.proofs.Growing.{builds_so}
use Rattle.plain.proofs.Building.{is_free}
use Rattle.plain.proofs.store_of.PlainStore.free.Goals as goal

pub returns : goal.returns
returns c = builds_so 1 _ _ _ _ c.put.result c.put.ensures (is_free _ c.args.name c.args.a)
