use Rattle.nodes.proofs.Growing.{builds_so}
use Rattle.plain.proofs.Building.{is_const}
use Rattle.plain.proofs.store_of.PlainStore.constant.Goals as goal

pub returns : goal.returns
returns c = builds_so 1 _ _ _ _ c.put.result c.put.ensures (is_const _ c.args.name c.args.args)
