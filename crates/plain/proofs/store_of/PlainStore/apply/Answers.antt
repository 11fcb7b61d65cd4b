use Rattle.nodes.proofs.Growing.{builds_so}
use Rattle.plain.proofs.Building.{is_app}
use Rattle.plain.proofs.store_of.PlainStore.apply.Goals as goal

pub returns : goal.returns
returns c = builds_so 1 _ _ _ _ c.put.result c.put.ensures (is_app _ c.args.f c.args.x)
