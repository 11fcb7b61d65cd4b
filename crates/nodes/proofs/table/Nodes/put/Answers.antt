use Rattle.nodes.proofs.Adding.{puts}
use Rattle.nodes.proofs.table.Nodes.put.Goals as goal

pub returns : goal.returns
returns c = puts _ _ _ c.push.result c.push.ensures c.size_of-size.ensures
