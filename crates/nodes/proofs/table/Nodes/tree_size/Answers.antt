use Rattle.std.proofs.Common.{rules}
use Rattle.nodes.proofs.Reading.{size_asked}
use Rattle.nodes.specs.Table.{rows}
use Rattle.nodes.proofs.table.Nodes.tree_size.Goals as goal

pub returns : goal.returns
returns c =
    size_asked (rows c.args.self.now.words.now c.args.self.now.used) c.args.n _ c.map_or.result c.get.ensures.node c.map_or.ensures
    (λ d h. search (rules, h))
