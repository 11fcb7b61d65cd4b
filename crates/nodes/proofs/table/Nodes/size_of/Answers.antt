use Rattle.nodes.proofs.Reading.{size_both, size-second}
use Rattle.nodes.specs.Meaning.{held}
use Rattle.nodes.proofs.table.Nodes.size_of.Goals as goal

pub returns-then-counts_first : goal.returns-then-counts_first
returns-then-counts_first c =
    size_both (held c.args.self.now.words.now c.args.self.now.used) c.args.kind c.args.x c.args.y
    c.tree_size-then-counts_first.result c.tree_size.result c.saturating_add-rest.result c.saturating_add.result
    c.tree_size-then-counts_first.ensures c.tree_size.ensures c.saturating_add-rest.ensures c.saturating_add.ensures
    c.if-counts_first.ensures

pub returns-else-counts_first : goal.returns-else-counts_first
returns-else-counts_first c =
    size-second (held c.args.self.now.words.now c.args.self.now.used) c.args.kind c.args.x c.args.y
    c.tree_size.result c.saturating_add-rest.result c.tree_size.ensures c.saturating_add-rest.ensures
    c.if-counts_first.ensures
