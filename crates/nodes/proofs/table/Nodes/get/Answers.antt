use Rattle.std.proofs.Common.{subst, arith}
use Rattle.nodes.specs.Meaning.{Gets}
use Rattle.nodes.proofs.Rows.{rows-front}
use Rattle.nodes.proofs.table.Nodes.get.Goals as goal

pub returns : goal.returns
returns c =
    let ws = c.args.self.now.words.now in
    subst (λ ds. Gets ds c.args.n c.node_of.result) (rows-front ws c.args.self.now.used (omega (arith, c.args.self.now.fits))) c.node_of.ensures
