use Rattle.std.proofs.Common.{arith}
use Rattle.nodes.proofs.Rows.{kind_code, rows_written, length_written}
use Rattle.nodes.proofs.table.Nodes.push.Goals as goal

pub returns : goal.returns
returns c =
    let ws = c.args.self.now.words.now in
    record {
      number = omega arith;
      used = omega arith;
      rows = rows_written ws c.args.self.now.used _ c.args.node (kind_code c.args.node.kind) (omega (arith, c.left.ensures));
      length = length_written ws _ _ c.args.node;
    }
