use Rattle.std.proofs.Common.{arith}
use Rattle.nodes.proofs.Looping.{stays, alike, same_held}
use Rattle.nodes.proofs.table.Nodes.equal.Goals as goal

pub returns : goal.returns
returns c =
    let ws = c.args.self.now.words.now in
    let u = c.args.self.now.used in
    record {
      stays = stays ws _ u c.same.ensures.kept (omega arith);
      sound = λ e. alike ws u c.args.m c.args.n (c.same.ensures.sound e);
      complete = λ i x y. c.same.ensures.complete (same_held ws u c.args.m c.args.n i x y);
    }
