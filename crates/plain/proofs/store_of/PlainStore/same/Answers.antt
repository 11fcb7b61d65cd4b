use Rattle.nodes.specs.Items.{tm}
use Rattle.plain.proofs.store_of.PlainStore.same.Goals as goal

pub returns : goal.returns
returns c =
    record {
      stays = c.equal.ensures.stays;
      sound = λ e. (c.equal.ensures.sound e).term;
      complete = λ u. c.equal.ensures.complete (tm u);
    }
