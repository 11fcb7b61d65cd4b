use Rattle.nodes.specs.Items.{ty}
use Rattle.plain.proofs.store_of.PlainStore.same_type.Goals as goal

pub returns : goal.returns
returns c =
    record {
      stays = c.equal.ensures.stays;
      sound = λ e. (c.equal.ensures.sound e).typ;
      complete = λ u. c.equal.ensures.complete (ty u);
    }
