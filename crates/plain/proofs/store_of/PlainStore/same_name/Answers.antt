use Rattle.nodes.specs.Meaning.{state_of}
use Rattle.plain.proofs.Showing.{whole_name}
use Rattle.plain.proofs.store_of.PlainStore.same_name.Goals as goal

pub returns : goal.returns
returns c =
    record {
      stays = c.equal.ensures.stays;
      sound = λ e. (c.equal.ensures.sound e).word;
      complete = whole_name (state_of c.args.self.now.nodes.now).contents c.args.v c.args.w c.equal.result
          c.equal.ensures.complete;
    }
