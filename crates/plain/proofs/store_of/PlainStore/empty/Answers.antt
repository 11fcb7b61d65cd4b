use Rattle.nodes.proofs.Naming.{zero_word, zero_types, zero_terms}
use Rattle.plain.proofs.store_of.PlainStore.empty.Goals as goal

pub returns : goal.returns
returns c =
    let s = c.args.self.now.nodes.now in
    record {
      word = zero_word s.words.now s.used;
      types = zero_types s.words.now s.used;
      terms = zero_terms s.words.now s.used;
    }
