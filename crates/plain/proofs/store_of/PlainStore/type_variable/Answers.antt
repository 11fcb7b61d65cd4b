use Rattle.nodes.specs.Meaning.{state_of}
use Rattle.nodes.proofs.Growing.{builds_so}
use Rattle.nodes.proofs.Naming.{zero_word}
use Rattle.plain.proofs.Building.{is_tyvar}
use Rattle.plain.proofs.store_of.PlainStore.type_variable.Goals as goal

pub returns : goal.returns
returns c =
    let t = c.put.new.self in
    builds_so 1 _ _ _ _ c.put.result c.put.ensures
    (λ k. is_tyvar (state_of t).contents c.args.name 0 k (zero_word t.words.now t.used))
