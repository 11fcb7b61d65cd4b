use Rattle.std.proofs.Common.{◌+◌, length, arith}
use Rattle.store.specs.Builds.{IsLetter}
use Rattle.nodes.specs.Meaning.{state_of}
use Rattle.nodes.proofs.Growing.{builds_after}
use Rattle.nodes.proofs.Naming.{zero_word, names_letter}
use Rattle.nodes.proofs.table.Nodes.letter.Goals as goal

pub returns : goal.returns
returns c =
    let w = c.args.w.now in
    let t = state_of c.name.new.self in
    let u = state_of c.put.new.self in
    builds_after (length w) 1 (1 + length w) (state_of c.args.self.now) t u _ (IsLetter w) c.put.result (omega arith)
    (omega (arith, c.left.ensures, c.if-left-w.false)) c.in_ok-n.ensures.grows c.put.ensures
    (λ k g made. names_letter t u w c.in_ok-n.n k c.in_ok-n.ensures.stands
    (zero_word c.put.new.self.words.now c.put.new.self.used) g made)
