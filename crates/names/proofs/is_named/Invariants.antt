-- What is left of the name is to be what is left of the bytes.
use Rattle.names.proofs.Spelling.{Comparing}
use Rattle.names.proofs.is_named.Given as goal

abbrev pub invariant-loop-byte : goal.invariant-loop-byte
invariant-loop-byte g l = Comparing (g.S.Store.state l.store).contents l.name l.bytes l.byte-index l.rest
