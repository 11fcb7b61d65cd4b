-- Behind the bytes read, the reader stands for what they come to.
use Rattle.reader.proofs.Whole.{Reading}
use Rattle.reader.proofs.count.Given as goal

abbrev pub invariant-loop-byte : goal.invariant-loop-byte
invariant-loop-byte l = Reading l.text l.byte-index l.reader
