-- The brackets that are open and the S-expressions that began are those of the tokens read.
use Rattle.std.proofs.Common.{length}
use Rattle.reader.proofs.Nesting.{Counting}
use Rattle.reader.proofs.line.start_of.Given as goal

abbrev pub invariant-loop-depth : goal.invariant-loop-depth
invariant-loop-depth l = Counting l.text l.n l.tokens l.depth l.begun

abbrev pub decreases-loop-depth : goal.decreases-loop-depth
decreases-loop-depth l = length l.tokens.rest.now
