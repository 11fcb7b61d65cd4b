use Rattle.std.specs.Iterator.Adapters.{rev_source}
use Rattle.std.specs.Slice.Iter.{iter_rest}
use Rattle.nodes.specs.Meaning.{state_of}
use Rattle.nodes.proofs.Naming.{Named}
use Rattle.nodes.proofs.table.Nodes.name.Given as goal

abbrev pub invariant-loop-byte : goal.invariant-loop-byte
invariant-loop-byte l = Named (state_of l.initial.self) (state_of l.self) l.w (iter_rest (rev_source l.byte-iterator)) l.n
