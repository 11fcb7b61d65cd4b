use Rattle.lent.specs.Piles.{pile_of}
use Rattle.nodes.proofs.Looping.{Looping, work}
use Rattle.nodes.proofs.table.equal.same.Given as goal

abbrev pub invariant-loop-pair : goal.invariant-loop-pair
invariant-loop-pair l = Looping l.nodes l.m l.n l.pair (pile_of l.pairs)

abbrev pub decreases-loop-pair : goal.decreases-loop-pair
decreases-loop-pair l = work l.pair (pile_of l.pairs)
